use Rattle.keys.proofs.Ranges.{short_stop, short_last, none_same, first_stops, middle_stops, last_byte}
use borrow.Author.Rules.{rules}
use Rattle.keys.proofs.same_short.Goals as goal

pub returns-then-word : goal.returns-then-word
returns-then-word c = search (short_stop, rules)

pub returns-then-n-ge4 : goal.returns-then-n-ge4
returns-then-n-ge4 c = search (short_last, rules)

pub returns-then-n-eq0 : goal.returns-then-n-eq0
returns-then-n-eq0 c = search none_same

pub returns-then-a-b : goal.returns-then-a-b
returns-then-a-b c = search first_stops

pub returns-then-a-middle : goal.returns-then-a-middle
returns-then-a-middle c = search middle_stops

pub returns : goal.returns
returns c = search (last_byte, rules)
