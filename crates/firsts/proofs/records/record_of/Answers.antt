use Rattle.firsts.proofs.Places.{first-within, first-is, second-within, second_is}
use borrow.Author.Rules.{rules}
use Rattle.firsts.proofs.records.record_of.Goals as goal

pub part_of-requires : goal.part_of-requires
part_of-requires c = search (first-within, rules)

pub returns-then-k-first : goal.returns-then-k-first
returns-then-k-first c = search first-is

pub part_of-requires-2 : goal.part_of-requires-2
part_of-requires-2 c = search (second-within, rules)

pub returns : goal.returns
returns c = search second_is
