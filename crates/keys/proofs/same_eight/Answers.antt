use Rattle.keys.proofs.Ranges.{eight_stop, eight_last}
use Rattle.keys.proofs.same_eight.Goals as goal

pub returns-then-word : goal.returns-then-word
returns-then-word c = search eight_stop

pub returns : goal.returns
returns c = search eight_last
