use Rattle.slots.proofs.Numbers.{leaf-slot, leaf-none}
use Rattle.slots.proofs.leaf_tally.Goals as goal

pub returns-then-reference-size : goal.returns-then-reference-size
returns-then-reference-size c = search leaf-slot

pub returns : goal.returns
returns c = search leaf-none
