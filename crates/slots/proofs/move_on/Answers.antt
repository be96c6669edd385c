use Rattle.slots.proofs.Repeating.{moving_next, moving_end}
use Rattle.slots.proofs.move_on.Goals as goal

pub loop-k-preserved : goal.loop-k-preserved
loop-k-preserved c = search moving_next

pub returns : goal.returns
returns c = search moving_end
