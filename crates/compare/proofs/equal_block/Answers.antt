use mathlib.Core.Path.{refl}
use Rattle.compare.specs.Agreeing.{equal_range_of}
use Rattle.compare.proofs.Ranges.{bits_next}
use Rattle.compare.proofs.equal_block.Goals as goal

pub loop-i-init : goal.loop-i-init
unfolding equal_range_of
loop-i-init c = refl

pub loop-i-preserved : goal.loop-i-preserved
loop-i-preserved c = bits_next _ _ _ _ c.loop-i.all c.loop-i.invariant
