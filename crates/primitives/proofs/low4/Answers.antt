use mathlib.Core.Path.{refl}
use Rattle.format.specs.Bits.{low_bits}
use Rattle.format.proofs.Bits.{low-lt}
use Rattle.primitives.proofs.low4.Goals as goal

pub returns : goal.returns
unfolding low_bits
returns c = (refl, low-lt 4 c.args.b)
