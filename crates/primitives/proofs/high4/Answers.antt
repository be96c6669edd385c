use mathlib.Core.Path.{refl}
use native.Mathlib.Omega.{arith}
use Rattle.format.specs.Bits.{high_bits}
use Rattle.primitives.proofs.high4.Goals as goal

pub returns : goal.returns
unfolding high_bits
returns c = (refl, omega arith)
