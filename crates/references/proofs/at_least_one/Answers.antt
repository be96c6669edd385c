use native.Mathlib.Omega.{arith}
use Rattle.format.specs.Slots.{record_size_of}
use Rattle.references.proofs.at_least_one.Goals as goal

pub returns : goal.returns
unfolding record_size_of
returns c = (c.max.ensures, omega (arith, c.max.ensures))
