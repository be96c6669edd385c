use native.Mathlib.Omega.{arith}
use Rattle.format.specs.Bits.{nibbles}
use Rattle.primitives.proofs.Laws.{or_shift}
use Rattle.primitives.proofs.nibbles_of.Goals as goal

pub returns : goal.returns
unfolding nibbles
returns c = or_shift 4 4 32 c.args.low c.args.high c.requires.1 (omega arith)
