use native.Mathlib.Omega.{arith}
use Rattle.format.specs.Bits.{fixed_flags_of}
use Rattle.primitives.proofs.Laws.{or_shift}
use Rattle.primitives.proofs.fixed_flags.Goals as goal

pub returns : goal.returns
unfolding fixed_flags_of
returns c = or_shift 3 1 32 c.args.order c.args.signed c.requires.1 (omega arith)
