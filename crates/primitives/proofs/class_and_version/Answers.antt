use native.Mathlib.Omega.{arith}
use Rattle.format.specs.Bits.{class_and_version_of}
use Rattle.primitives.proofs.Laws.{or_shift}
use Rattle.primitives.proofs.class_and_version.Goals as goal

pub returns : goal.returns
unfolding class_and_version_of
returns c = or_shift 4 4 8 c.args.class c.args.version c.requires.1 (omega arith)
