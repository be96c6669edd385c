use native.Mathlib.Omega.{arith}
use borrow.Author.Tests.{lt-ltb, le-ltb}
use Rattle.format.specs.Message.{permutation_bytes_of}
use Rattle.primitives.proofs.permutation_bytes.Goals as goal

pub returns-in-0-to-2 : goal.returns-in-0-to-2
unfolding permutation_bytes_of
returns-in-0-to-2 c = (rw (lt-ltb c.args.version 3 (omega arith)), omega arith)

pub returns-in_default : goal.returns-in_default
unfolding permutation_bytes_of
returns-in_default c = (rw (le-ltb c.args.version 3 (omega arith)), omega arith)
