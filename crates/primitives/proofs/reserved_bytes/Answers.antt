use native.Mathlib.Omega.{arith}
use borrow.Author.Tests.{lt-ltb, le-ltb}
use Rattle.format.specs.Message.{reserved_bytes_of}
use Rattle.primitives.proofs.reserved_bytes.Goals as goal

pub returns-in-0-to-2 : goal.returns-in-0-to-2
unfolding reserved_bytes_of
returns-in-0-to-2 c = (rw (lt-ltb c.args.version 3 (omega arith)), omega arith)

pub returns-in_default : goal.returns-in_default
unfolding reserved_bytes_of
returns-in_default c = (rw (le-ltb c.args.version 3 (omega arith)), omega arith)
