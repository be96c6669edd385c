use native.Mathlib.Omega.{arith}
use borrow.Author.Tests.{le-leb, lt-leb}
use Rattle.format.specs.Message.{skipped_bytes_of}
use Rattle.primitives.proofs.skipped_bytes.Goals as goal

pub returns-in-0-to-1 : goal.returns-in-0-to-1
unfolding skipped_bytes_of
returns-in-0-to-1 c = (rw (le-leb c.args.version 1 (omega arith)), omega arith)

pub returns-in_default : goal.returns-in_default
unfolding skipped_bytes_of
returns-in_default c = (rw (lt-leb c.args.version 1 (omega arith)), omega arith)
