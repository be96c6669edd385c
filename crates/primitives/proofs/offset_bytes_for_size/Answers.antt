use native.Mathlib.Omega.{arith}
use borrow.Author.Tests.{le-leb, lt-leb, lt-ltb, le-ltb}
use Rattle.format.specs.Message.{offset_width}
use Rattle.primitives.proofs.offset_bytes_for_size.Goals as goal

pub returns-in-0-to-2 : goal.returns-in-0-to-2
unfolding offset_width
returns-in-0-to-2 c = (rw (lt-ltb c.args.version 3 (omega arith)), (omega arith, omega arith))

pub returns-in-0-to-255 : goal.returns-in-0-to-255
unfolding offset_width
returns-in-0-to-255 c = (rw (le-ltb c.args.version 3 (omega arith), le-leb c.args.size 255 (omega arith)), (omega arith, omega arith))

pub returns-in-256-to-65535 : goal.returns-in-256-to-65535
unfolding offset_width
returns-in-256-to-65535 c = (rw (le-ltb c.args.version 3 (omega arith), lt-leb c.args.size 255 (omega arith), le-leb c.args.size 65535 (omega arith)), (omega arith, omega arith))

pub returns-in_default-size : goal.returns-in_default-size
unfolding offset_width
returns-in_default-size c = (rw (le-ltb c.args.version 3 (omega arith), lt-leb c.args.size 255 (omega arith), lt-leb c.args.size 65535 (omega arith)), (omega arith, omega arith))
