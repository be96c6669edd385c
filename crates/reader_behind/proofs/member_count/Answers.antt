use native.Mathlib.Omega.{arith}
use Rattle.format.specs.Reading.{count_of}
use Rattle.reader_behind.proofs.member_count.Goals as goal

pub returns : goal.returns
unfolding count_of
returns c = (omega arith, omega arith)
