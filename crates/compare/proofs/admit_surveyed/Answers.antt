use Rattle.compare.proofs.Comparing.{admit_zero, admit_outside, admit_heap, admit_size}
use Rattle.compare.proofs.admit_surveyed.Goals as goal

pub returns-in-Some : goal.returns-in-Some
returns-in-Some c = search admit_zero

pub returns-then-s : goal.returns-then-s
returns-then-s c = search admit_outside

pub returns-then-s-2 : goal.returns-then-s-2
returns-then-s-2 c = search admit_heap

pub returns : goal.returns
returns c = search admit_size
