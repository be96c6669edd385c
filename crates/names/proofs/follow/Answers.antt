use native.Mathlib.Omega.{arith}
use Rattle.names.proofs.Following.{single-goes, ill-goes, low-goes, high-goes, last-goes, on-goes, more-one}
use Rattle.names.proofs.follow.Goals as goal
use Rattle.names.proofs.follow.Goals.{then-b-low-via-then-b-low, then-b-low-via-else-b-low+then-high-b}

pub returns-then-b-low : goal.returns-then-b-low
returns-then-b-low c =
    elim c.then-b-low.branch [
      | then-b-low-via-then-b-low w ↦ low-goes _ _ c.in-More.is (omega arith)
      | then-b-low-via-else-b-low+then-high-b w ↦ high-goes _ _ c.in-More.is (omega arith)
    ]

pub returns-then-more-eq1 : goal.returns-then-more-eq1
returns-then-more-eq1 c = last-goes _ _ c.in-More.is (omega arith) (omega arith) (omega arith)

pub overflow_sub-result : goal.overflow_sub-result
overflow_sub-result c = more-one _ c.in-More.is c.requires

pub returns-in-Single : goal.returns-in-Single
returns-in-Single c = single-goes _ _ _ c.in-Single.is c.start_of.ensures

pub returns-in-Ill : goal.returns-in-Ill
returns-in-Ill c = ill-goes _ _ c.in-Ill.is

pub returns-else-more-eq1 : goal.returns-else-more-eq1
returns-else-more-eq1 c = on-goes _ _ c.in-More.is (omega arith) (omega arith) c.requires c.if-more-eq1.false
