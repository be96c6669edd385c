use native.Mathlib.Omega.{arith}
use Rattle.groups.proofs.Ways.{firsts-begin, firsts-fit, distinct-one, distinct_none, distinct-all}
use Rattle.firsts.proofs.KeyLaws.{counted-keys}
use Rattle.firsts.proofs.plain.count_firsts.Goals as goal
use Rattle.firsts.proofs.plain.count_firsts.Goals.{else-first_of-k, then-first_of-k}

pub loop-k-init : goal.loop-k-init
loop-k-init c = firsts-begin _

pub first_of-requires-clause-k_in_bounds : goal.first_of-requires-clause-k_in_bounds
first_of-requires-clause-k_in_bounds c = omega (arith, counted-keys _ _ _ c.requires _ c.count-k-end.ensures)

pub overflow_add-d : goal.overflow_add-d
overflow_add-d c = search (firsts-fit, arith)

pub loop-k-preserved : goal.loop-k-preserved
loop-k-preserved c = let e = counted-keys _ _ _ c.requires _ c.count-k-end.ensures in
    elim c.if-first_of-k.branch [ then-first_of-k w ↦ search (distinct-one, e, arith) | else-first_of-k w ↦ search (distinct_none, e, arith) ]

pub returns : goal.returns
returns c = let e = counted-keys _ _ _ c.requires _ c.count-k-end.ensures in search (distinct-all, e, arith)
