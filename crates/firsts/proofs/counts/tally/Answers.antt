use native.Mathlib.Omega.{arith}
use Rattle.groups.proofs.Building.{tallied-own}
use Rattle.groups.proofs.Ways.{firsts-begin, firsts-fit, tally_hit, tally_miss, tally_next, tally_all}
use borrow.Author.Rules.{rules}
use Rattle.firsts.proofs.counts.tally.Goals as goal
use Rattle.firsts.proofs.counts.tally.Goals.{else-f-k, then-f-k}

pub loop-k-init : goal.loop-k-init
loop-k-init c = (firsts-begin _, c.requires)

pub tally_one-f-requires : goal.tally_one-f-requires
tally_one-f-requires c = record { k_lt_n = omega arith; tallied = tallied-own _ _ _ _ _ c.loop-k.invariant.1 }

pub overflow_add-d : goal.overflow_add-d
overflow_add-d c = search (firsts-fit, arith)

pub loop-k-preserved : goal.loop-k-preserved
loop-k-preserved c = elim c.if-f-k.branch [ then-f-k w ↦ search (tally_hit, tally_next, rules) | else-f-k w ↦ search (tally_miss, tally_next, rules) ]

pub returns : goal.returns
returns c = let l = c.loop-k in
    tally_all _ _ _ l.k _ _ (omega arith) l.invariant.0 l.invariant.1
