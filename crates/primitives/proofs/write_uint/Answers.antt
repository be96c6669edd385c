use mathlib.Core.Path.{refl, sym, ◌∙◌}
use native.Mathlib.Nat.{add-zero, sub-zero}
use native.Mathlib.Omega.{arith}
use lib.ListN.{length-set}
use Rattle.primitives.proofs.Laws.{little_more, little_ended}
use Rattle.primitives.proofs.write_uint.Goals as goal

pub loop-i-init : goal.loop-i-init
loop-i-init c = (omega arith, (refl, rw (add-zero, sub-zero)))

pub loop-i-preserved : goal.loop-i-preserved
loop-i-preserved c = let a = c.args in
    let l = c.loop-i in
    (omega arith, (simp length-set l.invariant.1.0, sym (little_more l.out a.offset a.width l.i l.rest (omega arith)) ∙ l.invariant.1.1))

pub returns : goal.returns
returns c = let a = c.args in let l = c.loop-i in sym (little_ended l.out a.offset a.width l.i l.rest (omega arith)) ∙ l.invariant.1.1
