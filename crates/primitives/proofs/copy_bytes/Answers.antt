use Prim.Native.Nat.{ℕ, ◌+◌, ◌<◌}
use mathlib.Core.Path.{◌≡◌, sym, ap, ◌∙◌}
use mathlib.Core.List.{List}
use native.Mathlib.Omega.{arith}
use lib.ListN.{length, take, drop, set, get_or, length-drop}
use lib.Seq.{sets, get_or-drop}
use Rattle.format.proofs.Lists.{sets-take}
use Rattle.primitives.proofs.copy_bytes.Goals as goal

pub loop-i-preserved : goal.loop-i-preserved
loop-i-preserved c =
    let l = c.loop-i in
    let a = c.args in
    let d = drop a.start a.from.now in
    let short : l.i < length d = omega (arith, length-drop a.start a.from.now) in
    ap (λ (p : List ℕ). set p (a.place + l.i) (get_or a.from.now (a.start + l.i) 0)) l.invariant
    ∙ ap (λ (x : ℕ). set (sets a.to.now a.place (take l.i d)) (a.place + l.i) x) (sym (get_or-drop a.start a.from.now l.i 0))
    ∙ sets-take d a.to.now a.place l.i short
