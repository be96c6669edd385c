use Prim.Native.Nat.{ℕ, ◌+◌, ◌-◌}
use native.Mathlib.Omega.{arith}
use mathlib.Core.Path.{◌≡◌, refl, ap, ◌∙◌}
use lib.ListN.{get_or, set}
use lib.Seq.{get_or-set_same}
use borrow.Author.Rules.{rules}
use Rattle.table.proofs.path.Path.enter.Goals as goal

pub returns : goal.returns
returns c = let d = c.args.self.depth in
    let e : d + 1 - 1 ≡ d = omega arith in
    record { rows_are = refl; deeper = refl; top = ap (λ (k : ℕ). get_or (set c.args.self.rows d c.args.row) k 0) e ∙ get_or-set_same c.args.self.rows d _ 0 (search rules) }
