use Rattle.std.proofs.Common.{◌≡◌, ◌+◌}
use native.Mathlib.Omega.{arith}
use mathlib.Core.Path.{ap}
use Rattle.std.specs.Prelude.{ℕ, slice_index}
use Rattle.rows.specs.Entries.{member_in}
use Rattle.rows.proofs.member_columns.Goals as goal

pub returns : goal.returns
unfolding member_in
returns c =
    let e : c.args.number ≡ 0 + c.args.number = omega arith in
    ap (λ (k : ℕ). record { name = slice_index c.args.words.now 3; number = slice_index c.args.words.now k }) e
