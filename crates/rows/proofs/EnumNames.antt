-- The names of an enumeration's members, one row after another, and how long their values are.
use Prim.Native.Nat.{ℕ, zero, suc, ◌+◌, ◌-◌, ◌<◌, ◌≤◌}
use mathlib.Core.Path.{◌≡◌, refl, sym, ap, ◌∙◌}
use mathlib.Core.Bool.{Bool, true, false}
use lib.Dec.{leb}
use borrow.Author.Tests.{leb-true, leb-false}
use Rattle.std.specs.Bool.{then_some}
use Rattle.std.proofs.lemmas.Option.{none-some, same_Some}
use Rattle.rows.specs.declared.EnumPlace.{EnumPlace}
use mathlib.Core.List.{List, [], ◌∷◌}
use native.Mathlib.Omega.{arith}
use native.Mathlib.Numerals.{add-one}
use lib.ListN.{take, drop}
use Rattle.format.specs.Table.{found, bad, and_then, enum_names_at}
use Rattle.std.specs.Prelude.{Option, Some, None}
use Rattle.rows.specs.Entries.{enum_member_at_of, from_enum_member, behind_of}
use Rattle.rows.specs.declared.Member.{Member}
use Rattle.rows.proofs.Decode.{enum_names_at-entry}

module _ (table pool : List ℕ) (r p : ℕ) where
  pub names_as : (k : ℕ) {x : Option Member} {m : Member} → 0 < k → x ≡ enum_member_at_of table pool r p → x ≡ Some m
      → enum_names_at table pool k r p ≡ and_then (enum_names_at table pool (k - 1) (r + 1) (p + m.name)) (λ ns r' p'. found ((take m.name (drop p pool), m.number) ∷ ns) r' p')
  unfolding from_enum_member
  names_as (suc k) h q e =
      let j : suc k - 1 ≡ k = omega arith in
      enum_names_at-entry table pool k r p ∙ ap (from_enum_member (enum_names_at table pool k) pool r p) (sym q ∙ e) ∙ rw (j, add-one)
  names_as zero h q e = absurd (omega arith)

  pub names-none : (k : ℕ) {x : Option Member} → 0 < k → x ≡ enum_member_at_of table pool r p → x ≡ None → enum_names_at table pool k r p ≡ bad
  unfolding from_enum_member
  names-none (suc k) h q e = enum_names_at-entry table pool k r p ∙ ap (from_enum_member (enum_names_at table pool k) pool r p) (sym q ∙ e)
  names-none zero h q e = absurd (omega arith)

-- how long the values are in all
unfoldable pub values_long : List (List ℕ × ℕ) → ℕ
values_long [] = 0
values_long (x ∷ ns) = x.1 + values_long ns

-- ---- a place among the rows of the members

then-none : {A : Type 0} (t : Bool) (x : A) → then_some t x ≡ None → t ≡ false
then-none true x e = absurd (none-some _ (sym e))
then-none false x e = refl

then-some : {A : Type 0} (t : Bool) (x : A) {y : A} → then_some t x ≡ Some y → (t ≡ true) × (y ≡ x)
then-some true x e = (refl, sym (same_Some _ _ e))
then-some false x e = absurd (none-some _ e)

module _ (bytes : ℕ) (at : EnumPlace) (m : Member) {o : Option EnumPlace} (b : o ≡ behind_of bytes at m) where
  pub behind-none : o ≡ None → bytes - at.values < m.number
  unfolding behind_of
  behind-none h = leb-false _ _ (then-none _ _ (sym b ∙ h))

  pub behind-some : {x : EnumPlace} → o ≡ Some x → (m.number ≤ bytes - at.values) × (x ≡ record { row = at.row + 1; place = at.place + m.name; values = at.values + m.number })
  unfolding behind_of
  behind-some h = let e = then-some _ _ (sym b ∙ h) in (leb-true _ _ e.0, e.1)

module _ (bytes n : ℕ) {o : Option ℕ} (b : o ≡ then_some (leb n bytes) n) where
  pub end-none : o ≡ None → bytes < n
  end-none h = leb-false _ _ (then-none _ _ (sym b ∙ h))

  pub end-some : {x : ℕ} → o ≡ Some x → (n ≤ bytes) × (x ≡ n)
  end-some h = let e = then-some _ _ (sym b ∙ h) in (leb-true _ _ e.0, e.1)
