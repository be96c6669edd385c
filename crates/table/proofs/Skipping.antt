-- The members of an enumeration: where their names end, and their values behind all names.
use Prim.Native.Nat.{ℕ, ◌+◌, ◌-◌, ◌<◌, ◌≤◌}
use mathlib.Core.Path.{◌≡◌, refl, sym, ap, ◌∙◌}
use mathlib.Core.Bool.{cond}
use mathlib.Core.List.{List, [], ◌∷◌}
use native.Mathlib.Omega.{arith}
use native.Mathlib.Decide.{dec_le}
use lib.ListN.{length}
use Rattle.std.specs.Prelude.{Option, Some, None}
use Rattle.table.specs.declared.Spot.{Spot}
use Rattle.rows.specs.declared.EnumPlace.{EnumPlace}
use lib.Dec.{leb}
use borrow.Author.Tests.{le-leb, lt-leb}
use Rattle.format.specs.Datatype.{EnumMember}
use Rattle.format.specs.Table.{Found, found, bad, and_then, enum_names_at, enum_values_at}
use Rattle.format.proofs.TableSteps.{then-piece}
use Rattle.rows.specs.Entries.{enum_member_at_of}
use Rattle.rows.specs.declared.Member.{Member}
use Rattle.rows.proofs.EnumNames.{names_as, names-none, values_long}
use Rattle.table.specs.Survey.{spot_of, enum_spot_of}

unfoldable pub ends_at : (pool : List ℕ) (row place : ℕ) → Option Spot
ends_at pool r p = cond (leb p (length pool)) (Some (record { row = r; place = p })) None

-- where they end, behind the names, if the values before these have a length
unfoldable pub values_end_of : (pool : List ℕ) (before : ℕ) → Found (List (List ℕ × ℕ)) → Option Spot
values_end_of pool v (found ns r p) = ends_at pool r (p + (v + values_long ns))
values_end_of pool v bad = None

module _ (pool : List ℕ) where
  spot_then : (m : EnumMember) (x : Found (List EnumMember)) → spot_of (and_then x (λ ms r p. found (m ∷ ms) r p)) ≡ spot_of x
  unfolding spot_of and_then
  spot_then m (found ms r p) = refl
  spot_then m bad = refl

  ends-past : (r p : ℕ) → length pool < p → ends_at pool r p ≡ None
  unfolding ends_at
  ends-past r p h = rw (lt-leb p (length pool) h)

  values-cond : (m : EnumMember) (x : Found (List EnumMember)) (n l r p : ℕ) → Dec (p + n ≤ length pool) → (p + n ≤ length pool → spot_of x ≡ ends_at pool r (p + n + l))
      → spot_of (cond (leb (p + n) (length pool)) (and_then x (λ ms r' p'. found (m ∷ ms) r' p')) bad) ≡ ends_at pool r (p + (n + l))
  values-cond m x n l r p (yes h) g =
      let e : p + n + l ≡ p + (n + l) = omega arith in
      rw (le-leb (p + n) (length pool) h) (spot_then m x ∙ g h ∙ rw e)
  values-cond m x n l r p (no h) g = rw (lt-leb (p + n) (length pool) (omega (arith, h)), ends-past r (p + (n + l)) (omega (arith, h))) (unfold spot_of in refl)

  values-step : (x : List ℕ × ℕ) (ns : List (List ℕ × ℕ)) (r p : ℕ) → (p + x.1 ≤ length pool → spot_of (enum_values_at pool ns r (p + x.1)) ≡ ends_at pool r (p + x.1 + values_long ns))
      → spot_of (enum_values_at pool (x ∷ ns) r p) ≡ ends_at pool r (p + values_long (x ∷ ns))
  unfolding enum_values_at values_long
  values-step x ns r p g = rw (then-piece) (values-cond _ (enum_values_at pool ns r (p + x.1)) x.1 (values_long ns) r p (dec_le (p + x.1) (length pool)) g)

  values-none : (r p : ℕ) → p ≤ length pool → spot_of (enum_values_at pool [] r p) ≡ ends_at pool r (p + values_long [])
  unfolding enum_values_at spot_of ends_at values_long
  values-none r p h =
      let e : p + 0 ≡ p = omega arith in
      rw (e, le-leb p (length pool) h)

  values-from : (ns : List (List ℕ × ℕ)) (r p : ℕ) → p ≤ length pool → spot_of (enum_values_at pool ns r p) ≡ ends_at pool r (p + values_long ns)
  values-from [] r p h = values-none r p h
  values-from (x ∷ ns) r p h = values-step x ns r p (λ q. values-from ns r (p + x.1) q)

  -- the values of one member or more
  values-at : (x : List ℕ × ℕ) (ns : List (List ℕ × ℕ)) (r p : ℕ) → spot_of (enum_values_at pool (x ∷ ns) r p) ≡ ends_at pool r (p + values_long (x ∷ ns))
  values-at x ns r p = values-step x ns r p (λ q. values-from ns r (p + x.1) q)

  start-then : (x : List ℕ × ℕ) (y : Found (List (List ℕ × ℕ))) (z : Found (List (List ℕ × ℕ))) → z ≡ and_then y (λ ns r p. found (x ∷ ns) r p)
      → spot_of (and_then z (enum_values_at pool)) ≡ values_end_of pool 0 z
  unfolding and_then values_end_of
  start-then x (found ns r p) z e =
      let f : p + (0 + values_long (x ∷ ns)) ≡ p + values_long (x ∷ ns) = omega arith in
      rw (e, f) (values-at x ns r p)
  start-then x bad z e = rw e (unfold spot_of in refl)

  next-then : (v l : ℕ) (b : List ℕ) (y : Found (List (List ℕ × ℕ))) → values_end_of pool v (and_then y (λ ns r p. found ((b, l) ∷ ns) r p)) ≡ values_end_of pool (v + l) y
  unfolding and_then values_end_of values_long
  next-then v l b (found ns r p) =
      let e : p + (v + (l + values_long ns)) ≡ p + (v + l + values_long ns) = omega arith in
      rw e
  next-then v l b bad = refl

  past-then : (v : ℕ) (y : Found (List (List ℕ × ℕ))) → length pool < v → values_end_of pool v y ≡ None
  unfolding values_end_of
  past-then v (found ns r p) h = ends-past r (p + (v + values_long ns)) (omega arith)
  past-then v bad h = refl

module _ (table pool : List ℕ) where
  pub skip-none : (k r p : ℕ) → k ≡ 0 → Some (record { row = r; place = p }) ≡ enum_spot_of table pool k r p
  unfolding enum_spot_of enum_names_at enum_values_at spot_of and_then
  skip-none k r p e = rw e

  -- the answer from the start, where a member is there or none is
  pub skip-start : (k r p : ℕ) {x : Option Member} → x ≡ enum_member_at_of table pool r p → 0 < k → enum_spot_of table pool k r p ≡ values_end_of pool 0 (enum_names_at table pool k r p)
  unfolding enum_spot_of
  skip-start k r p {x = Some m} q h = start-then pool _ _ _ (names_as table pool r p k h q refl)
  skip-start k r p {x = None} q h = rw (names-none table pool r p k h q refl) (unfold and_then spot_of values_end_of in refl)

  module _ (r p v k : ℕ) {x : Option Member} {z : Option Spot} (q : x ≡ enum_member_at_of table pool r p) (inv : z ≡ values_end_of pool v (enum_names_at table pool k r p)) (h : 0 < k) where
    pub skip_unnamed : {w : Option Spot} → x ≡ None → w ≡ None → w ≡ z
    skip_unnamed e d = d ∙ sym (inv ∙ rw (names-none table pool r p k h q e) (unfold values_end_of in refl))

    skip-next : {m : Member} {rest : ℕ} → x ≡ Some m → rest ≡ k - 1 → z ≡ values_end_of pool (v + m.number) (enum_names_at table pool rest (r + 1) (p + m.name))
    skip-next {m = m} e d = rw d (inv ∙ ap (values_end_of pool v) (names_as table pool r p k h q e) ∙ next-then pool v m.number _ _)

    pub skip-behind : {m : Member} {rest : ℕ} {at : EnumPlace} → x ≡ Some m → rest ≡ k - 1 → at ≡ record { row = r + 1; place = p + m.name; values = v + m.number } → z ≡ values_end_of pool at.values (enum_names_at table pool rest at.row at.place)
    skip-behind e d f = rw f (skip-next e d)

    pub skip-past : {m : Member} → x ≡ Some m → length pool - v < m.number → None ≡ z
    skip-past {m = m} e s = sym (skip-next e refl ∙ past-then pool (v + m.number) _ (omega arith))

  -- behind the last name
  module _ (r p v k : ℕ) {z : Option Spot} (inv : z ≡ values_end_of pool v (enum_names_at table pool k r p)) (h : k ≤ 0) where
    ended : z ≡ ends_at pool r (p + v)
    unfolding enum_names_at values_end_of values_long
    ended =
        let f : k ≡ 0 = omega arith in
        let e : p + (v + 0) ≡ p + v = omega arith in
        inv ∙ rw (f, e)

    pub skip-lost : length pool < p + v → None ≡ z
    skip-lost g = sym (ended ∙ ends-past pool r (p + v) g)

    pub skip-ended : {w : ℕ} → (p + v ≤ length pool) × (w ≡ p + v) → Some (record { row = r; place = w }) ≡ z
    unfolding ends_at
    skip-ended f = rw f.1 (sym (ended ∙ rw (le-leb (p + v) (length pool) f.0)))
