-- The members of an enumeration: names, then values behind all names.
use Rattle.std.specs.Prelude.{Option, Some, None}
use Rattle.measure.specs.declared.Measure.{Measure}
use Prim.Native.Nat.{ℕ, ◌+◌, ◌-◌, ◌<◌, ◌≤◌}
use mathlib.Core.Path.{◌≡◌, refl, sym, ap, ◌∙◌}
use mathlib.Core.Bool.{Bool, true, cond, ◌&&◌, and-true, and_assoc}
use mathlib.Core.List.{List, [], ◌∷◌}
use native.Mathlib.Omega.{arith}
use native.Mathlib.Decide.{dec_le}
use lib.ListN.{length, take, drop, length-append}
use lib.Dec.{leb, eqb}
use borrow.Author.Tests.{le-leb, lt-leb}
use Rattle.format.specs.Datatype.{EnumMember, enum_values}
use Rattle.format.specs.Message.{all, no_nul, storable_enum, name_length_of, enum_name_length}
use Rattle.format.specs.Utf8.{well_formed}
use Rattle.format.specs.Table.{Found, found, bad, and_then, enum_names_at, enum_values_at}
use Rattle.format.proofs.Lists.{length_part}
use Rattle.format.proofs.TableSteps.{then-piece}
use Rattle.rows.specs.Entries.{enum_member_at_of}
use Rattle.rows.specs.declared.EnumPlace.{EnumPlace}
use Rattle.rows.specs.declared.Member.{Member}
use Rattle.rows.proofs.EnumNames.{names_as, names-none, values_long}
use Rattle.measure.specs.Measure.{most_length, measure_enum, enum_measure_of, valid_at, with_enum_name_of}
use Rattle.measure.specs.declared.EnumNames.{EnumNames}
use Rattle.measure.proofs.Lengths.{most_both, length-name-of}

abbrev pub Names : Type 0
Names = List (List ℕ × ℕ)

-- ---- the members whose names and lengths of values are known

unfoldable pub members_from : (pool : List ℕ) (place : ℕ) → Names → List EnumMember
members_from pool p [] = []
members_from pool p (x ∷ ns) = record { name = x.0; value = take x.1 (drop p pool) } ∷ members_from pool (p + x.1) ns

unfoldable pub names_long : (edition : ℕ) → Names → ℕ
names_long e [] = 0
names_long e (x ∷ ns) = name_length_of e x.0 + names_long e ns

unfoldable pub names_storable : (size : ℕ) → Names → Bool
names_storable n [] = true
names_storable n (x ∷ ns) = ((no_nul x.0 && well_formed x.0) && eqb x.1 n) && names_storable n ns

module _ (pool : List ℕ) where
  storable-from : (n p : ℕ) (ns : Names) → p + values_long ns ≤ length pool → storable_enum n (members_from pool p ns) ≡ names_storable n ns
  unfolding storable_enum members_from values_long names_storable all
  storable-from n p [] h = refl
  storable-from n p (x ∷ ns) h =
      rw (length_part pool p x.1 (omega arith), storable-from n (p + x.1) ns (omega arith)) (simp (and-true, and_assoc))

  names-from : (e p : ℕ) (ns : Names) → enum_name_length e (members_from pool p ns) ≡ names_long e ns
  unfolding enum_name_length members_from names_long
  names-from e p [] = refl
  names-from e p (x ∷ ns) = rw (names-from e (p + x.1) ns)

  values-from : (p : ℕ) (ns : Names) → p + values_long ns ≤ length pool → length (enum_values (members_from pool p ns)) ≡ values_long ns
  unfolding enum_values members_from values_long
  values-from p [] h = refl
  values-from p (x ∷ ns) h = rw (length-append, length_part pool p x.1 (omega arith), values-from (p + x.1) ns (omega arith))

  -- the walk over the values of one member or more
  pub step_value : (x : List ℕ × ℕ) (ns : Names) (r p : ℕ) → enum_values_at pool (x ∷ ns) r p ≡ cond (leb (p + x.1) (length pool)) (and_then (enum_values_at pool ns r (p + x.1)) (λ ms r' p'. found (record { name = x.0; value = take x.1 (drop p pool) } ∷ ms) r' p')) bad
  unfolding enum_values_at
  step_value x ns r p = rw then-piece

  values_in : (ns : Names) (r p : ℕ) → p + values_long ns ≤ length pool → enum_values_at pool ns r p ≡ found (members_from pool p ns) r (p + values_long ns)
  unfolding values_long members_from
  values_in [] r p h =
      let e : p + 0 ≡ p = omega arith in
      rw e (unfold enum_values_at in refl)
  values_in (x ∷ ns) r p h =
      let e : p + x.1 + values_long ns ≡ p + (x.1 + values_long ns) = omega arith in
      rw (step_value x ns r p, le-leb (p + x.1) (length pool) (omega arith), values_in ns r (p + x.1) (omega arith), ← e) (unfold and_then in refl)

  out_step : (x : List ℕ × ℕ) (ns : Names) (r p : ℕ) → Dec (p + x.1 ≤ length pool) → (p + x.1 ≤ length pool → enum_values_at pool ns r (p + x.1) ≡ bad) → enum_values_at pool (x ∷ ns) r p ≡ bad
  unfolding and_then
  out_step x ns r p (yes h) g = step_value x ns r p ∙ rw (g h, le-leb (p + x.1) (length pool) h)
  out_step x ns r p (no h) g = step_value x ns r p ∙ rw (lt-leb (p + x.1) (length pool) (omega (arith, h)))

  values-past : (ns : Names) (r p : ℕ) → p ≤ length pool → length pool < p + values_long ns → enum_values_at pool ns r p ≡ bad
  unfolding values_long
  values-past [] r p h g = absurd (omega arith)
  values-past (x ∷ ns) r p h g = out_step x ns r p (dec_le (p + x.1) (length pool)) (λ k. values-past ns r (p + x.1) k (omega arith))

  values-out : (x : List ℕ × ℕ) (ns : Names) (r p : ℕ) → length pool < p + values_long (x ∷ ns) → enum_values_at pool (x ∷ ns) r p ≡ bad
  unfolding values_long
  values-out x ns r p g = out_step x ns r p (dec_le (p + x.1) (length pool)) (λ k. values-past ns r (p + x.1) k (omega arith))

-- ---- what is measured of them, with so much before

unfoldable pub listed : (pool : List ℕ) (edition size : ℕ) (before : Bool) (names values : ℕ) → Found Names → Option Measure
listed pool e n s l v (found ns r p) =
    cond
    (leb (p + (v + values_long ns)) (length pool))
    (Some (record {
      row = r;
      place = p + (v + values_long ns);
      size = n;
      storable = s && names_storable n ns;
      carried = true;
      length = most_length (l + (names_long e ns + (v + values_long ns)));
    }))
    None
listed pool e n s l v bad = None

module _ (pool : List ℕ) (e n : ℕ) where
  listed-past : (s : Bool) (l v : ℕ) (ns : Names) (r p : ℕ) → length pool < p + (v + values_long ns) → listed pool e n s l v (found ns r p) ≡ None
  unfolding listed
  listed-past s l v ns r p h = rw (lt-leb (p + (v + values_long ns)) (length pool) h)

  start_with : (x : List ℕ × ℕ) (ns : Names) (r p : ℕ) → Dec (p + values_long (x ∷ ns) ≤ length pool) → measure_enum e n (enum_values_at pool (x ∷ ns) r p) ≡ listed pool e n true 0 0 (found (x ∷ ns) r p)
  unfolding measure_enum listed
  start_with x ns r p (yes h) =
      let k : p + (0 + values_long (x ∷ ns)) ≡ p + values_long (x ∷ ns) = omega arith in
      let j : 0 + (names_long e (x ∷ ns) + (0 + values_long (x ∷ ns))) ≡ names_long e (x ∷ ns) + values_long (x ∷ ns) = omega arith in
      rw (values_in pool (x ∷ ns) r p h, k, j, le-leb (p + values_long (x ∷ ns)) (length pool) h, storable-from pool n p (x ∷ ns) h, names-from pool e p (x ∷ ns), values-from pool p (x ∷ ns) h)
  start_with x ns r p (no h) =
      rw (values-out pool x ns r p (omega (arith, h))) (sym (listed-past true 0 0 (x ∷ ns) r p (omega (arith, h))))

  start-then : (x : List ℕ × ℕ) (y : Found Names) (z : Found Names) → z ≡ and_then y (λ ns r p. found (x ∷ ns) r p)
      → measure_enum e n (and_then z (enum_values_at pool)) ≡ listed pool e n true 0 0 z
  unfolding and_then
  start-then x (found ns r p) z h = rw h (start_with x ns r p (dec_le (p + values_long (x ∷ ns)) (length pool)))
  start-then x bad z h = rw h (unfold measure_enum listed in refl)

  next-then : (s : Bool) (l v k : ℕ) (b : List ℕ) (y : Found Names)
      → listed pool e n s l v (and_then y (λ ns r p. found ((b, k) ∷ ns) r p)) ≡ listed pool e n (s && ((no_nul b && well_formed b) && eqb k n)) (most_length (l + name_length_of e b)) (v + k) y
  unfolding and_then listed values_long names_long names_storable
  next-then s l v k b (found ns r p) =
      let f : p + (v + (k + values_long ns)) ≡ p + (v + k + values_long ns) = omega arith in
      let g : most_length (most_length (l + name_length_of e b) + (names_long e ns + (v + k + values_long ns))) ≡ most_length (l + (name_length_of e b + names_long e ns + (v + (k + values_long ns)))) =
      most_both _ _ ∙ ap most_length (omega arith) in
      rw (f, g, and_assoc s)
  next-then s l v k b bad = refl

  past-then : (s : Bool) (l v : ℕ) (y : Found Names) → length pool < v → listed pool e n s l v y ≡ None
  past-then s l v (found ns r p) h = listed-past s l v ns r p (omega arith)
  past-then s l v bad h = unfold listed in refl

-- ---- the loop: z is the answer from the start

module _ (table pool : List ℕ) (e n : ℕ) where
  pub listed-none : (k r p : ℕ) → k ≡ 0 → Some (record { row = r; place = p; size = n; storable = true; carried = true; length = 0 }) ≡ enum_measure_of e n table pool k r p
  unfolding enum_measure_of enum_names_at enum_values_at measure_enum and_then storable_enum enum_name_length enum_values most_length
  listed-none k r p h = rw h

  pub listed_start : (k r p : ℕ) {x : Option Member} → x ≡ enum_member_at_of table pool r p → 0 < k → enum_measure_of e n table pool k r p ≡ listed pool e n true 0 0 (enum_names_at table pool k r p)
  unfolding enum_measure_of
  listed_start k r p {x = Some m} q h = start-then pool e n _ _ _ (names_as table pool r p k h q refl)
  listed_start k r p {x = None} q h = rw (names-none table pool r p k h q refl) (unfold and_then measure_enum listed in refl)

  module _ (r p v count i l : ℕ) (s : Bool) {x : Option Member} {z : Option Measure} (q : x ≡ enum_member_at_of table pool r p) (inv : z ≡ listed pool e n s l v (enum_names_at table pool (count - i) r p)) (h : i < count) where
    pub listed_unnamed : x ≡ None → None ≡ z
    listed_unnamed f = sym (inv ∙ rw (names-none table pool r p (count - i) (omega arith) q f) (unfold listed in refl))

    module _ {m : Member} (f : x ≡ Some m) where
      turned : z ≡ listed pool e n (s && ((no_nul (take m.name (drop p pool)) && well_formed (take m.name (drop p pool))) && eqb m.number n)) (most_length (l + name_length_of e (take m.name (drop p pool)))) (v + m.number) (enum_names_at table pool (count - (i + 1)) (r + 1) (p + m.name))
      turned =
          let k : count - i - 1 ≡ count - (i + 1) = omega arith in
          inv ∙ ap (listed pool e n s l v) (names_as table pool r p (count - i) (omega arith) q f) ∙ next-then pool e n s l v m.number _ _ ∙ rw k

      pub listed-past-pool : length pool - v < m.number → None ≡ z
      listed-past-pool g = sym (turned ∙ past-then pool e n _ _ (v + m.number) _ (omega arith))

      listed_next : {names : EnumNames} → p + m.name ≤ length pool → names ≡ with_enum_name_of pool e n (record { storable = s; length = l }) p m.name m.number
          → z ≡ listed pool e n names.storable names.length (v + m.number) (enum_names_at table pool (count - (i + 1)) (r + 1) (p + m.name))
      unfolding with_enum_name_of valid_at
      listed_next inside hn = turned ∙ rw (hn, length-name-of e m.name (take m.name (drop p pool)) (length_part pool p m.name inside))

      pub listed_at : {names : EnumNames} {at : EnumPlace} → p + m.name ≤ length pool → names ≡ with_enum_name_of pool e n (record { storable = s; length = l }) p m.name m.number
          → at ≡ record { row = r + 1; place = p + m.name; values = v + m.number }
          → z ≡ listed pool e n names.storable names.length at.values (enum_names_at table pool (count - (i + 1)) at.row at.place)
      listed_at inside hn g = rw g (listed_next inside hn)

  -- behind the last name
  module _ (r p v count i l : ℕ) (s : Bool) {z : Option Measure} (inv : z ≡ listed pool e n s l v (enum_names_at table pool (count - i) r p)) (h : count ≤ i) where
    ended : z ≡ listed pool e n s l v (found [] r p)
    unfolding enum_names_at
    ended =
        let f : count - i ≡ 0 = omega arith in
        inv ∙ rw f

    pub listed-lost : length pool < p + v → None ≡ z
    listed-lost g = sym (ended ∙ listed-past pool e n s l v [] r p (omega arith))

    pub listed-ended : {u w : ℕ} → (p + v ≤ length pool) × (u ≡ p + v) → (w ≡ most_length (l + v)) × (w ≤ 4294967296)
        → Some (record { row = r; place = u; size = n; storable = s; carried = true; length = w }) ≡ z
    unfolding listed values_long names_long names_storable
    listed-ended f i =
        let a : v + 0 ≡ v = omega arith in
        let b : 0 + v ≡ v = omega arith in
        rw f.1 (sym (ended ∙ rw (a, b, le-leb (p + v) (length pool) f.0, and-true s, i.0)))
