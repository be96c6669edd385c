-- The walk over a type's rows, one law for each way out of it.
use Rattle.std.specs.Prelude.{Option, Some, None}
use Prim.Native.Nat.{ℕ, zero, suc, ◌+◌, ◌-◌, ◌*◌, ◌<◌, ◌≤◌}
use mathlib.Core.Path.{◌≡◌, refl, sym, ap, ◌∙◌}
use mathlib.Core.Bool.{Bool, true, false, cond, ◌&&◌, and-true, and_assoc}
use mathlib.Core.List.{List, [], ◌∷◌}
use native.Mathlib.Omega.{arith}
use native.Mathlib.Numerals.{add-one}
use lib.ListN.{length, get_or, take, drop}
use lib.Dec.{leb}
use borrow.Author.Tests.{lt-ltb}
use Rattle.format.specs.Bytes.{dimensions_from}
use Rattle.format.specs.Datatype.{Datatype, compound, enumeration, variable_length, array, Members, member, member_count_of, EnumMember, enum_values, type_size_of}
use Rattle.format.specs.Message.{storable, storable_members, storable_enum, carried, carried_members, message_length, members_length, enum_name_length, name_length_of, offset_width, skipped_bytes_of, reserved_bytes_of, permutation_bytes_of, no_nul, all}
use Rattle.format.specs.Utf8.{well_formed}
use Rattle.format.specs.Table.{Found, found, bad, Walk, and_then, all_below, type_at, members_at, enum_names_at, enum_values_at}
use Rattle.format.proofs.Bytes.{length-dimensions_from}
use Rattle.format.proofs.Lists.{length_part}
use Rattle.format.proofs.Scaling.{cap_again}
use Rattle.format.proofs.TableSteps.{then_found, then-assoc}
use Rattle.rows.specs.Entries.{entry_at, member_at_of, from_entry, from_member, from_enum_member, enum_member_at_of}
use Rattle.rows.specs.Columns.{IsRow}
use Rattle.rows.specs.declared.Entry.{Entry}
use Rattle.rows.specs.declared.Entry.TheVariants.{Leaf, Compound, Enumeration, VariableLength, Array}
use Rattle.rows.specs.declared.Member.{Member}
use Rattle.rows.proofs.Words.{same-word}
use Rattle.rows.proofs.Decode.{type_at_entry, members_at-entry, enum_names_at-entry}
use Rattle.measure.specs.Measure.{most_length, measure_of, measure_in, measure_enum, enum_measure_of, offset_fits_of, member_head_of, valid_at, array_head_of, leaf_measure_of, with_member_of, compound_measure_of, enumeration_measure_of, variable_measure_of, array_measure_of}
use Rattle.measure.specs.declared.Measure.{Measure}
use Rattle.measure.proofs.Lengths.{most-below, most-same, most-two, length-name-of}
use Rattle.measure.proofs.Leaves.{leaf-is}
use Rattle.measure.proofs.Listed.{Names, step_value}

-- ---- how many members are found

unfoldable Counted : ℕ → Found Members → Type 0
Counted k (found ms r p) = member_count_of ms ≡ k
Counted k bad = Unit {0}

counted-then : (k : ℕ) (name : List ℕ) (offset : ℕ) (t : Datatype) (x : Found Members) → Counted k x → Counted (suc k) (and_then x (λ ms r p. found (member name offset t ms) r p))
unfolding Counted and_then member_count_of
counted-then k name offset t (found ms r p) h = ap suc h
counted-then k name offset t bad h = tt

counted-after : (k : ℕ) (name : List ℕ) (offset : ℕ) (rest : Walk Members) → ((r p : ℕ) → Counted k (rest r p)) → (x : Found Datatype)
    → Counted (suc k) (and_then x (λ t r₁ p₁. and_then (rest r₁ p₁) (λ ms r₂ p₂. found (member name offset t ms) r₂ p₂)))
counted-after k name offset rest h (found t r p) = rw (then_found t _ r p) (counted-then k name offset t (rest r p) (h r p))
counted-after k name offset rest h bad = unfold and_then Counted in tt

counted-member : (k : ℕ) (rd : Walk Datatype) (rest : Walk Members) (pool : List ℕ) (r p : ℕ) → ((r p : ℕ) → Counted k (rest r p)) → (m : Option Member) → Counted (suc k) (from_member rd rest pool r p m)
unfolding from_member
counted-member k rd rest pool r p h (Some m) = counted-after k _ m.number rest h (rd (suc r) (p + m.name))
counted-member k rd rest pool r p h None = unfold Counted in tt

counted : (rd : Walk Datatype) (table pool : List ℕ) (k r p : ℕ) → Counted k (members_at rd table pool k r p)
counted rd table pool zero r p = unfold members_at Counted member_count_of in refl
counted rd table pool (suc k) r p =
    rw (members_at-entry table pool k r p rd) (counted-member k rd (members_at rd table pool k) pool r p (λ r' p'. counted rd table pool k r' p') (member_at_of table pool r p))

unfoldable Lists : {A : Type 0} → ℕ → Found (List A) → Type 0
Lists k (found ms r p) = length ms ≡ k
Lists k bad = Unit {0}

lists-then : {A : Type 0} (k : ℕ) (a : A) (x : Found (List A)) → Lists k x → Lists (suc k) (and_then x (λ ms r p. found (a ∷ ms) r p))
unfolding Lists and_then
lists-then k a (found ms r p) h = ap suc h
lists-then k a bad h = tt

lists-member : (k : ℕ) (rest : Walk Names) (pool : List ℕ) (r p : ℕ) → ((r p : ℕ) → Lists k (rest r p)) → (m : Option Member) → Lists (suc k) (from_enum_member rest pool r p m)
unfolding from_enum_member
lists-member k rest pool r p h (Some m) = lists-then k _ (rest (suc r) (p + m.name)) (h (suc r) (p + m.name))
lists-member k rest pool r p h None = unfold Lists in tt

names-listed : (table pool : List ℕ) (k r p : ℕ) → Lists k (enum_names_at table pool k r p)
names-listed table pool zero r p = unfold enum_names_at Lists in refl
names-listed table pool (suc k) r p =
    rw (enum_names_at-entry table pool k r p) (lists-member k (enum_names_at table pool k) pool r p (λ r' p'. names-listed table pool k r' p') (enum_member_at_of table pool r p))

lists-cond : {A : Type 0} (k : ℕ) (b : Bool) (x : Found (List A)) → Lists k x → Lists k (cond b x bad)
unfolding Lists
lists-cond k true x h = h
lists-cond k false x h = tt

values_listed : (pool : List ℕ) (ns : Names) (r p : ℕ) → Lists (length ns) (enum_values_at pool ns r p)
values_listed pool [] r p = unfold enum_values_at Lists in refl
values_listed pool (x ∷ ns) r p =
    rw (step_value pool x ns r p) (lists-cond _ (leb (p + x.1) (length pool)) _ (lists-then (length ns) _ (enum_values_at pool ns r (p + x.1)) (values_listed pool ns r (p + x.1))))

values-behind : (pool : List ℕ) (k : ℕ) (x : Found Names) → Lists k x → Lists k (and_then x (enum_values_at pool))
values-behind pool k (found ns r p) h =
    let e : length ns ≡ k = unfold Lists in h in
    rw (then_found ns (enum_values_at pool) r p, ← e) (values_listed pool ns r p)
values-behind pool k bad h = unfold and_then Lists in tt

-- ---- what a walk found, taken apart

pub record Says (e : ℕ) (m : Measure) (t : Datatype) (r p : ℕ) : Type 0 where
  pub is : m ≡ record { row = r; place = p; size = type_size_of t; storable = storable t; carried = carried e t; length = most_length (message_length e t) }

unfoldable pub Told : (edition : ℕ) → Found Datatype → Measure → Type 0
Told e (found t r p) m = Says e m t r p
Told e bad m = ⊥

pub told : (e : ℕ) (x : Found Datatype) (m : Measure) {y : Option Measure} → y ≡ measure_of e x → y ≡ Some m → Told e x m
unfolding measure_of Told
told e (found t r p) m q h = record { is = cc }
told e bad m q h = let z : ◌≡◌ {A = ℕ} 0 1 = cc in omega arith

pub untold : (e : ℕ) (x : Found Datatype) {y : Option Measure} → y ≡ measure_of e x → y ≡ None → x ≡ bad
unfolding measure_of
untold e (found t r p) q h = let z : ◌≡◌ {A = ℕ} 0 1 = cc in absurd (omega arith)
untold e bad q h = refl

lost-then : (e : ℕ) (x : Found Datatype) (f : Datatype → Walk Datatype) {y : Option Measure} → y ≡ measure_of e x → y ≡ None → None ≡ measure_of e (and_then x f)
unfolding and_then measure_of
lost-then e x f q h = rw (untold e x q h)

-- ---- the types that hold another

compound-at : (e n k : ℕ) (m : Measure) (x : Found Members) → n < 4294967296 → Counted k x → Some m ≡ measure_in e n x → Some (compound_measure_of n k m) ≡ measure_of e (and_then x (λ ms r p. found (compound n ms) r p))
unfolding measure_in measure_of and_then Counted compound_measure_of type_size_of storable carried message_length all
compound-at e n k m (found ms r p) s h f =
    let g : m ≡ record { row = r; place = p; size = n; storable = storable_members n ms; carried = carried_members e ms; length = most_length (members_length e n ms) } = cc in
    rw (g, h, lt-ltb n 4294967296 s, most-two, and-true)
compound-at e n k m bad s h f = let z : ◌≡◌ {A = ℕ} 0 1 = cc in absurd (omega arith)

compound-lost : (e n : ℕ) (x : Found Members) → None ≡ measure_in e n x → None ≡ measure_of e (and_then x (λ ms r p. found (compound n ms) r p))
unfolding measure_in measure_of and_then
compound-lost e n (found ms r p) f = let z : ◌≡◌ {A = ℕ} 0 1 = cc in absurd (omega arith)
compound-lost e n bad f = refl

most-three : (a b : ℕ) → most_length (8 + most_length (most_length a + most_length b)) ≡ most_length (8 + (a + b))
unfolding most_length
most-three a b = omega arith

module _ (e : ℕ) (table pool : List ℕ) (n k : ℕ) (b : Measure) where
  behind-at : (t : Datatype) (r p : ℕ) (m : Measure) → n < 4294967296 → Says e b t r p → (y : Found (List EnumMember)) → Lists k y → Some m ≡ measure_enum e (type_size_of t) y
      → Some (enumeration_measure_of n k b m) ≡ measure_of e (and_then y (λ ms r p. found (enumeration n t ms) r p))
  unfolding measure_enum measure_of and_then Lists enumeration_measure_of type_size_of storable carried message_length all
  behind-at t r p m s i (found ms r' p') h f =
      let g : m ≡ record { row = r'; place = p'; size = type_size_of t; storable = storable_enum (type_size_of t) ms; carried = true; length = most_length (enum_name_length e ms + length (enum_values ms)) } = cc in
      rw (g, i.is, h, lt-ltb n 4294967296 s, most-three, and-true)
  behind-at t r p m s i bad h f = let z : ◌≡◌ {A = ℕ} 0 1 = cc in absurd (omega arith)

  behind-lost : (t : Datatype) (y : Found (List EnumMember)) → None ≡ measure_enum e (type_size_of t) y → None ≡ measure_of e (and_then y (λ ms r p. found (enumeration n t ms) r p))
  unfolding measure_enum measure_of and_then
  behind-lost t (found ms r p) f = let z : ◌≡◌ {A = ℕ} 0 1 = cc in absurd (omega arith)
  behind-lost t bad f = refl

  -- the answer for the members, at the place where the base ends
  members-of : (t : Datatype) (r p : ℕ) {z : Option Measure} → Says e b t r p → z ≡ enum_measure_of e b.size table pool k b.row b.place → z ≡ measure_enum e (type_size_of t) (and_then (enum_names_at table pool k r p) (enum_values_at pool))
  unfolding enum_measure_of
  members-of t r p i f = f ∙ rw i.is

  enumeration-lost : (x : Found Datatype) → Told e x b → None ≡ enum_measure_of e b.size table pool k b.row b.place
      → None ≡ measure_of e (and_then x (λ t r₁ p₁. and_then (enum_names_at table pool k r₁ p₁) (λ ns r₂ p₂. and_then (enum_values_at pool ns r₂ p₂) (λ ms r₃ p₃. found (enumeration n t ms) r₃ p₃))))
  unfolding Told
  enumeration-lost (found t r p) h f =
      rw (then_found t _ r p, then-assoc (enum_names_at table pool k r p) (enum_values_at pool) (λ ms r₃ p₃. found (enumeration n t ms) r₃ p₃)) (behind-lost t _ (members-of t r p h f))
  enumeration-lost bad h f = absurd h

  enumeration-at : (m : Measure) → n < 4294967296 → (x : Found Datatype) → Told e x b → Some m ≡ enum_measure_of e b.size table pool k b.row b.place
      → Some (enumeration_measure_of n k b m) ≡ measure_of e (and_then x (λ t r₁ p₁. and_then (enum_names_at table pool k r₁ p₁) (λ ns r₂ p₂. and_then (enum_values_at pool ns r₂ p₂) (λ ms r₃ p₃. found (enumeration n t ms) r₃ p₃))))
  unfolding Told
  enumeration-at m s (found t r p) h f =
      rw (then_found t _ r p, then-assoc (enum_names_at table pool k r p) (enum_values_at pool) (λ ms r₃ p₃. found (enumeration n t ms) r₃ p₃))
      (behind-at t r p m s h _ (values-behind pool k _ (names-listed table pool k r p)) (members-of t r p h f))
  enumeration-at m s bad h f = absurd h

variable_at : (e i a c : ℕ) (b : Measure) (x : Found Datatype) → Told e x b → Some (variable_measure_of i a c b) ≡ measure_of e (and_then x (λ t r p. found (variable_length i a c t) r p))
unfolding Told and_then measure_of variable_measure_of type_size_of storable carried message_length all
variable_at e i a c b (found t r p) h = rw (h.is, most-two, and-true)
variable_at e i a c b bad h = absurd h

array_at : (e k : ℕ) (ds : List ℕ) (b : Measure) → length ds ≡ k → all_below 4294967296 ds ≡ true → (x : Found Datatype) → Told e x b → Some (array_measure_of e k ds b) ≡ measure_of e (and_then x (λ t r p. found (array ds t) r p))
unfolding Told and_then measure_of array_measure_of array_head_of type_size_of storable carried message_length all
array_at e k ds b g s (found t r p) h =
    let q : 8 + (1 + reserved_bytes_of e + (4 * k + permutation_bytes_of e k)) + message_length e t ≡ 8 + (1 + reserved_bytes_of e + (4 * k + permutation_bytes_of e k) + message_length e t) = omega arith in
    rw (h.is, cap_again, g, s, most-two, and-true, q)
array_at e k ds b g s bad h = absurd h

-- ---- an enumeration, with so many levels left below it

module _ (e : ℕ) (table pool : List ℕ) (row place levels n k : ℕ) {y : Option Measure} (g : y ≡ measure_of e (type_at levels table pool (row + 1) place)) where
  base : y ≡ measure_of e (type_at levels table pool (suc row) place)
  base = rw (add-one row) at g

  enumeration_unbased : y ≡ None → None ≡ measure_of e (from_entry (type_at levels table pool) table pool row place (Some (Enumeration n k)))
  unfolding from_entry
  enumeration_unbased f = lost-then e _ _ base f

  module _ {b : Measure} {w : Option Measure} (f : y ≡ Some b) (v : w ≡ enum_measure_of e b.size table pool k b.row b.place) where
    enumeration_unlisted : w ≡ None → None ≡ measure_of e (from_entry (type_at levels table pool) table pool row place (Some (Enumeration n k)))
    unfolding from_entry
    enumeration_unlisted i = enumeration-lost e table pool n k b _ (told e _ b base f) (sym i ∙ v)

    enumeration-listed : {m s : Measure} → w ≡ Some m → (s ≡ enumeration_measure_of n k b m) × (n < 4294967296)
        → Some s ≡ measure_of e (from_entry (type_at levels table pool) table pool row place (Some (Enumeration n k)))
    unfolding from_entry
    enumeration-listed {m = m} i j = rw j.0 (enumeration-at e table pool n k b m j.1 _ (told e _ b base f) (sym i ∙ v))

-- ---- a type

module _ (e : ℕ) (table pool : List ℕ) (row place levels : ℕ) where
  pub type-none : levels ≡ 0 → None ≡ measure_of e (type_at levels table pool row place)
  unfolding type_at measure_of
  type-none h = rw h

  module _ {o : Option Entry} (deep : levels ≡ 0 → ⊥) (q : o ≡ entry_at table pool row place) where
    type_as : {y : Option Entry} → o ≡ y → type_at levels table pool row place ≡ from_entry (type_at (levels - 1) table pool) table pool row place y
    type_as h =
        let j : levels ≡ suc (levels - 1) = omega (arith, deep) in
        ap (λ (k : ℕ). type_at k table pool row place) j
        ∙ type_at_entry (levels - 1) table pool row place
        ∙ ap (from_entry (type_at (levels - 1) table pool) table pool row place) (sym q ∙ h)

    pub type_unknown : o ≡ None → None ≡ measure_of e (type_at levels table pool row place)
    unfolding from_entry measure_of
    type_unknown h = rw (type_as h)

    module _ {x : Entry} (is : o ≡ Some x) where
      pub type-leaf : {k n l code : ℕ} {m : Measure} {words : List ℕ} → x ≡ Leaf k n l code → IsRow table row words → ((t : List ℕ) → IsRow t row words → m ≡ leaf_measure_of t row place k n l) → (n < 4294967296) × (get_or words 13 0 < 4294967296)
          → Some m ≡ measure_of e (type_at levels table pool row place)
      unfolding from_entry leaf_measure_of
      type-leaf h s f j = rw (type_as (is ∙ ap Some h), f table s, add-one row) (sym (leaf-is e table pool row place q is h j.0 (rw (same-word s 13 refl) at j.1)))

      module _ {n k : ℕ} {z : Option Measure} (h : x ≡ Compound n k) (f : z ≡ measure_in e n (members_at (type_at (levels - 1) table pool) table pool k (row + 1) place)) where
        members-there : z ≡ measure_in e n (members_at (type_at (levels - 1) table pool) table pool k (suc row) place)
        members-there = rw (add-one row) at f

        pub type-compound-lost : z ≡ None → None ≡ measure_of e (type_at levels table pool row place)
        unfolding from_entry
        type-compound-lost g = rw (type_as (is ∙ ap Some h)) (compound-lost e n _ (sym g ∙ members-there))

        pub type-compound : {m s : Measure} → z ≡ Some m → (s ≡ compound_measure_of n k m) × (n < 4294967296) → Some s ≡ measure_of e (type_at levels table pool row place)
        unfolding from_entry
        type-compound {m = m} g i = rw (type_as (is ∙ ap Some h), i.0) (compound-at e n k m _ i.1 (counted (type_at (levels - 1) table pool) table pool k (suc row) place) (sym g ∙ members-there))

      module _ {y : Option Measure} (g : y ≡ measure_of e (type_at (levels - 1) table pool (row + 1) place)) where
        below : y ≡ measure_of e (type_at (levels - 1) table pool (suc row) place)
        below = rw (add-one row) at g

        module _ {n k : ℕ} (h : x ≡ Enumeration n k) where
          pub type-unbased : y ≡ None → None ≡ measure_of e (type_at levels table pool row place)
          type-unbased f = rw (type_as (is ∙ ap Some h)) (enumeration_unbased e table pool row place (levels - 1) n k g f)

          module _ {b : Measure} {w : Option Measure} (f : y ≡ Some b) (v : w ≡ enum_measure_of e b.size table pool k b.row b.place) where
            pub type-unlisted : w ≡ None → None ≡ measure_of e (type_at levels table pool row place)
            type-unlisted i = rw (type_as (is ∙ ap Some h)) (enumeration_unlisted e table pool row place (levels - 1) n k g f v i)

            pub type-listed : {m s : Measure} → w ≡ Some m → (s ≡ enumeration_measure_of n k b m) × (n < 4294967296) → Some s ≡ measure_of e (type_at levels table pool row place)
            type-listed i j = rw (type_as (is ∙ ap Some h)) (enumeration-listed e table pool row place (levels - 1) n k g f v i j)

        pub type-variable_length : {i a c : ℕ} {b s : Measure} → x ≡ VariableLength i a c → y ≡ Some b → s ≡ variable_measure_of i a c b → Some s ≡ measure_of e (type_at levels table pool row place)
        unfolding from_entry
        type-variable_length {i = i} {a = a} {c = c} {b = b} h f j = rw (type_as (is ∙ ap Some h), j) (variable_at e i a c b _ (told e _ b below f))

        pub type-variable_length-lost : {i a c : ℕ} → x ≡ VariableLength i a c → y ≡ None → None ≡ measure_of e (type_at levels table pool row place)
        unfolding from_entry
        type-variable_length-lost h f = rw (type_as (is ∙ ap Some h)) (lost-then e _ _ below f)

      module _ {k : ℕ} {y : Option Measure} (h : x ≡ Array k) (g : y ≡ measure_of e (type_at (levels - 1) table pool (row + 1) (place + k * 4))) where
        inside : y ≡ measure_of e (type_at (levels - 1) table pool (suc row) (place + k * 4))
        inside = rw (add-one row) at g

        pub type-array-lost : y ≡ None → None ≡ measure_of e (type_at levels table pool row place)
        unfolding from_entry
        type-array-lost f = rw (type_as (is ∙ ap Some h)) (lost-then e _ _ inside f)

        pub type-array : {b s : Measure} → y ≡ Some b → (s ≡ array_measure_of e k (dimensions_from k (take (k * 4) (drop place pool))) b) × (all_below 4294967296 (dimensions_from k (take (k * 4) (drop place pool))) ≡ true)
            → Some s ≡ measure_of e (type_at levels table pool row place)
        unfolding from_entry
        type-array {b = b} f j =
            rw (type_as (is ∙ ap Some h), j.0) (array_at e k _ b (length-dimensions_from k _) j.1 _ (told e _ b inside f))

-- ---- the members of a compound

-- what a walk over the members answers that has measured so much before
unfoldable pub gathered : (edition : ℕ) → Measure → Found Members → Option Measure
gathered e s (found ms r p) =
    Some (record {
      row = r;
      place = p;
      size = s.size;
      storable = s.storable && storable_members s.size ms;
      carried = s.carried && carried_members e ms;
      length = most_length (s.length + members_length e s.size ms);
    })
gathered e s bad = None

pub members-start : (e n r p : ℕ) (x : Found Members) → measure_in e n x ≡ gathered e (record { row = r; place = p; size = n; storable = true; carried = true; length = 0 }) x
unfolding measure_in gathered
members-start e n r p (found ms r' p') =
    let z : 0 + members_length e n ms ≡ members_length e n ms = omega arith in
    rw z
members-start e n r p bad = refl

most-member : (l h b w k a c : ℕ) → h ≡ b + w + k → most_length (most_length (l + most_length (h + most_length a)) + c) ≡ most_length (l + (b + (w + (k + (a + c)))))
unfolding most_length
most-member l h b w k a c q = omega arith

join : (s a b f t m : Bool) → ((s && ((a && b) && (f && t))) && m) ≡ (s && (a && (b && (f && (t && (m && true))))))
join s a b f t m = simp (and-true, and_assoc)

module _ (e : ℕ) (s : Measure) (name : List ℕ) (o h : ℕ) (v : Bool) (hv : v ≡ (no_nul name && well_formed name)) (hh : h ≡ name_length_of e name + offset_width e s.size + skipped_bytes_of e) where
  gathered-member : (m : Measure) (t : Datatype) (r p : ℕ) → Says e m t r p → (x : Found Members)
      → gathered e s (and_then x (λ ms r p. found (member name o t ms) r p)) ≡ gathered e (with_member_of s v o h m) x
  unfolding gathered and_then with_member_of offset_fits_of storable carried message_length all
  gathered-member m t r p i (found ms r' p') =
      rw (i.is, hv, join, and_assoc s.carried, most-member s.length h (name_length_of e name) (offset_width e s.size) (skipped_bytes_of e) (message_length e t) (members_length e s.size ms) hh)
  gathered-member m t r p i bad = refl

  gathered_next : (rest : Walk Members) (m : Measure) (x : Found Datatype) → Told e x m
      → gathered e s (and_then x (λ t r₁ p₁. and_then (rest r₁ p₁) (λ ms r₂ p₂. found (member name o t ms) r₂ p₂))) ≡ gathered e (with_member_of s v o h m) (rest (with_member_of s v o h m).row (with_member_of s v o h m).place)
  unfolding Told
  gathered_next rest m (found t r p) i =
      let fr : (with_member_of s v o h m).row ≡ r = unfold with_member_of in ap (λ (n : Measure). n.row) i.is in
      let fp : (with_member_of s v o h m).place ≡ p = unfold with_member_of in ap (λ (n : Measure). n.place) i.is in
      rw (then_found t _ r p)
      (gathered-member m t r p i (rest r p)
      ∙ sym
      (ap (λ (k : ℕ). gathered e (with_member_of s v o h m) (rest k (with_member_of s v o h m).place)) fr
      ∙ ap (λ (k : ℕ). gathered e (with_member_of s v o h m) (rest r k)) fp))
  gathered_next rest m bad i = absurd i

module _ (e : ℕ) (table pool : List ℕ) (levels count i : ℕ) (s : Measure) {z : Option Measure} {x : Option Member}
    (inv : z ≡ gathered e s (members_at (type_at levels table pool) table pool (count - i) s.row s.place)) (some_left : i < count) (q : x ≡ member_at_of table pool s.row s.place) where
  members_as : {y : Option Member} → x ≡ y → z ≡ gathered e s (from_member (type_at levels table pool) (members_at (type_at levels table pool) table pool (count - (i + 1))) pool s.row s.place y)
  members_as h =
      let j : count - i ≡ suc (count - (i + 1)) = omega arith in
      inv
      ∙ ap (λ (k : ℕ). gathered e s (members_at (type_at levels table pool) table pool k s.row s.place)) j
      ∙ ap (gathered e s) (members_at-entry table pool (count - (i + 1)) s.row s.place (type_at levels table pool))
      ∙ ap (λ (y : Option Member). gathered e s (from_member (type_at levels table pool) (members_at (type_at levels table pool) table pool (count - (i + 1))) pool s.row s.place y)) (sym q ∙ h)

  pub members_unnamed : x ≡ None → None ≡ z
  unfolding from_member gathered
  members_unnamed h = sym (members_as h)

  module _ {w : Member} {y : Option Measure} (h : x ≡ Some w) (g : y ≡ measure_of e (type_at levels table pool (s.row + 1) (s.place + w.name))) where
    within : y ≡ measure_of e (type_at levels table pool (suc s.row) (s.place + w.name))
    within = rw (add-one s.row) at g

    pub members-lost : y ≡ None → None ≡ z
    unfolding from_member
    members-lost d = sym (members_as h ∙ rw (untold e _ within d) (unfold and_then gathered in refl))

    pub members-next : {m s' : Measure} → s.place + w.name ≤ length pool → y ≡ Some m → s' ≡ with_member_of s (valid_at pool s.place w.name) w.number (member_head_of e s.size w.name) m
        → z ≡ gathered e s' (members_at (type_at levels table pool) table pool (count - (i + 1)) s'.row s'.place)
    unfolding from_member member_head_of valid_at
    members-next {m = m} fits d hs =
        let name = take w.name (drop s.place pool) in
        members_as h
        ∙ gathered_next e s name w.number (member_head_of e s.size w.name) (valid_at pool s.place w.name) refl (rw (length-name-of e w.name name (length_part pool s.place w.name fits))) (members_at (type_at levels table pool) table pool (count - (i + 1))) m _ (told e _ m within d)
        ∙ ap (λ (u : Measure). gathered e u (members_at (type_at levels table pool) table pool (count - (i + 1)) u.row u.place)) (sym hs)

-- the length, with one member more
pub member-short : (s m : Measure) (v : Bool) (o h : ℕ) {s' : Measure} → s' ≡ with_member_of s v o h m → s'.length ≤ 4294967296
unfolding with_member_of
member-short s m v o h f = rw f (most-below _)

-- ..and after the last
pub members_end : (e : ℕ) (table pool : List ℕ) (levels count i : ℕ) (s : Measure) {z : Option Measure} → s.length ≤ 4294967296 → z ≡ gathered e s (members_at (type_at levels table pool) table pool (count - i) s.row s.place) → count ≤ i → Some s ≡ z
unfolding gathered members_at storable carried message_length
members_end e table pool levels count i s short inv h =
    let k : count - i ≡ 0 = omega arith in
    let l : s.length + 0 ≡ s.length = omega arith in
    sym (inv ∙ rw (k, and-true, and-true, l, ← most-same s.length short))
