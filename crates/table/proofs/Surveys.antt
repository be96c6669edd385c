-- The walk over a type's rows, one law for each way out of it.
use Prim.Native.Nat.{ℕ, suc, ◌+◌, ◌-◌, ◌*◌, ◌<◌, ◌≤◌, min}
use mathlib.Core.Path.{◌≡◌, refl, sym, ap, ◌∙◌}
use mathlib.Core.Bool.{Bool, true, false, cond, ◌&&◌, ◌||◌, or-false, or_assoc, and-true}
use mathlib.Core.List.{List}
use native.Mathlib.Omega.{arith}
use native.Mathlib.Numerals.{add-one}
use native.Mathlib.Decide.{dec_le}
use lib.ListN.{take, drop}
use Rattle.std.specs.Prelude.{Option, Some, None}
use Rattle.std.specs.Bool.{then_some}
use Rattle.std.specs.Option.{option_or}
use Rattle.std.proofs.Math.Option as maybe
use lib.Dec.{eqb, ltb}
use borrow.Author.Tests.{le-ltb, lt-ltb}
use Rattle.format.specs.Bytes.{dimensions_from}
use Rattle.format.specs.Datatype.{Datatype, compound, enumeration, variable_length, array, Members, member, EnumMember, product, type_size_of}
use Rattle.format.specs.Ownership.{outside, member_outside, heap_held, member_heap_held}
use Rattle.format.specs.Sizes.{holds_object_address, member_holds_object_address, holds_file_address, member_holds_file_address}
use Rattle.format.specs.Slots.{first_zero, member_first_zero, or_else, zero_class}
use Rattle.format.proofs.Rows.{leaf_class-low}
use Rattle.format.specs.Table.{Found, found, bad, Walk, and_then, type_at, members_at, enum_names_at, enum_values_at}
use Rattle.format.proofs.Scaling.{cap_again}
use Rattle.format.proofs.TableSteps.{then_found, then-assoc}
use Rattle.rows.specs.Entries.{entry_at, member_at_of, leaf_type, from_entry, from_member}
use Rattle.rows.specs.declared.Entry.{Entry}
use Rattle.rows.specs.declared.Entry.TheVariants.{Leaf, Compound, Enumeration, VariableLength, Array}
use Rattle.rows.specs.declared.Member.{Member}
use Rattle.rows.proofs.Decode.{type_at_entry, members_at-entry}
use Rattle.rows.proofs.Leaves.{leaf_law}
use Rattle.table.specs.Survey.{leaf_survey_of, enumeration_survey_of, variable_survey_of, array_survey_of, as_option, survey_of, survey_in, spot_of, enum_spot_of}
use Rattle.table.specs.declared.Survey.{Survey}
use Rattle.table.specs.declared.Spot.{Spot}

-- ---- the class of the first row of size 0

zero-class : (k n : ℕ) → as_option (zero_class k n) ≡ then_some (eqb n 0) k
unfolding zero_class as_option
zero-class k n = go (eqb n 0)
  where
    go : (b : Bool) → as_option (cond b (maybe.some k) maybe.none) ≡ then_some b k
    go true = refl
    go false = refl

zero_else : (x y : maybe.Option ℕ) → as_option (or_else x y) ≡ option_or (as_option x) (as_option y)
unfolding as_option or_else
zero_else maybe.none y = refl
zero_else (maybe.some k) y = refl

pub zero_none : (x : maybe.Option ℕ) → as_option x ≡ None → x ≡ maybe.none
unfolding as_option
zero_none maybe.none h = refl
zero_none (maybe.some c) h = cc

pub zero_some : (x : maybe.Option ℕ) (c : ℕ) → as_option x ≡ Some c → x ≡ maybe.some c
unfolding as_option
zero_some maybe.none c h = cc
zero_some (maybe.some d) c h = let e : d ≡ c = cc in rw e

or_none : (a : Option ℕ) → option_or a None ≡ a
or_none None = refl
or_none (Some x) = refl

or_else_assoc : (a b d : Option ℕ) → option_or (option_or a b) d ≡ option_or a (option_or b d)
or_else_assoc None b d = refl
or_else_assoc (Some x) b d = refl

-- ---- an array's size and its cap

ltb_min' : (x : ℕ) → Dec (x ≤ 4294967295) → ltb 4294967295 (min x 4294967296) ≡ ltb 4294967295 x
ltb_min' x (yes h) = rw (le-ltb 4294967295 (min x 4294967296) (omega arith), le-ltb 4294967295 x h)
ltb_min' x (no h) = rw (lt-ltb 4294967295 (min x 4294967296) (omega (arith, h)), lt-ltb 4294967295 x (omega (arith, h)))

ltb-min : (x : ℕ) → ltb 4294967295 (min x 4294967296) ≡ ltb 4294967295 x
ltb-min x = ltb_min' x (dec_le x 4294967295)

-- ---- a leaf

-- what a leaf's row says of its type
unfoldable LeafTold : (r p k n l x : ℕ) → Datatype → Type 0
LeafTold r p k n l x t =
    (k ≤ 7)
    × survey_of (found t (suc r) (p + l))
    ≡ Some (record { row = suc r; place = p + l; size = n; zero = then_some (eqb n 0) k; outside = false; heap = eqb k 7 && eqb x 1; object = eqb k 7; file = eqb k 7 })

module _ (table pool : List ℕ) (r p : ℕ) where
  leaf-told : {k n l x : ℕ} {o : Option Entry} {e : Entry} → o ≡ entry_at table pool r p → o ≡ Some e → e ≡ Leaf k n l x → LeafTold r p k n l x (leaf_type table pool r p k)
  unfolding LeafTold survey_of type_size_of first_zero outside heap_held holds_object_address holds_file_address
  leaf-told {n = n} {x = x} q i e =
      let h = leaf_law table pool r p q i e in
      (omega (arith, h.class, leaf_class-low h.of), rw (h.is, h.class, zero-class, h.refers_by, h.refers_by, and-true))

  pub leaf-class : {k n l x : ℕ} {o : Option Entry} {e : Entry} → o ≡ entry_at table pool r p → o ≡ Some e → e ≡ Leaf k n l x → k ≤ 7
  unfolding LeafTold
  leaf-class q i e = (leaf-told q i e).0

-- ---- what a walk found, taken apart

pub record Says (s : Survey) (t : Datatype) (r p : ℕ) : Type 0 where
  pub is : s ≡ record { row = r; place = p; size = type_size_of t; zero = as_option (first_zero t); outside = outside t; heap = heap_held t; object = holds_object_address t; file = holds_file_address t }

unfoldable pub Told : Found Datatype → Survey → Type 0
Told (found t r p) s = Says s t r p
Told bad s = ⊥

pub told : (x : Found Datatype) (s : Survey) {y : Option Survey} → y ≡ survey_of x → y ≡ Some s → Told x s
unfolding survey_of Told
told (found t r p) s q e = record { is = cc }
told bad s q e = let z : ◌≡◌ {A = ℕ} 0 1 = cc in omega arith

pub untold : (x : Found Datatype) {y : Option Survey} → y ≡ survey_of x → y ≡ None → x ≡ bad
unfolding survey_of
untold (found t r p) q e = let z : ◌≡◌ {A = ℕ} 0 1 = cc in absurd (omega arith)
untold bad q e = refl

none_then : (x : Found Datatype) (f : Datatype → Walk Datatype) {y : Option Survey} → y ≡ survey_of x → y ≡ None → None ≡ survey_of (and_then x f)
unfolding and_then survey_of
none_then x f q e = rw (untold x q e)

-- ---- the types that hold another

module _ (table pool : List ℕ) (n k : ℕ) (s : Survey) where
  behind-lost : (t : Datatype) (x : Found (List EnumMember)) → None ≡ spot_of x → None ≡ survey_of (and_then x (λ ms r p. found (enumeration n t ms) r p))
  unfolding spot_of and_then survey_of
  behind-lost t (found ms r p) e = let z : ◌≡◌ {A = ℕ} 0 1 = cc in absurd (omega arith)
  behind-lost t bad e = refl

  enumeration-lost : (x : Found Datatype) → Told x s → None ≡ enum_spot_of table pool k s.row s.place
      → None ≡ survey_of (and_then x (λ t r₁ p₁. and_then (enum_names_at table pool k r₁ p₁) (λ ns r₂ p₂. and_then (enum_values_at pool ns r₂ p₂) (λ ms r₃ p₃. found (enumeration n t ms) r₃ p₃))))
  unfolding Told enum_spot_of
  enumeration-lost (found t r p) h e =
      let fr : s.row ≡ r = ap (λ (v : Survey). v.row) h.is in
      let fp : s.place ≡ p = ap (λ (v : Survey). v.place) h.is in
      let d : None ≡ spot_of (and_then (enum_names_at table pool k r p) (enum_values_at pool)) = rw (fr, fp) at e in
      rw (then_found t _ r p, then-assoc (enum_names_at table pool k r p) (enum_values_at pool) (λ ms r₃ p₃. found (enumeration n t ms) r₃ p₃)) (behind-lost t _ d)
  enumeration-lost bad h e = absurd h

  behind-sound : (t : Datatype) (x : Found (List EnumMember)) {end : Spot} (r p : ℕ) → Says s t r p → Some end ≡ spot_of x
      → Some (record { row = end.row; place = end.place; size = n; zero = option_or (then_some (eqb n 0) 8) s.zero; outside = s.outside; heap = s.heap; object = s.object; file = s.file })
      ≡ survey_of (and_then x (λ ms r p. found (enumeration n t ms) r p))
  unfolding spot_of and_then survey_of type_size_of first_zero outside heap_held holds_object_address holds_file_address
  behind-sound t (found ms r p) {end = end} r₁ p₁ h e =
      let f : end ≡ record { row = r; place = p } = cc in
      rw (f, h.is, zero_else, zero-class)
  behind-sound t bad r₁ p₁ h e = let z : ◌≡◌ {A = ℕ} 0 1 = cc in absurd (omega arith)

  enumeration-sound : {end : Spot} (x : Found Datatype) → Told x s → Some end ≡ enum_spot_of table pool k s.row s.place
      → Some (record { row = end.row; place = end.place; size = n; zero = option_or (then_some (eqb n 0) 8) s.zero; outside = s.outside; heap = s.heap; object = s.object; file = s.file })
      ≡ survey_of (and_then x (λ t r₁ p₁. and_then (enum_names_at table pool k r₁ p₁) (λ ns r₂ p₂. and_then (enum_values_at pool ns r₂ p₂) (λ ms r₃ p₃. found (enumeration n t ms) r₃ p₃))))
  unfolding Told enum_spot_of
  enumeration-sound {end = end} (found t r p) h e =
      let fr : s.row ≡ r = ap (λ (v : Survey). v.row) h.is in
      let fp : s.place ≡ p = ap (λ (v : Survey). v.place) h.is in
      let d : Some end ≡ spot_of (and_then (enum_names_at table pool k r p) (enum_values_at pool)) = rw (fr, fp) at e in
      rw (then_found t _ r p, then-assoc (enum_names_at table pool k r p) (enum_values_at pool) (λ ms r₃ p₃. found (enumeration n t ms) r₃ p₃)) (behind-sound t _ r p h d)
  enumeration-sound bad h e = absurd h

variable_length-sound : (i a k : ℕ) (s : Survey) (x : Found Datatype) → Told x s
    → Some (record { row = s.row; place = s.place; size = 16; zero = s.zero; outside = s.outside; heap = true; object = s.object; file = true })
    ≡ survey_of (and_then x (λ t r p. found (variable_length i a k t) r p))
unfolding Told and_then survey_of type_size_of first_zero outside heap_held holds_object_address holds_file_address
variable_length-sound i a k s (found t r p) h = rw h.is
variable_length-sound i a k s bad h = absurd h

module _ (ds : List ℕ) (s : Survey) {total size : ℕ} {note first : Option ℕ} {out : Bool} (ht : total ≡ min (s.size * product ds) 4294967296) (hs : size ≡ min total 4294967295)
    (hn : note ≡ then_some (eqb size 0) 10) (hf : first ≡ option_or note s.zero) (ho : out ≡ (ltb 4294967295 total || s.outside)) where
  array-sound : (x : Found Datatype) → Told x s
      → Some (record { row = s.row; place = s.place; size = size; zero = first; outside = out; heap = s.heap; object = s.object; file = s.file })
      ≡ survey_of (and_then x (λ t r p. found (array ds t) r p))
  unfolding Told and_then survey_of type_size_of first_zero outside heap_held holds_object_address holds_file_address
  array-sound (found t r p) h = rw (ho, hf, hn, hs, ht, h.is, zero_else, zero-class, cap_again, ltb-min)
  array-sound bad h = absurd h

-- ---- a type

module _ (table pool : List ℕ) (row place levels : ℕ) where
  pub type-none : levels ≡ 0 → None ≡ survey_of (type_at levels table pool row place)
  unfolding type_at survey_of
  type-none e = rw e

  module _ {x : Option Entry} (deep : levels ≡ 0 → ⊥) (q : x ≡ entry_at table pool row place) where
    type_as : {e : Option Entry} → x ≡ e → type_at levels table pool row place ≡ from_entry (type_at (levels - 1) table pool) table pool row place e
    type_as {e = e} h =
        let j : levels ≡ suc (levels - 1) = omega (arith, deep) in
        ap (λ (k : ℕ). type_at k table pool row place) j
        ∙ type_at_entry (levels - 1) table pool row place
        ∙ ap (from_entry (type_at (levels - 1) table pool) table pool row place) (sym q ∙ h)

    pub type_unknown : {z : Option Survey} → x ≡ None → z ≡ None → z ≡ survey_of (type_at levels table pool row place)
    unfolding from_entry survey_of
    type_unknown h g = rw (type_as h) g

    module _ {e : Entry} (i : x ≡ Some e) where
      type_is : {f : Entry} → e ≡ f → type_at levels table pool row place ≡ from_entry (type_at (levels - 1) table pool) table pool row place (Some f)
      type_is h = type_as (i ∙ ap Some h)

      pub type-leaf : {k n l code : ℕ} {s : Survey} → e ≡ Leaf k n l code → s ≡ leaf_survey_of row place k n l code → Some s ≡ survey_of (type_at levels table pool row place)
      unfolding from_entry LeafTold leaf_survey_of
      type-leaf h g = rw (type_is h, g, add-one) (sym (leaf-told table pool row place q i h).1)

      pub type-compound : {n k : ℕ} {z : Option Survey} → e ≡ Compound n k → z ≡ survey_in n (members_at (type_at (levels - 1) table pool) table pool k (row + 1) place)
          → z ≡ survey_of (type_at levels table pool row place)
      unfolding from_entry
      type-compound {n = n} {k = k} h g = rw (type_is h) (g ∙ rw add-one (go _))
        where
          go : (y : Found Members) → survey_in n y ≡ survey_of (and_then y (λ ms r' p'. found (compound n ms) r' p'))
          go (found ms r p) = unfold survey_in survey_of and_then type_size_of first_zero outside heap_held holds_object_address holds_file_address in refl
          go bad = unfold survey_in survey_of and_then in refl

      -- the type below an enumeration, a variable-length type or an array
      module _ {n k : ℕ} {y : Option Survey} (h : e ≡ Enumeration n k) (g : y ≡ survey_of (type_at (levels - 1) table pool (row + 1) place)) where
        pub type-enumeration_none : {z : Option Survey} → y ≡ None → z ≡ None → z ≡ survey_of (type_at levels table pool row place)
        unfolding from_entry
        type-enumeration_none f d = rw (type_is h) (d ∙ none_then _ _ (rw (add-one row) at g) f)

        pub type-enumeration-lost : {s : Survey} {w : Option Spot} {z : Option Survey} → y ≡ Some s → w ≡ enum_spot_of table pool k s.row s.place → w ≡ None → z ≡ None
            → z ≡ survey_of (type_at levels table pool row place)
        unfolding from_entry
        type-enumeration-lost {s = s} f v d b = rw (type_is h) (b ∙ enumeration-lost table pool _ _ s _ (told _ s (rw (add-one row) at g) f) (sym d ∙ v))

        pub type-enumeration : {s v : Survey} {w : Option Spot} {end : Spot} → y ≡ Some s → w ≡ enum_spot_of table pool k s.row s.place → w ≡ Some end → v ≡ enumeration_survey_of n s end
            → Some v ≡ survey_of (type_at levels table pool row place)
        unfolding from_entry enumeration_survey_of
        type-enumeration {s = s} f v d hv = rw (type_is h, hv) (enumeration-sound table pool _ _ s _ (told _ s (rw (add-one row) at g) f) (sym d ∙ v))

      module _ {i₀ a c : ℕ} {y : Option Survey} (h : e ≡ VariableLength i₀ a c) (g : y ≡ survey_of (type_at (levels - 1) table pool (row + 1) place)) where
        pub type-variable_length_none : {z : Option Survey} → y ≡ None → z ≡ None → z ≡ survey_of (type_at levels table pool row place)
        unfolding from_entry
        type-variable_length_none f d = rw (type_is h) (d ∙ none_then _ _ (rw (add-one row) at g) f)

        pub type-variable_length : {s v : Survey} → y ≡ Some s → v ≡ variable_survey_of s → Some v ≡ survey_of (type_at levels table pool row place)
        unfolding from_entry variable_survey_of
        type-variable_length {s = s} f hv = rw (type_is h, hv) (variable_length-sound _ _ _ s _ (told _ s (rw (add-one row) at g) f))

      module _ {k : ℕ} {y : Option Survey} (h : e ≡ Array k) (g : y ≡ survey_of (type_at (levels - 1) table pool (row + 1) (place + k * 4))) where
        pub type-array_none : {z : Option Survey} → y ≡ None → z ≡ None → z ≡ survey_of (type_at levels table pool row place)
        unfolding from_entry
        type-array_none f d = rw (type_is h) (d ∙ none_then _ _ (rw (add-one row) at g) f)

        pub type-array : {s v : Survey} → y ≡ Some s → v ≡ array_survey_of (min (s.size * product (dimensions_from k (take (k * 4) (drop place pool)))) 4294967296) s
            → Some v ≡ survey_of (type_at levels table pool row place)
        unfolding from_entry array_survey_of
        type-array {s = s} f hv = rw (type_is h, hv) (array-sound _ s refl refl refl refl refl _ (told _ s (rw (add-one row) at g) f))

-- ---- the members of a compound

-- what a walk over the members answers that has gathered so much before
unfoldable pub gathered : (size : ℕ) (zero : Option ℕ) (outside heap object file : Bool) → Found Members → Option Survey
gathered n z o h b f (found ms r p) =
    Some (record {
      row = r;
      place = p;
      size = n;
      zero = option_or z (as_option (member_first_zero ms));
      outside = o || member_outside n ms;
      heap = h || member_heap_held ms;
      object = b || member_holds_object_address ms;
      file = f || member_holds_file_address ms;
    })
gathered n z o h b f bad = None

pub members-start : (n : ℕ) {z : Option ℕ} (x : Found Members) → z ≡ then_some (eqb n 0) 6 → survey_in n x ≡ gathered n z false false false false x
unfolding survey_in gathered
members-start n (found ms r p) e = rw (e, zero_else, zero-class)
members-start n bad e = refl

gathered-member : (n : ℕ) (z : Option ℕ) (o h b f : Bool) (name : List ℕ) (offset : ℕ) (t : Datatype) (x : Found Members)
    → gathered n z o h b f (and_then x (λ ms r p. found (member name offset t ms) r p))
    ≡ gathered n (option_or z (as_option (first_zero t))) (o || ltb n (offset + type_size_of t) || outside t) (h || heap_held t) (b || holds_object_address t) (f || holds_file_address t) x
unfolding gathered and_then first_zero outside heap_held holds_object_address holds_file_address
gathered-member n z o h b f name offset t (found ms r p) =
    rw (zero_else, or_else_assoc, or_assoc (o || ltb n (offset + type_size_of t)), or_assoc o, or_assoc h, or_assoc b, or_assoc f)
gathered-member n z o h b f name offset t bad = refl

module _ (n : ℕ) (z : Option ℕ) (o h b f : Bool) (name : List ℕ) (offset : ℕ) (rest : Walk Members) (s : Survey) where
  gathered_next : (x : Found Datatype) → Told x s
      → gathered n z o h b f (and_then x (λ t r₁ p₁. and_then (rest r₁ p₁) (λ ms r₂ p₂. found (member name offset t ms) r₂ p₂)))
      ≡ gathered n (option_or z s.zero) (o || ltb n (offset + s.size) || s.outside) (h || s.heap) (b || s.object) (f || s.file) (rest s.row s.place)
  unfolding Told
  gathered_next (found t r p) i = rw (then_found t _ r p, i.is) (gathered-member n z o h b f name offset t (rest r p))
  gathered_next bad i = absurd i

module _ (table pool : List ℕ) (levels size r p left : ℕ) (zeros : Option ℕ) (o h b f : Bool) {z : Option Survey} {x : Option Member}
    (inv : z ≡ gathered size zeros o h b f (members_at (type_at levels table pool) table pool left r p)) (some_left : 0 < left) (q : x ≡ member_at_of table pool r p) where
  members_as : {m : Option Member} → x ≡ m → z ≡ gathered size zeros o h b f (from_member (type_at levels table pool) (members_at (type_at levels table pool) table pool (left - 1)) pool r p m)
  members_as e =
      let j : left ≡ suc (left - 1) = omega arith in
      inv
      ∙ ap (λ (k : ℕ). gathered size zeros o h b f (members_at (type_at levels table pool) table pool k r p)) j
      ∙ ap (gathered size zeros o h b f) (members_at-entry table pool (left - 1) r p (type_at levels table pool))
      ∙ ap (λ (m : Option Member). gathered size zeros o h b f (from_member (type_at levels table pool) (members_at (type_at levels table pool) table pool (left - 1)) pool r p m)) (sym q ∙ e)

  pub members_unnamed : {w : Option Survey} → x ≡ None → w ≡ None → w ≡ z
  unfolding from_member gathered
  members_unnamed e d = d ∙ sym (members_as e)

  module _ {m : Member} {y : Option Survey} (e : x ≡ Some m) (g : y ≡ survey_of (type_at levels table pool (r + 1) (p + m.name))) where
    pub members_none : {w : Option Survey} → y ≡ None → w ≡ None → w ≡ z
    unfolding from_member
    members_none d k = k ∙ sym (members_as e ∙ rw (untold _ (rw (add-one r) at g) d) (unfold and_then gathered in refl))

    pub members-next : {s : Survey} {zeros' : Option ℕ} {limit offset long rest : ℕ} → y ≡ Some s → zeros' ≡ option_or zeros s.zero → limit ≡ size → offset ≡ m.number → long ≡ s.size → rest ≡ left - 1
        → z ≡ gathered size zeros' (o || ltb limit (offset + long) || s.outside) (h || s.heap) (b || s.object) (f || s.file) (members_at (type_at levels table pool) table pool rest s.row s.place)
    unfolding from_member
    members-next {s = s} d hz hl hm hs hr =
        rw (hz, hl, hm, hs, hr) (members_as e ∙ gathered_next size zeros o h b f _ m.number (members_at (type_at levels table pool) table pool (left - 1)) s _ (told _ s (rw (add-one r) at g) d))

-- and after the last
pub members_end : (table pool : List ℕ) (levels size r p left : ℕ) (zeros : Option ℕ) (o h b f : Bool) {z : Option Survey} → z ≡ gathered size zeros o h b f (members_at (type_at levels table pool) table pool left r p) → left ≤ 0
    → Some (record { row = r; place = p; size = size; zero = zeros; outside = o; heap = h; object = b; file = f }) ≡ z
unfolding gathered members_at member_first_zero member_outside member_heap_held member_holds_object_address member_holds_file_address as_option
members_end table pool levels size r p left zeros o h b f inv e =
    let k : left ≡ 0 = omega arith in
    sym (inv ∙ rw (k, or_none, or-false o, or-false h, or-false b, or-false f))
