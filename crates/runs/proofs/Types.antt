-- The walk's ways out at a type's row, but for what its members and entries list.
use Rattle.std.specs.Prelude.{Option, Some, None}
use Prim.Native.Nat.{ℕ, suc, ◌+◌, ◌-◌, ◌*◌, ◌/◌, ◌<◌, ◌≤◌, min}
use mathlib.Core.Path.{◌≡◌, refl, sym, ap, ◌∙◌}
use mathlib.Core.Bool.{Bool, true, false, not, ◌&&◌, false≢true}
use mathlib.Core.List.{List, [], ◌∷◌}
use native.Mathlib.Omega.{arith}
use native.Mathlib.Numerals.{add-one}
use native.Mathlib.Nat.{mul_comm}
use borrow.Author.Tests.{not-true}
use Rattle.format.specs.Datatype.{Datatype, compound, enumeration, variable_length, array, Members, EnumMember, product, type_size_of}
use Rattle.format.specs.Image.{Field, move_fields, fields_of}
use Rattle.format.specs.Ownership.{outside, heap_held}
use Rattle.format.specs.Slots.{first_zero}
use Rattle.format.specs.Table.{Found, found, bad, and_then, type_at, members_at, enum_names_at, enum_values_at}
use Rattle.format.proofs.Booleans.{and_both}
use Rattle.format.proofs.Ownership.{array_size}
use Rattle.format.proofs.Slots.{or_else_none}
use Rattle.rows.specs.Entries.{entry_at, leaf_type, from_entry, RowSays}
use Rattle.rows.specs.declared.Entry.{Entry}
use Rattle.rows.specs.declared.Entry.TheVariants.{Leaf, Compound, Enumeration, VariableLength, Array}
use Rattle.rows.proofs.Known.{claim_of-type}
use Rattle.table.specs.Known.{PassesTo, PassesType, TotalAt, SizedTo, SizedAt}
use Rattle.table.specs.Path.{top_of, Entered}
use Rattle.table.specs.declared.path.Path.{Path}
use Rattle.compare.specs.Agreeing.{nul_terminated_of, is_field_of, is_string_of}
use Rattle.compare.proofs.Fields.{IsField, field-moved, leaf-field, enumeration-field, OneField, type-field}
use Rattle.compare.proofs.Types.{base-admitted, base-sized, total-is, count-is, count-some, untyped}
use Rattle.groups.specs.Runs.{RunList, add_runs}
use Rattle.groups.proofs.Runs.{whole_at, runs_entries}
use Rattle.runs.specs.Listing.{Grows, Lists, ListsField, ListsAs, ListsIn, ListsEach, ListsAt, ListsMembers, ListsEntries, ListsArray}
use Rattle.runs.specs.declared.Runs.{Runs}

-- ---- one field

-- fields that are added as others are
lists_as : {fs gs : List Field} {next : ℕ} {s : Runs} {w : List ℕ} {s' : Runs} {w' : List ℕ} → ((v : RunList) → add_runs v gs ≡ add_runs v fs) → Lists fs next s w s' w' → Lists gs next s w s' w'
lists_as e h = record { row_is = h.row_is; holds = λ len v k. rw (e v) (h.holds len v k) }

-- an array of a field that counts whole, as one field
array_as_one : (at : ℕ) (ds : List ℕ) (t : Datatype) {total : ℕ} → IsField t (type_size_of t) false → total ≡ product ds * type_size_of t → 0 < product ds → (v : RunList)
    → add_runs v (move_fields at (fields_of (array ds t))) ≡ add_runs v (whole_at at total ∷ [])
unfolding fields_of add_runs
array_as_one at ds t i n k v =
    let j : product ds ≡ suc (product ds - 1) = omega arith in
    rw (i.fields, n, j) (runs_entries v at (type_size_of t) (product ds - 1))

module _ (limit at : ℕ) (s : Runs) (w : List ℕ) (s' : Runs) (w' : List ℕ) where
  field-lists : (t : Datatype) (r p n : ℕ) (e : Bool) (next : ℕ) → IsField t n e → next ≡ r → ListsField n e limit at next s w s' w' → ListsAs (found t r p) limit at s w s' w'
  unfolding ListsAs
  field-lists t r p n e next i q h d l = rw (← q, i.fields, field-moved at n e) (h.lists (omega (arith, i.size)))

  -- ---- an array

  -- an array whose base has size 0 is not admitted
  array-zero : (ds : List ℕ) (size : ℕ) (y : Found Datatype) → SizedTo y size → size ≡ 0 → ListsAs (and_then y (λ t r p. found (array ds t) r p)) limit at s w s' w'
  unfolding SizedTo and_then ListsAs
  array-zero ds size (found t r p) f e = λ d l. absurd (omega (arith, base-sized ds t d))
  array-zero ds size bad f e = tt

  -- by the size of an array's base where one is found, and what all entries take
  module _ (ds : List ℕ) (size : ℕ) {total : ℕ} (ht : total ≡ min (size * product ds) 4294967296) where
    array_whole : (y : Found Datatype) (next : ℕ) → SizedTo y size → PassesTo y next → OneField false y → ListsField total false limit at next s w s' w'
        → ListsAs (and_then y (λ t r p. found (array ds t) r p)) limit at s w s' w'
    unfolding SizedTo PassesTo OneField and_then ListsAs
    array_whole (found t r p) next f g i v =
        λ d l.
        let n : total ≡ product ds * type_size_of t = omega (arith, total-is ds t d f ht, mul_comm (type_size_of t) (product ds)) in
        let k : 0 < product ds = rw (count-is ds t d f ht) at (count-some ds t d f ht) in
        rw (← g) (lists_as (array_as_one at ds t i n k) (v.lists (omega (arith, n, array_size ds t d.inside))))
    array_whole bad next f g i v = tt

    array-each : (y : Found Datatype) → SizedTo y size → ListsEach y size (total / size) limit at s w s' w' → ListsAs (and_then y (λ t r p. found (array ds t) r p)) limit at s w s' w'
    unfolding SizedTo and_then ListsAs ListsEach fields_of
    array-each (found t r p) f v =
        λ d l.
        let k = count-is ds t d f ht in
        rw (k, f) at v (base-admitted ds t d) refl (rw k at (count-some ds t d f ht)) (omega (arith, array_size ds t d.inside, l))
    array-each bad f v = tt

-- ---- by the row

module _ (table pool : List ℕ) (most depth row limit at : ℕ) (s : Runs) (w : List ℕ) (s' : Runs) (w' : List ℕ) {e : Entry} (shallow : depth ≤ 32) (says : RowSays table row (Some e)) where
  by_row : {f : Entry} → e ≡ f → Grows s.closed s'.closed → (s'.closed < most → (p : ℕ) → Some f ≡ entry_at table pool row p → ListsAs (from_entry (type_at (32 - depth) table pool) table pool row p (Some f)) limit at s w s' w')
      → ListsAt most (33 - depth) table pool row limit at s w s' w'
  by_row h c v =
      let j : 33 - depth ≡ suc (32 - depth) = omega arith in
      record { grows = c; lists = λ z p. rw j (claim_of-type table pool row p (λ (y : Found Datatype). ListsAs y limit at s w s' w') (unfold ListsAs in tt) (32 - depth) (Some e) (says.is pool p) (λ q. rw h (v z p (ap Some (sym h) ∙ q)))) }

  pub type-variable_length : {i v c : ℕ} → Grows s.closed s'.closed → e ≡ VariableLength i v c → ListsAt most (33 - depth) table pool row limit at s w s' w'
  type-variable_length {i = i} {v = v} {c = c} g h = by_row h g (λ z p q. unfold from_entry in go (type_at (32 - depth) table pool (suc row) p))
    where
      go : (y : Found Datatype) → ListsAs (and_then y (λ t r' p'. found (variable_length i v c t) r' p')) limit at s w s' w'
      go (found t r' p') = unfold and_then ListsAs heap_held in λ d l. absurd (false≢true (sym d.plain))
      go bad = unfold and_then ListsAs in tt

  pub type-leaf : {k n l y : ℕ} {c : Bool} → e ≡ Leaf k n l y → c ≡ nul_terminated_of k y → ListsField n c limit at (row + 1) s w s' w' → ListsAt most (33 - depth) table pool row limit at s w s' w'
  type-leaf {k = k} {n = n} {l = l} {y = y} h u v =
      by_row h v.grows (λ z p q. unfold from_entry in field-lists limit at s w s' w' (leaf_type table pool row p k) (suc row) (p + l) n (nul_terminated_of k y) (row + 1) (leaf-field table pool row p q refl refl) (add-one row) (rw u at v))

  -- an enumeration ends where its members do
  pub type-enumeration : {n k next : ℕ} → e ≡ Enumeration n k → PassesType (33 - depth) table row next → ListsField n false limit at next s w s' w'
      → ListsAt most (33 - depth) table pool row limit at s w s' w'
  unfolding from_entry
  type-enumeration {n = n} {k = k} {next = next} h b v =
      let j : 33 - depth ≡ suc (32 - depth) = omega arith in
      record { grows = v.grows; lists = λ z p. rw j (claim_of-type table pool row p (λ (y : Found Datatype). PassesTo y next → ListsAs y limit at s w s' w') (λ g. unfold ListsAs in tt) (32 - depth) (Some e) (says.is pool p) (λ q. rw h (of-base p)) (rw j at (b.passes pool p))) }
    where
      of_values : (t : Datatype) (y : Found (List EnumMember)) → PassesTo (and_then y (λ ms r₃ p₃. found (enumeration n t ms) r₃ p₃)) next
          → ListsAs (and_then y (λ ms r₃ p₃. found (enumeration n t ms) r₃ p₃)) limit at s w s' w'
      of_values t (found ms r p) g = unfold and_then in field-lists limit at s w s' w' (enumeration n t ms) r p n false next (enumeration-field n t ms) (unfold PassesTo and_then in g) v
      of_values t bad g = unfold and_then ListsAs in tt

      of-names : (t : Datatype) (y : Found (List (List ℕ × ℕ))) → PassesTo (and_then y (λ ns r₂ p₂. and_then (enum_values_at pool ns r₂ p₂) (λ ms r₃ p₃. found (enumeration n t ms) r₃ p₃))) next
          → ListsAs (and_then y (λ ns r₂ p₂. and_then (enum_values_at pool ns r₂ p₂) (λ ms r₃ p₃. found (enumeration n t ms) r₃ p₃))) limit at s w s' w'
      of-names t (found ns r p) g = unfold and_then in of_values t (enum_values_at pool ns r p) (unfold and_then in g)
      of-names t bad g = unfold and_then ListsAs in tt

      of_types : (y : Found Datatype)
          → PassesTo (and_then y (λ t r₁ p₁. and_then (enum_names_at table pool k r₁ p₁) (λ ns r₂ p₂. and_then (enum_values_at pool ns r₂ p₂) (λ ms r₃ p₃. found (enumeration n t ms) r₃ p₃)))) next
          → ListsAs (and_then y (λ t r₁ p₁. and_then (enum_names_at table pool k r₁ p₁) (λ ns r₂ p₂. and_then (enum_values_at pool ns r₂ p₂) (λ ms r₃ p₃. found (enumeration n t ms) r₃ p₃)))) limit at s w s' w'
      of_types (found t r p) g = unfold and_then in of-names t (enum_names_at table pool k r p) (unfold and_then in g)
      of_types bad g = unfold and_then ListsAs in tt

      of-base : (p : ℕ) → PassesTo (from_entry (type_at (32 - depth) table pool) table pool row p (Some (Enumeration n k))) next
          → ListsAs (from_entry (type_at (32 - depth) table pool) table pool row p (Some (Enumeration n k))) limit at s w s' w'
      of-base p g = of_types (type_at (32 - depth) table pool (suc row) p) g

  pub type-array : {k : ℕ} → e ≡ Array k → ListsArray most (32 - depth) table pool row k limit at s w s' w' → ListsAt most (33 - depth) table pool row limit at s w s' w'
  type-array h v = by_row h v.grows (λ z p q. v.lists z p q)

  pub type-compound : {n k : ℕ} → e ≡ Compound n k → ListsMembers most (32 - depth) table pool k (row + 1) limit at s w s' w' → ListsAt most (33 - depth) table pool row limit at s w s' w'
  unfolding from_entry
  type-compound {n = n} {k = k} h v = by_row h v.grows (λ z p q. go (members_at (type_at (32 - depth) table pool) table pool k (suc row) p) (rw (add-one row) at (v.lists z p)))
    where
      go : (y : Found Members) → ListsIn y limit at s w s' w' → ListsAs (and_then y (λ ms r' p'. found (compound n ms) r' p')) limit at s w s' w'
      go (found ms r p) i =
          unfold and_then ListsAs ListsIn fields_of type_size_of in
          λ d l. i n (unfold first_zero outside heap_held in record { sized = (or_else_none _ _ d.sized).1; inside = d.inside; plain = d.plain }) l
      go bad i = unfold and_then ListsAs in tt

-- ---- an array, by its base

-- a row whose type is a field that counts whole
whole_says : {c : Bool} (e : Entry) → c ≡ (is_field_of e && not (is_string_of e)) → c ≡ true → (is_field_of e ≡ true) × (is_string_of e ≡ false)
whole_says e h t = let q = and_both (is_field_of e) (not (is_string_of e)) (sym h ∙ t) in (q.0, not-true (is_string_of e) q.1)

module _ (table pool : List ℕ) (most depth row k limit at : ℕ) (s : Runs) (w : List ℕ) (s' : Runs) (w' : List ℕ) where
  -- where no level is left there is no base
  pub array-deep : Grows s.closed s'.closed → 32 ≤ depth → ListsArray most (32 - depth) table pool row k limit at s w s' w'
  array-deep c h =
      let j : 32 - depth ≡ 0 = omega arith in
      record { grows = c; lists = λ z p q. rw j (unfold from_entry type_at and_then ListsAs in tt) }

  module _ {size : ℕ} (f : SizedAt (32 - depth) table pool (row + 1) size) where
    base-size : (p : ℕ) → SizedTo (type_at (32 - depth) table pool (suc row) p) size
    base-size p = rw (add-one row) at (f.sized p)

    pub array-none : Grows s.closed s'.closed → size ≡ 0 → ListsArray most (32 - depth) table pool row k limit at s w s' w'
    unfolding from_entry
    array-none c e = record { grows = c; lists = λ z p q. array-zero limit at s w s' w' _ size (type_at (32 - depth) table pool (suc row) (p + k * 4)) (base-size (p + k * 4)) e }

    module _ {total : ℕ} (h : TotalAt table pool row k size total) where
      pub array-of-field : {c : Bool} {a : Option Entry} (i : Entry) (next : ℕ) → RowSays table (row + 1) a → a ≡ Some i → c ≡ (is_field_of i && not (is_string_of i)) → c ≡ true → PassesType (32 - depth) table (row + 1) next
          → ListsField total false limit at next s w s' w' → ListsArray most (32 - depth) table pool row k limit at s w s' w'
      unfolding from_entry
      array-of-field i next n a b c g v =
          let o = whole_says i b c in
          record {
            grows = v.grows;
            lists = λ z p q.
                array_whole limit at s w s' w' _ size (h.total p q) (type_at (32 - depth) table pool (suc row) (p + k * 4)) next (base-size (p + k * 4)) (rw (add-one row) at (g.passes pool (p + k * 4)))
                (rw (add-one row, o.1) at (type-field (32 - depth) table pool (row + 1) (p + k * 4) i (rw a at (n.is pool (p + k * 4))) o.0)) v;
          }

      -- where the base's row says nothing there is no base
      pub array-unknown : {o : Option Entry} → Grows s.closed s'.closed → RowSays table (row + 1) o → o ≡ None → ListsArray most (32 - depth) table pool row k limit at s w s' w'
      unfolding from_entry
      array-unknown c says e = record { grows = c; lists = λ z p q. rw (rw (add-one row) at (untyped table pool (row + 1) (32 - depth) says e (p + k * 4))) (unfold and_then ListsAs in tt) }

      pub array-entries : {path : Path} (inner : Path) → path.depth ≡ depth → Entered path (row + 1) inner → depth < 32
          → ListsEntries most (33 - inner.depth) table pool (top_of inner) size (total / size) limit at s w s' w' → ListsArray most (32 - depth) table pool row k limit at s w s' w'
      unfolding from_entry
      array-entries inner e g d u =
          let i = g.deeper in
          let j : 33 - inner.depth ≡ 32 - depth = omega arith in
          let y : ListsEntries most (32 - depth) table pool (row + 1) size (total / size) limit at s w s' w' = rw (j, g.top) at u in
          record {
            grows = y.grows;
            lists = λ z p q.
                array-each limit at s w s' w' _ size (h.total p q) (type_at (32 - depth) table pool (suc row) (p + k * 4)) (base-size (p + k * 4)) (rw (add-one row) at (y.lists z (p + k * 4)));
          }

-- ---- one level further down

pub member-entered : (table pool : List ℕ) (most depth row limit at : ℕ) (s : Runs) (w : List ℕ) (s' : Runs) (w' : List ℕ) {path : Path} (inner : Path) → path.depth ≡ depth → depth < 32 → Entered path row inner
    → ListsAt most (33 - inner.depth) table pool (top_of inner) limit at s w s' w' → ListsAt most (32 - depth) table pool row limit at s w s' w'
member-entered table pool most depth row limit at s w s' w' inner e d h g =
    let i = h.deeper in
    let j : 33 - inner.depth ≡ 32 - depth = omega arith in
    rw (j, h.top) at g

pub member_unknown : (table pool : List ℕ) (most depth row limit at : ℕ) (s : Runs) (w : List ℕ) (s' : Runs) (w' : List ℕ) {o : Option Entry} → Grows s.closed s'.closed → RowSays table row o → o ≡ None
    → ListsAt most (32 - depth) table pool row limit at s w s' w'
member_unknown table pool most depth row limit at s w s' w' c says e = record { grows = c; lists = λ z p. rw (untyped table pool row (32 - depth) says e p) (unfold ListsAs in tt) }
