-- The walk's ways out at a type's row, but for what its members and entries answer.
use Rattle.std.specs.Prelude.{Option, Some, None, Result, Ok, Err}
use Rattle.std.specs.Result.{result_ok}
use Prim.Native.Nat.{ℕ, zero, suc, ◌+◌, ◌-◌, ◌*◌, ◌/◌, ◌<◌, ◌≤◌, min}
use mathlib.Core.Path.{◌≡◌, refl, sym, ap, ◌∙◌}
use mathlib.Core.Bool.{Bool, true, false, false≢true}
use mathlib.Core.List.{List, [], ◌∷◌}
use native.Mathlib.Omega.{arith}
use native.Mathlib.Numerals.{add-one}
use native.Mathlib.Nat.{mul_comm, mul-zero, mul-div_cancel_left}
use lib.ListN.{length}
use lib.Dec.{ltb}
use borrow.Author.Tests.{ltb-false}
use Rattle.format.specs.Datatype.{Datatype, compound, enumeration, variable_length, array, Members, EnumMember, product, type_size_of, max_size}
use Rattle.format.specs.Image.{owned_by, counted_in, move_fields, fields_of}
use Rattle.format.specs.Ownership.{outside, heap_held}
use Rattle.format.specs.Slots.{first_zero}
use Rattle.format.specs.Table.{Found, found, bad, and_then, type_at, members_at, enum_names_at, enum_values_at}
use Rattle.format.proofs.Booleans.{or_neither}
use Rattle.format.proofs.Ownership.{array_size}
use Rattle.format.proofs.Walking.{counted-one, counted-whole, whole-entries}
use Rattle.format.proofs.Slots.{first-zero-size, or_else_none}
use Rattle.rows.specs.Entries.{entry_at, leaf_type, from_entry, RowSays}
use Rattle.rows.specs.declared.Entry.{Entry}
use Rattle.rows.specs.declared.Entry.TheVariants.{Leaf, Compound, Enumeration, VariableLength, Array}
use Rattle.rows.proofs.Known.{claim_of-type}
use Rattle.table.specs.Known.{PassesTo, PassesType, TotalAt, SizedTo, SizedAt}
use Rattle.table.specs.Path.{top_of, Entered}
use Rattle.table.specs.declared.path.Path.{Path}
use Rattle.compare.specs.Agreeing.{Agreed, nul_terminated_of, field_at, is_field_of, is_string_of, Admitted, Agrees, AgreesIn, AgreesEach, AgreesAt, AgreesMembers, AgreesEntries, AgreesArray, AgreesEnumeration, AgreesField, AgreesStrings, AgreesFields, BaseIs, BaseIn}
use Rattle.compare.specs.declared.Base.{Base}
use Rattle.compare.proofs.Fields.{IsField, field-agrees, leaf-field, enumeration-field, OneField, type-field}
use Rattle.compare.proofs.Ranges.{answers_as}

-- what an option was that `ok_or` turned
pub some_in : {A E : Type 0} {o : Option A} {r : Result A E} {x : A} → o ≡ result_ok r → r ≡ Ok x → o ≡ Some x
some_in h q = h ∙ ap result_ok q

pub none_in : {A E : Type 0} {o : Option A} {r : Result A E} {e : E} → o ≡ result_ok r → r ≡ Err e → o ≡ None
none_in h q = h ∙ ap result_ok q

-- ---- an array

module _ (ds : List ℕ) (t : Datatype) (d : Admitted (array ds t)) where
  -- an array of no entries has size 0
  none-sized : product ds ≡ 0 → type_size_of (array ds t) ≡ 0
  unfolding type_size_of
  none-sized e = rw (e, mul-zero)

  pub base-admitted : Admitted t
  unfolding first_zero outside heap_held
  base-admitted =
      record {
        sized = (or_else_none _ _ d.sized).1;
        inside = (or_neither (ltb max_size (type_size_of t * product ds)) (outside t) d.inside).1;
        plain = d.plain;
      }

  pub base-sized : 0 < type_size_of t
  base-sized = first-zero-size t base-admitted.sized

  -- its size, uncapped
  true-size : type_size_of t * product ds ≤ max_size
  unfolding outside
  true-size = ltb-false max_size (type_size_of t * product ds) (or_neither (ltb max_size (type_size_of t * product ds)) (outside t) d.inside).0

  pub total-is : {size total : ℕ} → size ≡ type_size_of t → total ≡ min (size * product ds) 4294967296 → total ≡ type_size_of t * product ds
  total-is e h = omega (arith, true-size, h, ap (λ (k : ℕ). k * product ds) e)

  pub count-is : {size total : ℕ} → size ≡ type_size_of t → total ≡ min (size * product ds) 4294967296 → total / size ≡ product ds
  count-is e h = rw (total-is e h, e) (mul-div_cancel_left (product ds) base-sized)

  pub count-some : {size total : ℕ} → size ≡ type_size_of t → total ≡ min (size * product ds) 4294967296 → 0 < total / size
  count-some e h = rw (count-is e h) (go (product ds) refl)
    where
      go : (k : ℕ) → product ds ≡ k → 0 < k
      go zero q = absurd (omega (arith, first-zero-size (array ds t) d.sized, none-sized q))
      go (suc k) q = omega arith

  -- an array of a field that counts whole counts what one field of its size does
  solid_array : {size total : ℕ} → size ≡ type_size_of t → total ≡ min (size * product ds) 4294967296 → IsField t (type_size_of t) false → (at : ℕ) (r : List ℕ) (i : ℕ)
      → counted_in (move_fields at (fields_of (array ds t))) r i ≡ counted_in (field_at at total false ∷ []) r i
  unfolding fields_of
  solid_array {total = total} e h w at r i =
      let n : at + (0 + product ds) * type_size_of t ≡ at + total = omega (arith, total-is e h, mul_comm (type_size_of t) (product ds)) in
      let z : at + 0 * type_size_of t ≡ at = omega arith in
      rw (w.fields, whole-entries at (type_size_of t) (field_at 0 (type_size_of t) false) (record { first = refl; long = refl; not-ended = refl }) r i 0 (product ds), n, z)
      (sym (counted-one (field_at at total false) r i ∙ counted-whole (field_at at total false) r i refl ∙ unfold owned_by in refl))

-- an array whose base has size 0 is not admitted
array-zero : (ds : List ℕ) (size : ℕ) (a b : List ℕ) (at : ℕ) (x : Agreed) (y : Found Datatype) → SizedTo y size → size ≡ 0 → Agrees (and_then y (λ t r p. found (array ds t) r p)) a b at x
unfolding SizedTo and_then Agrees
array-zero ds size a b at x (found t r p) f e = λ d l. absurd (omega (arith, base-sized ds t d))
array-zero ds size a b at x bad f e = tt

-- by the size of an array's base where one is found, and what all entries take
module _ (ds : List ℕ) (size : ℕ) {total : ℕ} (ht : total ≡ min (size * product ds) 4294967296) (a b : List ℕ) (at : ℕ) (x : Agreed) where
  array_solid : (y : Found Datatype) (next : ℕ) → SizedTo y size → PassesTo y next → OneField false y → AgreesField total false a b at next x
      → Agrees (and_then y (λ t r p. found (array ds t) r p)) a b at x
  unfolding SizedTo PassesTo OneField and_then Agrees AgreesField
  array_solid (found t r p) next f g w v =
      λ d l.
      rw (← g) (answers_as (solid_array ds t d f ht w at) (v (omega (arith, total-is ds t d f ht, array_size ds t d.inside, mul_comm (type_size_of t) (product ds)))))
  array_solid bad next f g w v = tt

  array-each : (y : Found Datatype) → SizedTo y size → AgreesEach y size (total / size) a b at x → Agrees (and_then y (λ t r p. found (array ds t) r p)) a b at x
  unfolding SizedTo and_then Agrees AgreesEach fields_of
  array-each (found t r p) f v =
      λ d l.
      let k = count-is ds t d f ht in
      rw (k, f) at v (base-admitted ds t d) refl (rw k at (count-some ds t d f ht)) (omega (arith, array_size ds t d.inside, l))
  array-each bad f v = tt

  -- strings one behind the other are the entries of an array of them
  strings_each : (y : Found Datatype) (next : ℕ) → PassesTo y next → OneField true y → AgreesStrings size (total / size) a b at next x → AgreesEach y size (total / size) a b at x
  unfolding PassesTo OneField AgreesEach AgreesStrings
  strings_each (found t r p) next g w v = λ d e n l. rw (w.fields, ← e, ← g) (v l)
  strings_each bad next g w v = tt

  array-fields : (string : Bool) (y : Found Datatype) (next : ℕ) → SizedTo y size → PassesTo y next → OneField string y
      → AgreesFields string (record { stride = size; bytes = total; count = total / size }) a b at next x → Agrees (and_then y (λ t r p. found (array ds t) r p)) a b at x
  unfolding AgreesFields
  array-fields true y next f g w v = array-each y f (strings_each y next g w v)
  array-fields false y next f g w v = array_solid y next f g w v

-- ---- an array's base, at the array's row

module _ (table pool : List ℕ) (row k levels : ℕ) {size : ℕ} (f : SizedAt levels table pool (row + 1) size) where
  base-size : (p : ℕ) → SizedTo (type_at levels table pool (suc row) p) size
  base-size p = rw (add-one row) at (f.sized p)

  pub base-zero : size ≡ 0 → BaseIn table pool row k levels None
  unfolding BaseIn from_entry
  base-zero z a b at x = record { agrees = λ p q. array-zero _ size a b at x (type_at levels table pool (suc row) (p + k * 4)) (base-size (p + k * 4)) z }

  pub base-found : {total n : ℕ} → TotalAt table pool row k size total → n ≡ size → BaseIn table pool row k levels (Some (record { stride = size; bytes = total; count = total / n }))
  unfolding BaseIn from_entry
  base-found h e =
      rw e
      (record {
        fields = λ e s i a b at next x g v.
            record { agrees = λ p q. array-fields _ size (h.total p q) a b at x (is_string_of e) (type_at levels table pool (suc row) (p + k * 4)) next (base-size (p + k * 4)) (rw (add-one row) at (g.passes pool (p + k * 4))) (rw (add-one row) at (type-field levels table pool (row + 1) (p + k * 4) e (s.is pool (p + k * 4)) i)) v };
        each = λ a b at x v. record { agrees = λ p q. array-each _ size (h.total p q) a b at x (type_at levels table pool (suc row) (p + k * 4)) (base-size (p + k * 4)) (rw (add-one row) at (v.agrees (p + k * 4))) };
      })

-- ---- by the row

-- at a row that says nothing no type is found
pub untyped : (table pool : List ℕ) (row levels : ℕ) {o : Option Entry} → RowSays table row o → o ≡ None → (p : ℕ) → type_at levels table pool row p ≡ bad
unfolding type_at
untyped table pool row zero says e p = refl
untyped table pool row (suc k) {o = o} says e p = claim_of-type table pool row p (λ (y : Found Datatype). y ≡ bad) refl k o (says.is pool p) (λ q. rw e (unfold from_entry in refl))

module _ (table pool : List ℕ) (depth row : ℕ) (a b : List ℕ) (at : ℕ) {o : Option Entry} (shallow : depth ≤ 32) (says : RowSays table row o) where
  by_row : (x : Agreed) {f : Option Entry} → o ≡ f → ((p : ℕ) → f ≡ entry_at table pool row p → Agrees (from_entry (type_at (32 - depth) table pool) table pool row p f) a b at x)
      → AgreesAt (33 - depth) table pool row a b at x
  by_row x h v =
      let j : 33 - depth ≡ suc (32 - depth) = omega arith in
      record { agrees = λ p. rw j (claim_of-type table pool row p (λ (y : Found Datatype). Agrees y a b at x) (unfold Agrees in tt) (32 - depth) o (says.is pool p) (λ q. rw h (v p (sym h ∙ q)))) }

  module _ {e : Entry} (i : o ≡ Some e) where
    pub type-variable_length : (x : Agreed) {j v c : ℕ} → e ≡ VariableLength j v c → AgreesAt (33 - depth) table pool row a b at x
    unfolding from_entry
    type-variable_length x {j = j} {v = v} {c = c} h = by_row x (i ∙ ap Some h) (λ p q. go (type_at (32 - depth) table pool (suc row) p))
      where
        go : (y : Found Datatype) → Agrees (and_then y (λ t r' p'. found (variable_length j v c t) r' p')) a b at x
        go (found t r' p') = unfold and_then Agrees heap_held in λ d l. absurd (false≢true (sym d.plain))
        go bad = unfold and_then Agrees in tt

    pub type-leaf : (x : Agreed) {k n l y : ℕ} → e ≡ Leaf k n l y → AgreesField n (nul_terminated_of k y) a b at (row + 1) x → AgreesAt (33 - depth) table pool row a b at x
    type-leaf x {k = k} {n = n} {l = l} {y = y} h v =
        by_row x (i ∙ ap Some h) (λ p q. unfold from_entry in field-agrees (leaf_type table pool row p k) (suc row) (p + l) n (nul_terminated_of k y) a b at (row + 1) x (leaf-field table pool row p q refl refl) (add-one row) v)

    -- an enumeration ends where its field's answer says
    pub type-enumeration : (x : Agreed) {n k : ℕ} → e ≡ Enumeration n k → AgreesEnumeration (33 - depth) table row n a b at x → AgreesAt (33 - depth) table pool row a b at x
    unfolding from_entry
    type-enumeration x {n = n} {k = k} h v =
        let j : 33 - depth ≡ suc (32 - depth) = omega arith in
        record { agrees = λ p. rw j (claim_of-type table pool row p (λ (y : Found Datatype). PassesTo y v.next → Agrees y a b at x) (λ g. unfold Agrees in tt) (32 - depth) o (says.is pool p) (λ q. rw (i, h) (of-base p)) (rw j at (v.passes.passes pool p))) }
      where
        of_values : (t : Datatype) (y : Found (List EnumMember)) → PassesTo (and_then y (λ ms r₃ p₃. found (enumeration n t ms) r₃ p₃)) v.next
            → Agrees (and_then y (λ ms r₃ p₃. found (enumeration n t ms) r₃ p₃)) a b at x
        of_values t (found ms r p) g = unfold and_then in field-agrees (enumeration n t ms) r p n false a b at v.next x (enumeration-field n t ms) (unfold PassesTo and_then in g) v.agrees
        of_values t bad g = unfold and_then Agrees in tt

        of-names : (t : Datatype) (y : Found (List (List ℕ × ℕ))) → PassesTo (and_then y (λ ns r₂ p₂. and_then (enum_values_at pool ns r₂ p₂) (λ ms r₃ p₃. found (enumeration n t ms) r₃ p₃))) v.next
            → Agrees (and_then y (λ ns r₂ p₂. and_then (enum_values_at pool ns r₂ p₂) (λ ms r₃ p₃. found (enumeration n t ms) r₃ p₃))) a b at x
        of-names t (found ns r p) g = unfold and_then in of_values t (enum_values_at pool ns r p) (unfold and_then in g)
        of-names t bad g = unfold and_then Agrees in tt

        of_types : (y : Found Datatype)
            → PassesTo (and_then y (λ t r₁ p₁. and_then (enum_names_at table pool k r₁ p₁) (λ ns r₂ p₂. and_then (enum_values_at pool ns r₂ p₂) (λ ms r₃ p₃. found (enumeration n t ms) r₃ p₃)))) v.next
            → Agrees (and_then y (λ t r₁ p₁. and_then (enum_names_at table pool k r₁ p₁) (λ ns r₂ p₂. and_then (enum_values_at pool ns r₂ p₂) (λ ms r₃ p₃. found (enumeration n t ms) r₃ p₃)))) a b at x
        of_types (found t r p) g = unfold and_then in of-names t (enum_names_at table pool k r p) (unfold and_then in g)
        of_types bad g = unfold and_then Agrees in tt

        of-base : (p : ℕ) → PassesTo (from_entry (type_at (32 - depth) table pool) table pool row p (Some (Enumeration n k))) v.next
            → Agrees (from_entry (type_at (32 - depth) table pool) table pool row p (Some (Enumeration n k))) a b at x
        of-base p g = of_types (type_at (32 - depth) table pool (suc row) p) g

    pub type-array : (x : Agreed) {k : ℕ} → e ≡ Array k → AgreesArray (32 - depth) table pool row k a b at x → AgreesAt (33 - depth) table pool row a b at x
    type-array x h v = by_row x (i ∙ ap Some h) (λ p q. v.agrees p q)

    pub type-compound : (x : Agreed) {n k : ℕ} → e ≡ Compound n k → AgreesMembers (32 - depth) table pool k (row + 1) a b at x → AgreesAt (33 - depth) table pool row a b at x
    unfolding from_entry
    type-compound x {n = n} {k = k} h v = by_row x (i ∙ ap Some h) (λ p q. go (members_at (type_at (32 - depth) table pool) table pool k (suc row) p) (rw (add-one row) at (v.agrees p)))
      where
        go : (y : Found Members) → AgreesIn y a b at x → Agrees (and_then y (λ ms r' p'. found (compound n ms) r' p')) a b at x
        go (found ms r p) w =
            unfold and_then Agrees AgreesIn fields_of type_size_of in
            λ d l. w n (unfold first_zero outside heap_held in record { sized = (or_else_none _ _ d.sized).1; inside = d.inside; plain = d.plain }) l
        go bad w = unfold and_then Agrees in tt

-- ---- an array, by its base

module _ (table pool : List ℕ) (depth row k : ℕ) where
  -- where no level is left there is no base
  pub array-deep : (a b : List ℕ) (at : ℕ) (x : Agreed) → 32 ≤ depth → AgreesArray (32 - depth) table pool row k a b at x
  array-deep a b at x h =
      let j : 32 - depth ≡ 0 = omega arith in
      record { agrees = λ p q. rw j (unfold from_entry type_at and_then Agrees in tt) }

  module _ {y : Option Base} (g : BaseIn table pool row k (32 - depth) y) where
    pub array-lost : (a b : List ℕ) (at : ℕ) (x : Agreed) → y ≡ None → AgreesArray (32 - depth) table pool row k a b at x
    unfolding BaseIn
    array-lost a b at x u = rw u at g a b at x

    module _ {v : Base} (u : y ≡ Some v) where
      base-is : BaseIs table pool row k (32 - depth) v
      unfolding BaseIn
      base-is = rw u at g

      pub array-of-field : (a b : List ℕ) (at next : ℕ) (x : Agreed) {c : Bool} {o : Option Entry} (i : Entry) → RowSays table (row + 1) o → o ≡ Some i → c ≡ is_field_of i → c ≡ true → PassesType (32 - depth) table (row + 1) next
          → AgreesFields (is_string_of i) v a b at next x → AgreesArray (32 - depth) table pool row k a b at x
      array-of-field a b at next x i n s f w q z = base-is.fields i (rw s at n) (sym f ∙ w) a b at next x q z

      -- where the base's row is of no type there is no base
      pub array-unknown : (a b : List ℕ) (at : ℕ) (x : Agreed) {o : Option Entry} → RowSays table (row + 1) o → o ≡ None → AgreesArray (32 - depth) table pool row k a b at x
      array-unknown a b at x says e = base-is.each a b at x (record { agrees = λ p. rw (untyped table pool (row + 1) (32 - depth) says e p) (unfold AgreesEach in tt) })

      pub array-entries : (a b : List ℕ) (at : ℕ) (x : Agreed) {path : Path} (inner : Path) → path.depth ≡ depth → Entered path (row + 1) inner → depth < 32
          → AgreesEntries (33 - inner.depth) table pool (top_of inner) v.stride v.count a b at x → AgreesArray (32 - depth) table pool row k a b at x
      array-entries a b at x inner e h d z =
          let i = h.deeper in
          let j : 33 - inner.depth ≡ 32 - depth = omega arith in
          base-is.each a b at x (rw (j, h.top) at z)

-- ---- one level further down

pub says-entered : {table : List ℕ} {row : ℕ} {path : Path} {o : Option Entry} {e : Entry} (inner : Path) → Entered path row inner → RowSays table row o → o ≡ Some e → RowSays table (top_of inner) (Some e)
says-entered inner h s i = rw h.top (rw i at s)

module _ (table pool : List ℕ) (depth row : ℕ) (a b : List ℕ) (at : ℕ) (x : Agreed) where
  module _ {o : Option Entry} {e : Entry} (d : depth < 32) (says : RowSays table row o) (i : o ≡ Some e) where
    pub member-leaf : {k n l y : ℕ} → e ≡ Leaf k n l y → AgreesField n (nul_terminated_of k y) a b at (row + 1) x → AgreesAt (32 - depth) table pool row a b at x
    member-leaf h v =
        let j : 33 - (depth + 1) ≡ 32 - depth = omega arith in
        rw j at (type-leaf table pool (depth + 1) row a b at (omega arith) says i x h v)

    pub member-enumeration : {n k : ℕ} → e ≡ Enumeration n k → AgreesEnumeration (32 - depth) table row n a b at x → AgreesAt (32 - depth) table pool row a b at x
    member-enumeration h v =
        let j : 33 - (depth + 1) ≡ 32 - depth = omega arith in
        rw j at (type-enumeration table pool (depth + 1) row a b at (omega arith) says i x h (rw j v))

  pub member_unknown : {o : Option Entry} → RowSays table row o → o ≡ None → AgreesAt (32 - depth) table pool row a b at x
  member_unknown says h = record { agrees = λ p. rw (untyped table pool row (32 - depth) says h p) (unfold Agrees in tt) }

  pub member-entered : {path : Path} (inner : Path) → path.depth ≡ depth → depth < 32 → Entered path row inner → AgreesAt (33 - inner.depth) table pool (top_of inner) a b at x
      → AgreesAt (32 - depth) table pool row a b at x
  member-entered inner e d h g =
      let i = h.deeper in
      let j : 33 - inner.depth ≡ 32 - depth = omega arith in
      rw (j, h.top) at g
