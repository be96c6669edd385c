-- The answers of the calls that only ask for the check's survey.
use Prim.Native.Nat.{ℕ, suc, ◌-◌, ◌<◌, ◌≤◌}
use mathlib.Core.Path.{◌≡◌, refl, sym, ap, ◌∙◌}
use mathlib.Core.Bool.{Bool}
use mathlib.Core.List.{List}
use native.Mathlib.Omega.{arith}
use lib.ListN.{length, get_or, get_or-append}
use borrow.Author.Tests.{lt-ltb}
use Rattle.std.specs.Prelude.{Option, Some, None, Result, Ok, Err}
use Rattle.std.specs.Option.{ok_or}
use Rattle.refusal.specs.declared.Refusal.{Refusal}
use Rattle.refusal.specs.declared.Refusal.TheVariants.{BadTable, ZeroSize}
use Rattle.format.specs.Bytes.{padded}
use Rattle.format.specs.Datatype.{Datatype, leaf, compound, enumeration, variable_length, array, row_count, type_size_of, class_number}
use Rattle.format.specs.Outcome.{refuses, when_given, unless}
use Rattle.format.proofs.Outcomes.{answers-given, answers-refused}
use Rattle.format.specs.Sizes.{sizing, element_sizing, object_address_held, file_address_held, holds_object_address, holds_file_address}
use Rattle.format.specs.Table.{row, leaf_row, compound_row, enumeration_row, variable_length_row, array_row, rows, found, type_of}
use Rattle.format.proofs.Bytes.{all-bytes}
use Rattle.format.proofs.Rows.{leaf_class-low, length-rows}
use Rattle.format.proofs.Table.{type_of_sound}
use Rattle.table.specs.Survey.{Checks, SizedAs, HeldAs}
use Rattle.table.specs.declared.Survey.{Survey}
use Rattle.table.proofs.Surveys.{Says, Told, told}

-- the first word of a type's rows is its class + 1
rows-first : (p : ℕ) (t : Datatype) → get_or (rows p t) 0 0 ≡ suc (class_number t)
unfolding rows leaf_row compound_row enumeration_row variable_length_row array_row row class_number
rows-first p (leaf n x) = refl
rows-first p (compound n ms) = refl
rows-first p (enumeration n t ms) = refl
rows-first p (variable_length i a k t) = refl
rows-first p (array ds t) = refl

class-small : (t : Datatype) → class_number t ≤ 10
unfolding class_number
class-small (leaf n x) = omega (arith, leaf_class-low x)
class-small (compound n ms) = omega arith
class-small (enumeration n t ms) = omega arith
class-small (variable_length i a k t) = omega arith
class-small (array ds t) = omega arith

rows-some : (t : Datatype) → 0 < row_count t
unfolding row_count
rows-some (leaf n x) = omega arith
rows-some (compound n ms) = omega arith
rows-some (enumeration n t ms) = omega arith
rows-some (variable_length i a k t) = omega arith
rows-some (array ds t) = omega arith

-- `check(..).ok_or(BadTable)`: a survey, or no type is set out
module _ {A : Type 0} {r : Option A} {o : Result A Refusal} (w : o ≡ ok_or r BadTable) where
  pub ok-some : {s : A} → o ≡ Ok s → r ≡ Some s
  ok-some {s = s} i = go r (sym w ∙ i)
    where
      go : (r : Option A) → ok_or r BadTable ≡ Ok s → r ≡ Some s
      go (Some x) e = let f : x ≡ s = cc in rw f
      go None e = cc

  pub err-none : {e : Refusal} → o ≡ Err e → (r ≡ None) × (e ≡ BadTable)
  err-none {e = e} i = go r (sym w ∙ i)
    where
      go : (r : Option A) → ok_or r BadTable ≡ Err e → (r ≡ None) × (e ≡ BadTable)
      go (Some x) f = cc
      go None f = (refl, cc)

module _ (table pool : List ℕ) {r : Option Survey} (h : Checks table pool r) where
  says : {s : Survey} (g : r ≡ Some s) → Says s (h.good s g).type s.row s.place
  unfolding Told
  says {s = s} g = told (found (h.good s g).type s.row s.place) s refl (h.good s g).says

  size-is : {s : Survey} (g : r ≡ Some s) → type_size_of (h.good s g).type ≡ s.size
  size-is g = sym (ap (λ (v : Survey). v.size) (says g).is)

  -- what is refused for a bad table
  module _ {o : Result Survey Refusal} (w : o ≡ ok_or r BadTable) {e : Refusal} (i : o ≡ Err e) where
    pub bad-table : type_of table pool ≡ refuses BadTable
    bad-table = h.bad-table (err-none w i).0

    pub bad-answer : {A : Type 0} {a : Result A Refusal} {y : Refusal} → a ≡ Err y → y ≡ e → a ≡ Err BadTable
    bad-answer d f = d ∙ rw (f, (err-none w i).1)

    module _ {a : Result ℕ Refusal} {y : Refusal} (d : a ≡ Err y) (f : y ≡ e) where
      pub size-bad : SizedAs (sizing table pool) a
      unfolding sizing when_given
      size-bad = answers-refused _ _ _ BadTable _ (rw bad-table) (bad-answer d f)

      pub element_bad : SizedAs (element_sizing table pool) a
      unfolding element_sizing when_given
      element_bad = answers-refused _ _ _ BadTable _ (rw bad-table) (bad-answer d f)

    module _ {a : Result Bool Refusal} {y : Refusal} (d : a ≡ Err y) (f : y ≡ e) where
      pub object_bad : HeldAs (object_address_held table pool) a
      unfolding object_address_held when_given
      object_bad = answers-refused _ _ _ BadTable _ (rw bad-table) (bad-answer d f)

      pub file_bad : HeldAs (file_address_held table pool) a
      unfolding file_address_held when_given
      file_bad = answers-refused _ _ _ BadTable _ (rw bad-table) (bad-answer d f)

  module _ {s : Survey} (g : r ≡ Some s) where
    pub size-good : SizedAs (sizing table pool) (Ok s.size)
    unfolding sizing when_given
    size-good = answers-given _ _ _ s.size _ (rw ((h.good s g).is, size-is g)) refl

    pub object_good : HeldAs (object_address_held table pool) (Ok s.object)
    unfolding object_address_held when_given
    object_good =
        let f : holds_object_address (h.good s g).type ≡ s.object = sym (ap (λ (v : Survey). v.object) (says g).is) in
        answers-given _ _ _ s.object _ (rw ((h.good s g).is, f)) refl

    pub file_good : HeldAs (file_address_held table pool) (Ok s.file)
    unfolding file_address_held when_given
    file_good =
        let f : holds_file_address (h.good s g).type ≡ s.file = sym (ap (λ (v : Survey). v.file) (says g).is) in
        answers-given _ _ _ s.file _ (rw ((h.good s g).is, f)) refl

    pub element_good : (s.size ≡ 0 → ⊥) → SizedAs (element_sizing table pool) (Ok s.size)
    unfolding element_sizing when_given unless
    element_good e = answers-given _ _ _ s.size _ (rw ((h.good s g).is, size-is g, lt-ltb 0 s.size (omega (arith, e)))) refl

  -- the outermost row of a table that sets a type out
  pub record Outermost (t : Datatype) : Type 0 where
    pub there : 16 ≤ length table
    pub kind : get_or table 0 0 ≡ suc (class_number t)
    pub small : get_or table 0 0 ≤ 11

  outermost : {s : Survey} (g : r ≡ Some s) → ((i : ℕ) → get_or pool i 0 < 256) → Outermost (h.good s g).type
  outermost {s = s} g b =
      let t = (h.good s g).type in
      let o = type_of_sound table pool t (all-bytes pool b) (h.good s g).is in
      let l = length-rows t 0 in
      let m = rows-some t in
      let f : get_or table 0 0 ≡ suc (class_number t) = first t o.table_is (omega arith) in
      record { there = omega (arith, o.holds_rows); kind = f; small = omega (arith, class-small t) }
    where
      first : (t : Datatype) → table ≡ padded (length table) (rows 0 t) → 0 < length (rows 0 t) → get_or table 0 0 ≡ suc (class_number t)
      first t e n = unfold padded in ap (λ (l : List ℕ). get_or l 0 0) e ∙ get_or-append (rows 0 t) _ 0 0 n ∙ rows-first 0 t

  -- the same in the form of a need
  module _ {s : Survey} (g : r ≡ Some s) (b : (i : ℕ) → get_or pool i 0 < 256) where
    pub outermost-there : 0 < length table
    outermost-there = omega (arith, (outermost g b).there)

    pub outermost-some : 1 ≤ get_or table 0 0
    outermost-some = omega (arith, (outermost g b).kind)

    pub outermost-small : get_or table 0 0 ≤ 11
    outermost-small = (outermost g b).small

  pub element_zero : {s : Survey} {k : ℕ} → ((i : ℕ) → get_or pool i 0 < 256) → r ≡ Some s → s.size ≡ 0 → k ≡ get_or table 0 0 - 1 → SizedAs (element_sizing table pool) (Err (ZeroSize k))
  unfolding element_sizing when_given unless
  element_zero {s = s} {k = k} b g e j =
      let t = (h.good s g).type in
      let f : type_size_of t ≡ 0 = size-is g ∙ e in
      let o = outermost g b in
      let c : k ≡ class_number t = omega (arith, o.kind) in
      answers-refused _ _ _ (ZeroSize k) _ (rw ((h.good s g).is, f, c)) refl
