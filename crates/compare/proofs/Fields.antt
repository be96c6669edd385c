-- Types that are one field: a leaf's row, an enumeration's.
use Rattle.std.specs.Prelude.{Option, Some}
use Prim.Native.Nat.{ℕ, zero, suc, ◌+◌}
use mathlib.Core.Path.{◌≡◌, refl, sym, ap, ◌∙◌}
use mathlib.Core.Bool.{Bool, true, false, false≢true}
use mathlib.Core.List.{List, [], ◌∷◌}
use native.Mathlib.Omega.{arith}
use lib.Dec.{eqb}
use borrow.Author.Tests.{ne_eqb}
use Rattle.format.specs.Datatype.{Datatype, enumeration, EnumMember, type_size_of}
use Rattle.format.specs.Image.{ends, field_of, move_field, move_fields, fields_of}
use Rattle.format.specs.Table.{Found, found, bad, Walk, and_then, type_at, enum_names_at, enum_values_at}
use Rattle.rows.specs.Entries.{entry_at, leaf_type, from_entry, IfKnown}
use Rattle.rows.specs.declared.Entry.{Entry}
use Rattle.rows.specs.declared.Entry.TheVariants.{Leaf, Compound, Enumeration, VariableLength, Array}
use Rattle.rows.proofs.Known.{claim_of-type}
use Rattle.rows.proofs.Leaves.{leaf_law}
use Rattle.compare.specs.Agreeing.{Agreed, nul_terminated_of, field_at, is_field_of, is_string_of, Agrees, AgreesField}

-- ---- the rows that are a field's

module _ {e : Entry} where
  pub leaf-is : {c n l y : ℕ} → e ≡ Leaf c n l y → true ≡ is_field_of e
  unfolding is_field_of
  leaf-is h = ap is_field_of (sym h)

  pub enumeration-is : {n k : ℕ} → e ≡ Enumeration n k → true ≡ is_field_of e
  unfolding is_field_of
  enumeration-is h = ap is_field_of (sym h)

-- any other row's type is none
pub no_field : (e : Entry) → ((c n l y : ℕ) → e ≡ Leaf c n l y → ⊥) → ((n k : ℕ) → e ≡ Enumeration n k → ⊥) → false ≡ is_field_of e
unfolding is_field_of
no_field (Leaf c n l y) h g = absurd (h c n l y refl)
no_field (Enumeration n k) h g = absurd (g n k refl)
no_field (Compound n k) h g = refl
no_field (VariableLength i a c) h g = refl
no_field (Array k) h g = refl

pub other_class : (c x : ℕ) → (c ≡ 3 → ⊥) → eqb c 3 ≡ nul_terminated_of c x
unfolding nul_terminated_of
other_class c x n = rw (ne_eqb c 3 n)

pub string_code : (c x : ℕ) → c ≡ 3 → eqb x 0 ≡ nul_terminated_of c x
unfolding nul_terminated_of
string_code c x e = rw e

-- ---- one field

-- the type is one field of a size
pub record IsField (t : Datatype) (n : ℕ) (e : Bool) : Type 0 where
  pub size : type_size_of t ≡ n
  pub fields : fields_of t ≡ field_at 0 n e ∷ []

pub field-moved : (at n : ℕ) (e : Bool) → move_fields at (field_at 0 n e ∷ []) ≡ field_at at n e ∷ []
unfolding move_fields move_field
field-moved at n e = let q : at + 0 ≡ at = omega arith in rw q

pub field-agrees : (t : Datatype) (r p n : ℕ) (e : Bool) (a b : List ℕ) (at next : ℕ) (x : Agreed) → IsField t n e → next ≡ r
    → AgreesField n e a b at next x → Agrees (found t r p) a b at x
unfolding Agrees AgreesField
field-agrees t r p n e a b at next x w q h d l = rw (← q, w.fields, field-moved at n e) (h (omega (arith, w.size)))

module _ (table pool : List ℕ) (r p : ℕ) where
  -- what a leaf's row says of its type
  pub leaf-field : {k n l x : ℕ} {o : Option Entry} {e : Entry} → o ≡ entry_at table pool r p → o ≡ Some e → e ≡ Leaf k n l x → IsField (leaf_type table pool r p k) n (nul_terminated_of k x)
  unfolding type_size_of fields_of field_of ends nul_terminated_of
  leaf-field q i e = let h = leaf_law table pool r p q i e in rw h.is (record { size = refl; fields = rw h.ends_by })

-- a type, where one is found, that is one field
unfoldable pub OneField : (e : Bool) → Found Datatype → Type 0
OneField e (found t r p) = IsField t (type_size_of t) e
OneField e bad = Unit {0}

one_field : (t : Datatype) (n : ℕ) (e : Bool) → IsField t n e → IsField t (type_size_of t) e
one_field t n e w = record { size = refl; fields = w.fields ∙ rw (← w.size) }

module _ (n : ℕ) (t : Datatype) where
  pub enumeration-field : (ms : List EnumMember) → IsField (enumeration n t ms) n false
  unfolding type_size_of fields_of field_of ends
  enumeration-field ms = record { size = refl; fields = refl }

  members-field : (x : Found (List EnumMember)) → OneField false (and_then x (λ ms r p. found (enumeration n t ms) r p))
  unfolding OneField and_then
  members-field (found ms r p) = one_field (enumeration n t ms) n false (enumeration-field ms)
  members-field bad = tt

  names-field : (pool : List ℕ) (x : Found (List (List ℕ × ℕ)))
      → OneField false (and_then x (λ ns r₂ p₂. and_then (enum_values_at pool ns r₂ p₂) (λ ms r₃ p₃. found (enumeration n t ms) r₃ p₃)))
  unfolding OneField and_then
  names-field pool (found ns r p) = members-field (enum_values_at pool ns r p)
  names-field pool bad = tt

module _ (rd : Walk Datatype) (table pool : List ℕ) (r p : ℕ) where
  entry-field : (e : Entry) → Some e ≡ entry_at table pool r p → is_field_of e ≡ true → OneField (is_string_of e) (from_entry rd table pool r p (Some e))
  unfolding from_entry is_field_of is_string_of OneField
  entry-field (Leaf c n l x) q h = one_field (leaf_type table pool r p c) n (nul_terminated_of c x) (leaf-field table pool r p q refl refl)
  entry-field (Enumeration n k) q h = go (rd (suc r) p)
    where
      go : (x : Found Datatype)
          → OneField false (and_then x (λ t r₁ p₁. and_then (enum_names_at table pool k r₁ p₁) (λ ns r₂ p₂. and_then (enum_values_at pool ns r₂ p₂) (λ ms r₃ p₃. found (enumeration n t ms) r₃ p₃))))
      go (found t r₁ p₁) = unfold and_then in names-field n t pool (enum_names_at table pool k r₁ p₁)
      go bad = unfold and_then OneField in tt
  entry-field (Compound n k) q h = absurd (false≢true h)
  entry-field (VariableLength i a c) q h = absurd (false≢true h)
  entry-field (Array k) q h = absurd (false≢true h)

pub type-field : (levels : ℕ) (table pool : List ℕ) (r p : ℕ) (e : Entry) → IfKnown (entry_at table pool r p) (Some e) → is_field_of e ≡ true → OneField (is_string_of e) (type_at levels table pool r p)
unfolding OneField type_at
type-field zero table pool r p e i h = tt
type-field (suc k) table pool r p e i h = claim_of-type table pool r p (OneField (is_string_of e)) tt k (Some e) i (λ is. entry-field (type_at k table pool) table pool r p e is h)
