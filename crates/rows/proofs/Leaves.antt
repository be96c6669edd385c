-- What a leaf's row says of its type.
use Prim.Native.Nat.{ℕ}
use mathlib.Core.Path.{◌≡◌, refl, sym, ap, ◌∙◌}
use mathlib.Core.Bool.{Bool, true, false, ◌&&◌}
use mathlib.Core.List.{List}
use lib.ListN.{length}
use lib.Dec.{eqb}
use Rattle.format.specs.Datatype.{Leaf as LeafType, leaf_class, leaf_pool, refers, Datatype, leaf}
use Rattle.format.specs.Image.{leaf_ends}
use Rattle.format.specs.Table.{word_at, LeafKind, isFixedPoint, isFloatingPoint, isTime, is_string_of, isBitField, isOpaque, isReference, Kind, is_leaf, isCompound, isEnumeration, isVariableLength, isArray, isUnknown, leaf_of, kind_of}
use Rattle.std.specs.Prelude.{Option, Some, None}
use Rattle.std.specs.Bool.{then_some}
use Rattle.rows.specs.Entries.{leaf_at, leaf_entry, entry_of, entry_at, leaf_kind_of, leaf_type}
use Rattle.rows.specs.declared.Entry.{Entry}
use Rattle.rows.specs.declared.Entry.TheVariants.{Leaf, Compound, Enumeration, VariableLength, Array}

-- a leaf of a class, a size, a tag's length and a code
pub record LeafTells (c n l x : ℕ) (t : Datatype) : Type 0 where
  pub of : LeafType
  pub is : t ≡ leaf n of
  pub class : leaf_class of ≡ c
  pub tag : length (leaf_pool of) ≡ l
  pub refers_by : (test : ℕ → Bool) → refers test of ≡ (eqb c 7 && test x)
  pub ends_by : leaf_ends of ≡ (eqb c 3 && eqb x 0)

module _ (table pool : List ℕ) (r p : ℕ) where
  unfoldable OfEntry : Option Entry → Type 0
  OfEntry (Some (Leaf c n l x)) = LeafTells c n l x (leaf_type table pool r p c)
  OfEntry (Some (Compound n k)) = Unit {0}
  OfEntry (Some (Enumeration n k)) = Unit {0}
  OfEntry (Some (VariableLength i a k)) = Unit {0}
  OfEntry (Some (Array k)) = Unit {0}
  OfEntry None = Unit {0}

  of-pick : (b : Bool) (e : Entry) → (b ≡ true → OfEntry (Some e)) → OfEntry (then_some b e)
  unfolding OfEntry
  of-pick true e h = h refl
  of-pick false e h = tt

  leaf_tells : (k : LeafKind) → OfEntry (Some (leaf_entry table r (leaf_at table pool r p k)))
  unfolding OfEntry leaf_entry leaf_at leaf_type leaf_kind_of leaf_of leaf_class leaf_pool refers leaf_ends
  leaf_tells isFixedPoint = record { of = _; is = refl; class = refl; tag = refl; refers_by = λ f. refl; ends_by = refl }
  leaf_tells isFloatingPoint = record { of = _; is = refl; class = refl; tag = refl; refers_by = λ f. refl; ends_by = refl }
  leaf_tells isTime = record { of = _; is = refl; class = refl; tag = refl; refers_by = λ f. refl; ends_by = refl }
  leaf_tells is_string_of = record { of = _; is = refl; class = refl; tag = refl; refers_by = λ f. refl; ends_by = refl }
  leaf_tells isBitField = record { of = _; is = refl; class = refl; tag = refl; refers_by = λ f. refl; ends_by = refl }
  leaf_tells isOpaque = record { of = _; is = refl; class = refl; tag = refl; refers_by = λ f. refl; ends_by = refl }
  leaf_tells isReference = record { of = _; is = refl; class = refl; tag = refl; refers_by = λ f. refl; ends_by = refl }

  of-kind : (k : Kind) → OfEntry (entry_of table pool r p k)
  unfolding entry_of OfEntry
  of-kind (is_leaf k) = of-pick _ _ (λ b. leaf_tells k)
  of-kind isCompound = of-pick _ _ (λ b. tt)
  of-kind isEnumeration = of-pick _ _ (λ b. tt)
  of-kind isVariableLength = of-pick _ _ (λ b. tt)
  of-kind isArray = of-pick _ _ (λ b. tt)
  of-kind isUnknown = tt

  pub leaf_law : {c n l x : ℕ} {o : Option Entry} {e : Entry} → o ≡ entry_at table pool r p → o ≡ Some e → e ≡ Leaf c n l x → LeafTells c n l x (leaf_type table pool r p c)
  unfolding entry_at OfEntry
  leaf_law {c = c} {n = n} {l = l} {x = x} q i e =
      let f : entry_at table pool r p ≡ Some (Leaf c n l x) = sym q ∙ i ∙ ap Some e in
      rw f at (of-kind (kind_of (word_at table r 0)))
