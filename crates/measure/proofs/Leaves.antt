-- A leaf's row: the tests that the code makes are those of `storable`, and its length is that of the message.
use Rattle.std.specs.Prelude.{Option, Some, None}
use Prim.Native.Nat.{ℕ, suc, ◌+◌, ◌<◌}
use mathlib.Core.Path.{◌≡◌, refl, sym, ap, ◌∙◌}
use mathlib.Core.Bool.{Bool, true, false, ◌&&◌, and-true, and_assoc}
use mathlib.Core.List.{List}
use native.Mathlib.Omega.{arith}
use lib.ListN.{length, take, drop}
use lib.Dec.{leb, ltb}
use borrow.Author.Tests.{lt-ltb, leb-true}
use Rattle.format.specs.Bytes.{padding_to8}
use Rattle.format.specs.Datatype.{float_numbers, leaf_class, leaf_pool, type_size_of}
use Rattle.format.specs.Message.{storable_leaf, leaf_message_length, storable, carried, message_length, all, fit}
use Rattle.format.specs.Table.{word_at, row_is_of, leaf_row, leaf_known, leaf_of, found, LeafKind, isFixedPoint, isFloatingPoint, isTime, is_string_of, isBitField, isOpaque, isReference, Kind, is_leaf, isCompound, isEnumeration, isVariableLength, isArray, isUnknown, kind_of}
use Rattle.format.proofs.Booleans.{and_both}
use Rattle.format.proofs.Lists.{length_part}
use Rattle.std.specs.Bool.{then_some}
use Rattle.rows.specs.Entries.{leaf_at, tag_inside, leaf_entry, entry_of, entry_at, leaf_kind_of, leaf_type}
use Rattle.rows.specs.Columns.{IsRow}
use Rattle.rows.proofs.Words.{same-word}
use Rattle.rows.specs.declared.Entry.{Entry}
use Rattle.rows.specs.declared.Entry.TheVariants.{Leaf, Compound, Enumeration, VariableLength, Array}
use Rattle.measure.specs.Measure.{most_length, measure_of, parts_fit_of, leaf_storable_of, leaf_length_of}

-- ---- the type of a leaf's row

-- what is measured of it, where its words are below 2 ^ 32
unfoldable LeafIs : (edition : ℕ) (table pool : List ℕ) (r p : ℕ) → Option Entry → Type 0
LeafIs e table pool r p (Some (Leaf k n l x)) =
    n < 4294967296
    → word_at table r 13 < 4294967296
    → measure_of e (found (leaf_type table pool r p k) (suc r) (p + l))
    ≡ Some (record { row = suc r; place = p + l; size = n; storable = leaf_storable_of table r k n l; carried = true; length = most_length (leaf_length_of k l) })
LeafIs e table pool r p (Some (Compound n k)) = Unit {0}
LeafIs e table pool r p (Some (Enumeration n k)) = Unit {0}
LeafIs e table pool r p (Some (VariableLength i a k)) = Unit {0}
LeafIs e table pool r p (Some (Array k)) = Unit {0}
LeafIs e table pool r p None = Unit {0}

module _ (e : ℕ) (table pool : List ℕ) (r p : ℕ) where
  -- the test of the words of a leaf's row
  abbrev row_is : LeafKind → Bool
  row_is k = row_is_of table r (leaf_row p (word_at table r 1) (leaf_at table pool r p k))

  codes : (a x y : Bool) → (a && (x && y)) ≡ true → (x ≡ true) × (y ≡ true)
  codes a x y h = and_both x y (and_both a (x && y) h).1

  is-pick : (b : Bool) (x : Entry) → (b ≡ true → LeafIs e table pool r p (Some x)) → LeafIs e table pool r p (then_some b x)
  unfolding LeafIs
  is-pick true x h = h refl
  is-pick false x h = tt

  is-kind : (k : Kind) → LeafIs e table pool r p (entry_of table pool r p k)
  unfolding entry_of tag_inside leaf_entry leaf_at leaf_known leaf_class leaf_pool LeafIs leaf_type measure_of type_size_of storable storable_leaf carried message_length leaf_message_length all fit leaf_kind_of leaf_of float_numbers leaf_storable_of parts_fit_of leaf_length_of
  is-kind (is_leaf isFixedPoint) =
      is-pick _ _ (λ h s w.
      let g = (codes (row_is isFixedPoint) (ltb (word_at table r 5) 3) (ltb (word_at table r 6) 2) h).1 in
      rw (lt-ltb (word_at table r 1) 4294967296 s, g) (simp and-true))
  is-kind (is_leaf isFloatingPoint) =
      is-pick _ _ (λ h s w.
      let g = (and_both (row_is isFloatingPoint) (ltb (word_at table r 5) 3) h).1 in
      rw (g, lt-ltb (word_at table r 1) 4294967296 s, lt-ltb (word_at table r 13) 4294967296 w) (simp (and-true, and_assoc)))
  is-kind (is_leaf isTime) = is-pick _ _ (λ h s w. rw (lt-ltb (word_at table r 1) 4294967296 s) (simp and-true))
  is-kind (is_leaf is_string_of) =
      is-pick _ _ (λ h s w.
      let g = codes (row_is is_string_of) (ltb (word_at table r 5) 3) (ltb (word_at table r 6) 2) h in
      rw (lt-ltb (word_at table r 1) 4294967296 s, g.0, g.1))
  is-kind (is_leaf isBitField) = is-pick _ _ (λ h s w. rw (lt-ltb (word_at table r 1) 4294967296 s) (simp and-true))
  is-kind (is_leaf isOpaque) =
      is-pick _ _ (λ h s w.
      let g : length (take (word_at table r 3) (drop p pool)) ≡ word_at table r 3 = length_part pool p (word_at table r 3) (leb-true (p + word_at table r 3) (length pool) (and_both (leb (p + word_at table r 3) (length pool)) (row_is isOpaque && true) h).0) in
      let f : 8 + (word_at table r 3 + padding_to8 (word_at table r 3)) ≡ 8 + word_at table r 3 + padding_to8 (word_at table r 3) = omega arith in
      rw (lt-ltb (word_at table r 1) 4294967296 s, g, f) (simp and-true))
  is-kind isCompound = is-pick _ _ (λ h. tt)
  is-kind (is_leaf isReference) =
      is-pick _ _ (λ h s w.
      let g = (and_both (row_is isReference) (ltb (word_at table r 5) 2) h).1 in
      rw (lt-ltb (word_at table r 1) 4294967296 s, g))
  is-kind isEnumeration = is-pick _ _ (λ h. tt)
  is-kind isVariableLength = is-pick _ _ (λ h. tt)
  is-kind isArray = is-pick _ _ (λ h. tt)
  is-kind isUnknown = tt

  pub leaf-is : {k n l x : ℕ} {o : Option Entry} {y : Entry} → o ≡ entry_at table pool r p → o ≡ Some y → y ≡ Leaf k n l x → n < 4294967296 → word_at table r 13 < 4294967296
      → measure_of e (found (leaf_type table pool r p k) (suc r) (p + l))
      ≡ Some (record { row = suc r; place = p + l; size = n; storable = leaf_storable_of table r k n l; carried = true; length = most_length (leaf_length_of k l) })
  unfolding entry_at LeafIs
  leaf-is {k = k} {n = n} {l = l} {x = x} q i h s w =
      let f : entry_at table pool r p ≡ Some (Leaf k n l x) = sym q ∙ i ∙ ap Some h in
      let g : LeafIs e table pool r p (Some (Leaf k n l x)) = rw f at (is-kind (kind_of (word_at table r 0))) in
      g s w

-- ---- by its words

pub same-storable : {table words : List ℕ} {r : ℕ} → IsRow table r words → (c n l : ℕ) → leaf_storable_of words 0 c n l ≡ leaf_storable_of table r c n l
unfolding leaf_storable_of parts_fit_of
same-storable s c n l =
    rw (same-word s 5 refl, same-word s 7 refl, same-word s 8 refl, same-word s 9 refl, same-word s 10 refl, same-word s 11 refl, same-word s 12 refl)
