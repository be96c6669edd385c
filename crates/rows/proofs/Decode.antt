-- The walk of a table by its rows' entries: it is `type_at`. What is known of a row lies in the table and the pool.
use Prim.Native.Nat.{ℕ, zero, suc, ◌+◌, ◌*◌, ◌<◌, ◌≤◌, max}
use mathlib.Core.Path.{◌≡◌, refl, sym, ap, ◌∙◌}
use mathlib.Core.Bool.{Bool, true, false, cond, ◌&&◌, and-false}
use mathlib.Core.List.{List, [], ◌∷◌}
use native.Mathlib.Omega.{arith}
use native.Mathlib.Nat.{add-zero}
use lib.ListN.{length, get_or, take, drop, length-take, length-drop}
use lib.Dec.{leb}
use mir.Syntax.{w64}
use mir.Val.{Fits}
use borrow.Author.Tests.{leb-true}
use Rattle.format.specs.Datatype.{leaf_class, leaf_pool, Datatype, member}
use Rattle.format.specs.Table.{word_at, row_is_of, row, columns_of, leaf_row, compound_row, enumeration_row, variable_length_row, array_row, member_row, enum_member_row, leaf_known, tag_at, leaf_of, LeafKind, Found, found, bad, Walk, and_then, isFixedPoint, isFloatingPoint, isTime, is_string_of, isBitField, isOpaque, isReference, Kind, is_leaf, isCompound, isEnumeration, isVariableLength, isArray, isUnknown, kind_of, members_at, enum_names_at, type_at}
use Rattle.format.proofs.Booleans.{and_both}
use Rattle.format.proofs.Lists.{length_part}
use Rattle.format.proofs.Rows.{length-row, length-leaf_row, length-member_row, length-enum_member_row}
use Rattle.format.proofs.TableSteps.{row_is-fits, then-piece, type_at_unknown, type_at_leaf, type_at_compound, type_at_enumeration, type_at_variable_length, type_at_array, members_at-step, enumNamesAt-step}
use Rattle.std.specs.Prelude.{Option, Some}
use Rattle.std.specs.Bool.{then_some}
use Rattle.rows.specs.Entries.{leaf_at, tag_inside, leaf_entry, entry_of, entry_at, member_in, member_at_of, enum_member_at_of, PieceInside, EntryInside, MemberInside, leaf_kind_of, leaf_type, from_entry, from_member, from_enum_member}
use Rattle.rows.specs.declared.Entry.{Entry}
use Rattle.rows.specs.declared.Entry.TheVariants.{Leaf, Array}
use Rattle.rows.specs.declared.Member.{Member}

-- all that a leaf's entry opens to, by its row's kind
unfoldable pub leaf-entry : Unit {0}
unfolding entry_of tag_inside leaf_entry leaf_at leaf_of leaf_class leaf_pool leaf_known leaf_row columns_of kind_of
leaf-entry = tt

module _ (table pool : List ℕ) (r p : ℕ) where
  -- the entry of a row whose kind is known
  pub entry-kind : {k : ℕ} → get_or table (r * 16) 0 ≡ k → entry_at table pool r p ≡ entry_of table pool r p (kind_of k)
  unfolding entry_at
  entry-kind e = rw (add-zero, e)

  -- an opaque's entry, by the length of its tag in its row
  pub opaque_picked : entry_of table pool r p (is_leaf isOpaque)
      ≡ then_some (row_is_of table r (row 6 ((1, word_at table r 1) ∷ (2, p) ∷ (3, word_at table r 3) ∷ [])) && leb (p + word_at table r 3) (length pool)) (Leaf 5 (word_at table r 1) (word_at table r 3) (word_at table r 5))
  unfolding leaf-entry
  opaque_picked = go _ refl
    where
      go : (b : Bool) → leb (p + word_at table r 3) (length pool) ≡ b
          → then_some (b && (row_is_of table r (row 6 ((1, word_at table r 1) ∷ (2, p) ∷ (3, length (take (word_at table r 3) (drop p pool))) ∷ [])) && true)) (Leaf 5 (word_at table r 1) (length (take (word_at table r 3) (drop p pool))) (word_at table r 5))
          ≡ then_some (row_is_of table r (row 6 ((1, word_at table r 1) ∷ (2, p) ∷ (3, word_at table r 3) ∷ [])) && b) (Leaf 5 (word_at table r 1) (word_at table r 3) (word_at table r 5))
      go true h = rw (length_part pool p (word_at table r 3) (leb-true (p + word_at table r 3) (length pool) h))
      go false h = rw and-false refl

  module _ (rd : Walk Datatype) where
    from-pick : (b : Bool) (e : Entry) {x : Found Datatype} → from_entry rd table pool r p (Some e) ≡ x → cond b x bad ≡ from_entry rd table pool r p (then_some b e)
    unfolding from_entry
    from-pick true e h = sym h
    from-pick false e h = refl

    from-leaf : (b : Bool) (c n x : ℕ) → cond b (found (leaf_type table pool r p c) (suc r) p) bad ≡ from_entry rd table pool r p (then_some b (Leaf c n 0 x))
    unfolding from_entry
    from-leaf b c n x = from-pick b (Leaf c n 0 x) (rw add-zero)

    from-tag : (b c : Bool) → leb (p + word_at table r 3) (length pool) ≡ b
        → cond b (cond c (found (leaf_type table pool r p 5) (suc r) (p + word_at table r 3)) bad) bad ≡ from_entry rd table pool r p (then_some (b && c) (leaf_entry table r (leaf_at table pool r p isOpaque)))
    unfolding from_entry leaf_entry leaf_at leaf_of leaf_class leaf_pool
    from-tag true c h =
        from-pick c (leaf_entry table r (leaf_at table pool r p isOpaque)) (ap (λ (n : ℕ). found (leaf_type table pool r p 5) (suc r) (p + n)) (length_part pool p (word_at table r 3) (leb-true _ _ h)))
    from-tag false c h = refl

-- by the kind of the row
module _ (k : ℕ) (table pool : List ℕ) (r p : ℕ) where
  by_kind : (w : ℕ) → get_or table (r * 16) 0 ≡ w → type_at (suc k) table pool r p ≡ from_entry (type_at k table pool) table pool r p (entry_of table pool r p (kind_of w))
  unfolding entry_of tag_inside leaf_entry leaf_at from_entry leaf_type leaf_kind_of kind_of and_then tag_at leaf_of leaf_class leaf_pool
  by_kind zero e = type_at_unknown table pool k r p (ap kind_of e)
  by_kind (suc zero) e = type_at_leaf table pool k r p isFixedPoint (ap kind_of e) ∙ from-leaf table pool r p (type_at k table pool) _ _ _ _
  by_kind (suc (suc zero)) e = type_at_leaf table pool k r p isFloatingPoint (ap kind_of e) ∙ from-leaf table pool r p (type_at k table pool) _ _ _ _
  by_kind (suc (suc (suc zero))) e = type_at_leaf table pool k r p isTime (ap kind_of e) ∙ from-leaf table pool r p (type_at k table pool) _ _ _ _
  by_kind (suc (suc (suc (suc zero)))) e = type_at_leaf table pool k r p is_string_of (ap kind_of e) ∙ from-leaf table pool r p (type_at k table pool) _ _ _ _
  by_kind (suc (suc (suc (suc (suc zero))))) e = type_at_leaf table pool k r p isBitField (ap kind_of e) ∙ from-leaf table pool r p (type_at k table pool) _ _ _ _
  by_kind (suc (suc (suc (suc (suc (suc zero)))))) e = type_at_leaf table pool k r p isOpaque (ap kind_of e) ∙ rw then-piece (from-tag table pool r p (type_at k table pool) _ _ refl)
  by_kind (suc (suc (suc (suc (suc (suc (suc zero))))))) e = type_at_compound table pool k r p e ∙ from-pick table pool r p (type_at k table pool) _ _ refl
  by_kind (suc (suc (suc (suc (suc (suc (suc (suc zero)))))))) e = type_at_leaf table pool k r p isReference (ap kind_of e) ∙ from-leaf table pool r p (type_at k table pool) _ _ _ _
  by_kind (suc (suc (suc (suc (suc (suc (suc (suc (suc zero))))))))) e = type_at_enumeration table pool k r p e ∙ from-pick table pool r p (type_at k table pool) _ _ refl
  by_kind (suc (suc (suc (suc (suc (suc (suc (suc (suc (suc zero)))))))))) e = type_at_variable_length table pool k r p e ∙ from-pick table pool r p (type_at k table pool) _ _ refl
  by_kind (suc (suc (suc (suc (suc (suc (suc (suc (suc (suc (suc zero))))))))))) e = type_at_array table pool k r p e ∙ from-pick table pool r p (type_at k table pool) _ _ refl
  by_kind (suc (suc (suc (suc (suc (suc (suc (suc (suc (suc (suc (suc w)))))))))))) e = type_at_unknown table pool k r p (ap kind_of e)

pub type_at_entry : (k : ℕ) (table pool : List ℕ) (r p : ℕ)
    → type_at (suc k) table pool r p ≡ from_entry (type_at k table pool) table pool r p (entry_at table pool r p)
type_at_entry k table pool r p = by_kind k table pool r p (get_or table (r * 16) 0) refl ∙ rw (entry-kind table pool r p refl)

module _ (table pool : List ℕ) (n r p : ℕ) where
  pub members_at-entry : (rd : Walk Datatype) → members_at rd table pool (suc n) r p ≡ from_member rd (members_at rd table pool n) pool r p (member_at_of table pool r p)
  unfolding member_at_of
  members_at-entry rd = members_at-step table pool n r p rd ∙ go _
    where
      go : (b : Bool)
          → cond b (and_then (rd (suc r) (p + word_at table r 3)) (λ t r₁ p₁. and_then (members_at rd table pool n r₁ p₁) (λ ms r₂ p₂. found (member (take (word_at table r 3) (drop p pool)) (word_at table r 1) t ms) r₂ p₂))) bad
          ≡ from_member rd (members_at rd table pool n) pool r p (then_some b (member_in table r 1))
      go true = unfold from_member member_in in refl
      go false = unfold from_member in refl

  pub enum_names_at-entry : enum_names_at table pool (suc n) r p ≡ from_enum_member (enum_names_at table pool n) pool r p (enum_member_at_of table pool r p)
  unfolding enum_member_at_of
  enum_names_at-entry = enumNamesAt-step table pool n r p ∙ go _
    where
      go : (b : Bool)
          → cond b (and_then (enum_names_at table pool n (suc r) (p + word_at table r 3)) (λ ns r' p'. found ((take (word_at table r 3) (drop p pool), word_at table r 4) ∷ ns) r' p')) bad
          ≡ from_enum_member (enum_names_at table pool n) pool r p (then_some b (member_in table r 4))
      go true = unfold from_enum_member member_in in refl
      go false = unfold from_enum_member in refl

-- what is known of a row lies in the table and in the pool
module _ (table pool : List ℕ) (r p : ℕ) where
  -- a tag lies behind its place
  tag-behind : (k : LeafKind) → p + length (leaf_pool (leaf_at table pool r p k)) ≤ max (length pool) p
  unfolding leaf_at leaf_of leaf_pool
  tag-behind isFixedPoint = omega arith
  tag-behind isFloatingPoint = omega arith
  tag-behind isTime = omega arith
  tag-behind is_string_of = omega arith
  tag-behind isBitField = omega arith
  tag-behind isOpaque = omega (arith, length-take (word_at table r 3) (drop p pool), length-drop p pool)
  tag-behind isReference = omega arith

  known : (v : List ℕ) (n : ℕ) → length v ≡ 16 → (row_is_of table r v && leb (p + n) (length pool)) ≡ true → (r * 16 + 16 ≤ length table) × (p + n ≤ length pool)
  known v n l h =
      let e = and_both (row_is_of table r v) (leb (p + n) (length pool)) h in
      (row_is-fits table r v l e.0, leb-true (p + n) (length pool) e.1)

  inside-pick : (b : Bool) (e : Entry) → (b ≡ true → EntryInside (Some e) (length table) (length pool) r p) → EntryInside (then_some b e) (length table) (length pool) r p
  unfolding EntryInside
  inside-pick true e h = h refl
  inside-pick false e h = tt

  inside-kind : (k : Kind) → EntryInside (entry_of table pool r p k) (length table) (length pool) r p
  unfolding entry_of leaf_entry EntryInside PieceInside compound_row enumeration_row variable_length_row array_row
  inside-kind (is_leaf k) =
      inside-pick _ _ (λ h. (row_is-fits table r _ (length-leaf_row p (word_at table r 1) (leaf_at table pool r p k)) (and_both _ _ (and_both (tag_inside table pool r p k) _ h).1).0, tag-behind k))
  inside-kind isCompound = inside-pick _ _ (λ h. (row_is-fits table r _ (length-row _ _) h, tt))
  inside-kind isEnumeration = inside-pick _ _ (λ h. (row_is-fits table r _ (length-row _ _) h, tt))
  inside-kind isVariableLength = inside-pick _ _ (λ h. (row_is-fits table r _ (length-row _ _) (and_both _ _ h).0, tt))
  inside-kind isArray = inside-pick _ _ (λ h. known (array_row p (word_at table r 3)) (word_at table r 3 * 4) (length-row _ _) h)
  inside-kind isUnknown = tt

  pub entry-inside : EntryInside (entry_at table pool r p) (length table) (length pool) r p
  unfolding entry_at
  entry-inside = inside-kind (kind_of (word_at table r 0))

  pub member-inside : MemberInside (member_at_of table pool r p) (length table) (length pool) r p
  unfolding member_at_of
  member-inside = go _ refl
    where
      go : (b : Bool) → (row_is_of table r (member_row p (word_at table r 1) (word_at table r 3)) && leb (p + word_at table r 3) (length pool)) ≡ b
          → MemberInside (then_some b (member_in table r 1)) (length table) (length pool) r p
      go true h = unfold MemberInside member_in in known (member_row p (word_at table r 1) (word_at table r 3)) (word_at table r 3) (length-member_row p (word_at table r 1) (word_at table r 3)) h
      go false h = unfold MemberInside in tt

  pub enum_member_inside : MemberInside (enum_member_at_of table pool r p) (length table) (length pool) r p
  unfolding enum_member_at_of
  enum_member_inside = go _ refl
    where
      go : (b : Bool) → (row_is_of table r (enum_member_row p (word_at table r 3) (word_at table r 4)) && leb (p + word_at table r 3) (length pool)) ≡ b
          → MemberInside (then_some b (member_in table r 4)) (length table) (length pool) r p
      go true h = unfold MemberInside member_in in known (enum_member_row p (word_at table r 3) (word_at table r 4)) (word_at table r 3) (length-enum_member_row p (word_at table r 3) (word_at table r 4)) h
      go false h = unfold MemberInside in tt

-- what a caller knows of a row that it has taken apart
module _ {o : Option Entry} {e : Entry} (w b r p : ℕ) (h : EntryInside o w b r p) (i : o ≡ Some e) where
  pub row-inside : r * 16 + 16 ≤ w
  unfolding EntryInside
  row-inside = (rw i at h).0

  piece-inside : PieceInside e b p
  unfolding EntryInside
  piece-inside = (rw i at h).1

  pub leaf-inside : {c n l x : ℕ} → e ≡ Leaf c n l x → (r * 16 + 16 ≤ w) × (p + l ≤ max b p)
  unfolding PieceInside
  leaf-inside j = (row-inside, rw j at piece-inside)

  pub array-inside : {k : ℕ} → e ≡ Array k → (r * 16 + 16 ≤ w) × (p + k * 4 ≤ b)
  unfolding PieceInside
  array-inside j = (row-inside, rw j at piece-inside)

-- The same in the form of a need: the number of the next row and the place behind a piece do not wrap, a row lies in the table and a piece in
-- the pool.
module _ {o : Option Entry} {e : Entry} (w b r p : ℕ) (h : EntryInside o w b r p) (i : o ≡ Some e) where
  pub row-next : w < 18446744073709551616 → Fits w64 (r + 1)
  row-next k = let j = row-inside w b r p h i in record { fits = omega arith }

  pub leaf-behind : {c n l x : ℕ} → e ≡ Leaf c n l x → b < 18446744073709551616 → p < 18446744073709551616 → Fits w64 (p + l)
  leaf-behind f k m = let j = leaf-inside w b r p h i f in record { fits = omega arith }

  pub array_behind : {k : ℕ} → e ≡ Array k → b < 18446744073709551616 → Fits w64 (p + k * 4)
  array_behind f k = let j = array-inside w b r p h i f in record { fits = omega arith }

  pub array-piece : {k : ℕ} → e ≡ Array k → p + k * 4 ≤ b
  array-piece f = (array-inside w b r p h i f).1

module _ {o : Option Member} {m : Member} (w b r p : ℕ) (i : o ≡ Some m) (h : MemberInside o w b r p) where
  pub named-inside : (r * 16 + 16 ≤ w) × (p + m.name ≤ b)
  unfolding MemberInside
  named-inside = rw i at h

  pub named-next : w < 18446744073709551616 → Fits w64 (r + 1)
  named-next k = let j = named-inside in record { fits = omega arith }

  pub named-behind : b < 18446744073709551616 → Fits w64 (p + m.name)
  named-behind k = let j = named-inside in record { fits = omega arith }

  pub named-piece : p + m.name ≤ b
  named-piece = named-inside.1
