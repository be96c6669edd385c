-- A row by its words: what is said of it as the first row of a table of its own is what is said of it where it stands.
use Prim.Native.Nat.{ℕ, zero, suc, ◌+◌, ◌*◌, ◌/◌, ◌<◌, ◌≤◌}
use mathlib.Core.Path.{◌≡◌, refl, sym, ap, ◌∙◌}
use mathlib.Core.Bool.{true}
use mathlib.Core.List.{List}
use native.Mathlib.Omega.{arith}
use lib.ListN.{length, get_or, take, drop, length-drop}
use lib.Seq.{length-take-le, take-take, drop-drop}
use lib.Dec.{ltb}
use borrow.Author.Tests.{ltb-true}
use Rattle.std.specs.Prelude.{Option, Some, None, MatchOption, slice_index_or}
use Rattle.std.specs.Borrow.{Bor}
use Rattle.std.specs.Simd.{first_chunks}
use Rattle.std.specs.Slice.{IsItemAt}
use Rattle.format.specs.Table.{word_at, words_at, row_is_of, same_words, column, leaf_of, LeafKind, isFixedPoint, isFloatingPoint, isTime, is_string_of, isBitField, isOpaque, isReference, Kind, is_leaf, isCompound, isEnumeration, isVariableLength, isArray, isUnknown, kind_of}
use Rattle.format.proofs.Rows.{column-at}
use Rattle.rows.proofs.Chunks.{chunk-at}
use Rattle.rows.specs.Columns.{IsRow}
use Rattle.rows.specs.Entries.{leaf_at, tag_inside, leaf_entry, entry_of, entry_at, member_in, member_at_of, enum_member_at_of, RowSays}
use Rattle.rows.specs.declared.Entry.{Entry}

-- ---- a table's rows as chunks of 16 words

row-chunk : (k i : ℕ) (xs : List ℕ) (d : List ℕ) → i < k → slice_index_or (first_chunks 16 k xs) i d ≡ take 16 (drop (i * 16) xs)
row-chunk k i xs d h = let e : i * 16 ≡ 16 * i = omega arith in rw e (chunk-at 16 k i xs d h)

pub row-found : (table : List ℕ) (r : ℕ) {cs : List (List ℕ)} (o : Option (Bor (List ℕ))) → cs ≡ first_chunks 16 (length table / 16) table → length cs ≡ length table / 16 → IsItemAt cs r o
    → MatchOption o (length table / 16 ≤ r) (λ w. IsRow table r w.now)
unfolding words_at
row-found table r {cs = cs} o e l i = go o i
  where
    go : (o : Option (Bor (List ℕ))) → IsItemAt cs r o → MatchOption o (length table / 16 ≤ r) (λ w. IsRow table r w.now)
    go None i = omega (arith, l, i.3)
    go (Some w) i = let h : r < length table / 16 = omega (arith, l, i.3.0) in record { fits = omega arith; words-are = rw e at (i.3.1 w.now) ∙ row-chunk (length table / 16) r table w.now h }

-- the words of a row that is known to be there
pub indexed : (table : List ℕ) (r : ℕ) {cs : List (List ℕ)} → cs ≡ first_chunks 16 (length table / 16) table → r * 16 + 16 ≤ length table → (d : List ℕ) → IsRow table r (slice_index_or cs r d)
unfolding words_at
indexed table r e h d = record { fits = h; words-are = rw e (row-chunk (length table / 16) r table d (omega arith)) }

-- the words that `row_words` answers
module _ (table : List ℕ) (r : ℕ) (o : Option (Bor (List ℕ))) (s : MatchOption o (length table / 16 ≤ r) (λ w. IsRow table r w.now)) where
  pub row-past : o ≡ None → length table / 16 ≤ r
  row-past e = rw e at s

  pub row-is : {w : Bor (List ℕ)} → o ≡ Some w → IsRow table r w.now
  row-is e = rw e at s

-- ---- what is said of the words

module _ {table words : List ℕ} {r : ℕ} (s : IsRow table r words) where
  row-long : length words ≡ 16
  unfolding words_at
  row-long = let h = s.fits in rw s.words-are (length-take-le 16 (drop (r * 16) table) (omega (arith, length-drop (r * 16) table)))

  pub one-row : 0 < length words / 16
  one-row = omega (arith, row-long)

  pub stands : r < length table / 16
  stands = let h = s.fits in omega arith

  same-words-at : words_at words 0 ≡ words_at table r
  unfolding words_at
  same-words-at = rw (s.words-are, take-take 16 16 (drop (r * 16) table) (omega arith))

  pub same-word : (c : ℕ) → ltb c 16 ≡ true → word_at words 0 c ≡ word_at table r c
  same-word c h = let b = ltb-true c 16 h in sym (column-at words 0 c b) ∙ ap (λ (w : List ℕ). column w c) same-words-at ∙ column-at table r c b

  same-row : (v : List ℕ) → row_is_of words 0 v ≡ row_is_of table r v
  same-row v = ap (λ (w : List ℕ). same_words w v) same-words-at

  pub same-columns : (k : ℕ) → ltb k 16 ≡ true → member_in words 0 k ≡ member_in table r k
  unfolding member_in
  same-columns k h = rw (same-word 3 refl, same-word k h)

  module _ (pool : List ℕ) (p : ℕ) where
    same-leaf : (k : LeafKind) → leaf_at words pool 0 p k ≡ leaf_at table pool r p k
    unfolding leaf_at leaf_of
    same-leaf isFixedPoint = rw (same-word 5 refl, same-word 6 refl, same-word 7 refl, same-word 8 refl)
    same-leaf isFloatingPoint = rw (same-word 5 refl, same-word 7 refl, same-word 8 refl, same-word 9 refl, same-word 10 refl, same-word 11 refl, same-word 12 refl, same-word 13 refl)
    same-leaf isTime = rw (same-word 5 refl, same-word 8 refl)
    same-leaf is_string_of = rw (same-word 5 refl, same-word 6 refl)
    same-leaf isBitField = rw (same-word 5 refl, same-word 7 refl, same-word 8 refl)
    same-leaf isOpaque = rw (same-word 3 refl)
    same-leaf isReference = rw (same-word 5 refl)

    same-kind : (k : Kind) → entry_of words pool 0 p k ≡ entry_of table pool r p k
    unfolding entry_of tag_inside leaf_entry
    same-kind (is_leaf k) = rw (same-leaf k, same-row, same-word 1 refl, same-word 3 refl, same-word 5 refl)
    same-kind isCompound = rw (same-row, same-word 1 refl, same-word 4 refl)
    same-kind isEnumeration = rw (same-row, same-word 1 refl, same-word 4 refl)
    same-kind isVariableLength = rw (same-row, same-word 5 refl, same-word 6 refl, same-word 7 refl)
    same-kind isArray = rw (same-row, same-word 3 refl)
    same-kind isUnknown = refl

    pub same-entry : entry_at words pool 0 p ≡ entry_at table pool r p
    unfolding entry_at
    same-entry = rw (same-word 0 refl) (same-kind (kind_of (word_at table r 0)))

    pub same-member : member_at_of words pool 0 p ≡ member_at_of table pool r p
    unfolding member_at_of member_in
    same-member = rw (same-row, same-word 1 refl, same-word 3 refl)

    pub same-enum-member : enum_member_at_of words pool 0 p ≡ enum_member_at_of table pool r p
    unfolding enum_member_at_of member_in
    same-enum-member = rw (same-row, same-word 3 refl, same-word 4 refl)

  pub says-moved : {x : Option Entry} → RowSays words 0 x → RowSays table r x
  says-moved i = record { is = λ pool p. rw (← same-entry pool p) (i.is pool p); inside = λ h. s.fits }
