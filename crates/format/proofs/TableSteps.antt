-- One step of the walk at each kind of row, its words by their index in the table.
use Prim.Native.Nat.{ℕ, zero, suc, ◌+◌, ◌*◌, ◌<◌, ◌≤◌}
use mathlib.Core.Path.{◌≡◌, refl, ap, sym, ◌∙◌}
use mathlib.Core.Bool.{Bool, true, false, cond, ◌&&◌}
use mathlib.Core.List.{List, [], ◌∷◌, ◌++◌}
use native.Mathlib.Omega.{arith}
use native.Mathlib.Nat.{add-zero}
use lib.ListN.{length, take, drop, get_or, get_or-eq_default}
use lib.Seq.{drop-cons}
use lib.Dec.{leb, ltb, eqb}
use borrow.Author.Tests.{ltb-true}
use Rattle.format.specs.Bytes.{zeros, all_zero, dimensions_from}
use Rattle.format.specs.Datatype.{Datatype, leaf, compound, enumeration, variable_length, array, member}
use Rattle.format.specs.Table.{leaf_row, compound_row, enumeration_row, variable_length_row, array_row, member_row, enum_member_row, leaf_known, LeafKind, isFixedPoint, isFloatingPoint, isTime, is_string_of, isBitField, isOpaque, isReference, is_leaf, tag_at, leaf_of, Found, found, bad, Walk, and_then, test, words_at, word_at, row_is_of, next_row_of, next_piece, same_words, column, members_at, enum_names_at, enum_values_at, isUnknown, kind_of, type_from, type_at}
use Rattle.format.proofs.Rows.{same_words_true, length-words_at, column-at}

-- n elements from at + i on
abbrev pub list_at : (l : List ℕ) (at i n : ℕ) → List ℕ
list_at l at i zero = []
list_at l at i (suc n) = get_or l (at + i) 0 ∷ list_at l at (suc i) n

pub take-list_at : (l : List ℕ) (at i n : ℕ) → at + i + n ≤ length l → take n (drop (at + i) l) ≡ list_at l at i n
take-list_at l at i zero h = refl
take-list_at l at i (suc n) h =
    let e : suc (at + i) ≡ at + suc i = omega arith in
    rw (drop-cons l (at + i) 0 (omega arith), e, take-list_at l at (suc i) n (omega arith))

module _ (table : List ℕ) (r : ℕ) where
  col : (c : ℕ) → ltb c 16 ≡ true → column (words_at table r) c ≡ word_at table r c
  col c h = column-at table r c (ltb-true c 16 h)

  -- a leaf by the words of its row in the table
  pub leaf-words : (g : List ℕ) (c : LeafKind) → leaf_of (column (words_at table r)) g c ≡ leaf_of (word_at table r) g c
  unfolding leaf_of
  leaf-words g isFixedPoint = rw (col 5 refl, col 6 refl, col 7 refl, col 8 refl)
  leaf-words g isFloatingPoint = rw (col 5 refl, col 7 refl, col 8 refl, col 9 refl, col 10 refl, col 11 refl, col 12 refl, col 13 refl)
  leaf-words g isTime = rw (col 5 refl, col 8 refl)
  leaf-words g is_string_of = rw (col 5 refl, col 6 refl)
  leaf-words g isBitField = rw (col 5 refl, col 7 refl, col 8 refl)
  leaf-words g isOpaque = refl
  leaf-words g isReference = rw (col 5 refl)

  pub words-listed : r * 16 + 16 ≤ length table → words_at table r ≡ get_or table (r * 16) 0 ∷ list_at table (r * 16) 1 15
  unfolding words_at
  words-listed h = rw add-zero at (take-list_at table (r * 16) 0 16 (omega arith))

  -- the test of a row, word by word
  pub row_is-words : r * 16 + 16 ≤ length table → (v : List ℕ) → row_is_of table r v ≡ same_words (get_or table (r * 16) 0 ∷ list_at table (r * 16) 1 15) v
  row_is-words h v = rw (words-listed h)

  row_is-false : (v : List ℕ) → (row_is_of table r v ≡ true → ⊥) → row_is_of table r v ≡ false
  row_is-false v n = go (row_is_of table r v) refl
    where
      go : (b : Bool) → row_is_of table r v ≡ b → row_is_of table r v ≡ false
      go true e = absurd (n e)
      go false e = e

  -- a row that the table has no room for is none, and neither is one of other words
  pub row_is-short : (v : List ℕ) → length v ≡ 16 → length table < r * 16 + 16 → row_is_of table r v ≡ false
  row_is-short v l h =
      row_is-false v (λ e. let w : length (words_at table r) ≡ 16 = rw (same_words_true (words_at table r) v e) l in omega (arith, length-words_at table r w))

  pub row_is_other : (v : List ℕ) (c : ℕ) → c < 16 → (word_at table r c ≡ get_or v c 0 → ⊥) → row_is_of table r v ≡ false
  row_is_other v c h n = row_is-false v (λ e. n (sym (column-at table r c h) ∙ ap (λ (x : List ℕ). get_or x c 0) (same_words_true (words_at table r) v e)))

  pub row_is-true : (v : List ℕ) (c : ℕ) → c < 16 → row_is_of table r v ≡ true → word_at table r c ≡ get_or v c 0
  row_is-true v c h e = sym (column-at table r c h) ∙ ap (λ (x : List ℕ). get_or x c 0) (same_words_true (words_at table r) v e)

  pub row_is-fits : (v : List ℕ) → length v ≡ 16 → row_is_of table r v ≡ true → r * 16 + 16 ≤ length table
  row_is-fits v l e = length-words_at table r (rw (same_words_true (words_at table r) v e) l)

pub same_words_zeros : (x : List ℕ) → same_words x (zeros (length x)) ≡ all_zero x
unfolding same_words zeros all_zero
same_words_zeros [] = refl
same_words_zeros (a ∷ x) = rw (same_words_zeros x)

pub same_words_append : (a b x y : List ℕ) → length a ≡ length b → same_words (a ++ x) (b ++ y) ≡ (same_words a b && same_words x y)
unfolding same_words
same_words_append [] [] x y h = refl
same_words_append [] (b ∷ v) x y h = absurd (omega arith)
same_words_append (a ∷ u) [] x y h = absurd (omega arith)
same_words_append (a ∷ u) (b ∷ v) x y h = rw (same_words_append u v x y (omega arith)) (assoc (eqb a b) (same_words u v) (same_words x y))
  where
    assoc : (p q s : Bool) → (p && (q && s)) ≡ ((p && q) && s)
    assoc true q s = refl
    assoc false q s = refl

pub then_found : {A B : Type 0} (a : A) (f : A → Walk B) (r p : ℕ) → and_then (found a r p) f ≡ f a r p
unfolding and_then
then_found a f r p = refl

pub no_found : {A : Type 0} {a : A} {r p : ℕ} → bad ≡ found a r p → ⊥
no_found h = let z : ◌≡◌ {A = ℕ} 0 1 = cc in omega arith

pub then-assoc : {A B D : Type 0} (x : Found A) (f : A → Walk B) (g : B → Walk D) → and_then x (λ a r p. and_then (f a r p) g) ≡ and_then (and_then x f) g
unfolding and_then
then-assoc (found a r p) f g = refl
then-assoc bad f g = refl

then_same : {A B : Type 0} {f g : A → Walk B} (x : Found A) → ((a : A) (r p : ℕ) → f a r p ≡ g a r p) → and_then x f ≡ and_then x g
unfolding and_then
then_same (found a r p) h = h a r p
then_same bad h = refl

pub then-test : {B : Type 0} (c : Bool) (f : Unit {0} → Walk B) (r p : ℕ) → and_then (test c r p) f ≡ cond c (f tt r p) bad
unfolding and_then test
then-test true f r p = refl
then-test false f r p = refl

pub then-piece : {B : Type 0} (pool : List ℕ) (n : ℕ) (f : List ℕ → Walk B) (r p : ℕ)
    → and_then (next_piece pool n r p) f ≡ cond (leb (p + n) (length pool)) (f (take n (drop p pool)) r (p + n)) bad
unfolding next_piece
then-piece pool n f r p = go (leb (p + n) (length pool))
  where
    go : (c : Bool) → and_then (cond c (found (take n (drop p pool)) r (p + n)) bad) f ≡ cond c (f (take n (drop p pool)) r (p + n)) bad
    go true = unfold and_then in refl
    go false = unfold and_then in refl

cond_both : {A : Type 0} (a b : Bool) (x : Found A) → cond a (cond b x bad) bad ≡ cond (a && b) x bad
cond_both true b x = refl
cond_both false b x = refl

-- kinds of no type: 0, and 12 and above
pub kind_of_zero : kind_of 0 ≡ isUnknown
unfolding kind_of
kind_of_zero = refl

pub kind_of_above : (n : ℕ) → 12 ≤ n → kind_of n ≡ isUnknown
unfolding kind_of
kind_of_above n h = rw (get_or-eq_default, h)

module _ (table pool : List ℕ) (k r p : ℕ) where
  -- a type's row is read by its kind
  pub type_at_step : type_at (suc k) table pool r p ≡ type_from (type_at k table pool) table pool (words_at table r) (kind_of (get_or table (r * 16) 0)) (suc r) p
  unfolding type_at and_then next_row_of
  type_at_step = rw (column-at table r 0 (omega arith), add-zero (r * 16))

  step_of : (kind : ℕ) → get_or table (r * 16) 0 ≡ kind → type_at (suc k) table pool r p ≡ type_from (type_at k table pool) table pool (words_at table r) (kind_of kind) (suc r) p
  step_of kind e = type_at_step ∙ rw e

  pub type_at_unknown : kind_of (get_or table (r * 16) 0) ≡ isUnknown → type_at (suc k) table pool r p ≡ bad
  unfolding type_from
  type_at_unknown e = type_at_step ∙ rw e

  -- a leaf's, by its tag
  pub type_at_leaf : (c : LeafKind) → kind_of (get_or table (r * 16) 0) ≡ is_leaf c
      → type_at (suc k) table pool r p
      ≡ and_then (tag_at pool (word_at table r 3) c (suc r) p) (λ g r' p'. cond (row_is_of table r (leaf_row p (word_at table r 1) (leaf_of (word_at table r) g c)) && leaf_known (leaf_of (word_at table r) g c)) (found (leaf (word_at table r 1) (leaf_of (word_at table r) g c)) r' p') bad)
  unfolding type_from
  type_at_leaf c e = type_at_step ∙ rw (e, then_found, col table r 3 refl) (then_same _ λ g r' p'. rw (then-test, then-test, cond_both, leaf-words, col table r 1 refl))

  pub type_at_compound : get_or table (r * 16) 0 ≡ 7
      → type_at (suc k) table pool r p
      ≡ cond (row_is_of table r (compound_row (word_at table r 1) (word_at table r 4)))
      (and_then (members_at (type_at k table pool) table pool (word_at table r 4) (suc r) p) (λ ms r' p'. found (compound (word_at table r 1) ms) r' p')) bad
  unfolding type_from kind_of
  type_at_compound e = step_of 7 e ∙ rw (then-test) (simp (col table r 1 refl, col table r 4 refl))

  pub type_at_enumeration : get_or table (r * 16) 0 ≡ 9
      → type_at (suc k) table pool r p
      ≡ cond (row_is_of table r (enumeration_row (word_at table r 1) (word_at table r 4)))
      (and_then (type_at k table pool (suc r) p) (λ t r₁ p₁. and_then (enum_names_at table pool (word_at table r 4) r₁ p₁) (λ ns r₂ p₂. and_then (enum_values_at pool ns r₂ p₂) (λ ms r₃ p₃. found (enumeration (word_at table r 1) t ms) r₃ p₃)))) bad
  unfolding type_from kind_of
  type_at_enumeration e = step_of 9 e ∙ rw (then-test) (simp (col table r 1 refl, col table r 4 refl))

  pub type_at_variable_length : get_or table (r * 16) 0 ≡ 10
      → type_at (suc k) table pool r p
      ≡ cond (row_is_of table r (variable_length_row (word_at table r 5) (word_at table r 6) (word_at table r 7)) && (ltb (word_at table r 5) 2 && (ltb (word_at table r 6) 4 && ltb (word_at table r 7) 3)))
      (and_then (type_at k table pool (suc r) p) (λ t r' p'. found (variable_length (word_at table r 5) (word_at table r 6) (word_at table r 7) t) r' p')) bad
  unfolding type_from kind_of
  type_at_variable_length e = step_of 10 e ∙ rw (then-test, then-test, cond_both) (simp (col table r 5 refl, col table r 6 refl, col table r 7 refl))

  pub type_at_array : get_or table (r * 16) 0 ≡ 11
      → type_at (suc k) table pool r p
      ≡ cond (row_is_of table r (array_row p (word_at table r 3)) && leb (p + word_at table r 3 * 4) (length pool))
      (and_then (type_at k table pool (suc r) (p + word_at table r 3 * 4)) (λ t r' p'. found (array (dimensions_from (word_at table r 3) (take (word_at table r 3 * 4) (drop p pool))) t) r' p')) bad
  unfolding type_from kind_of
  type_at_array e = step_of 11 e ∙ rw (then_found, then-test, then-piece, cond_both) (simp (col table r 3 refl))

-- a member of a compound, and of an enumeration
module _ (table pool : List ℕ) (n r p : ℕ) where
  pub members_at-step : (rd : Walk Datatype)
      → members_at rd table pool (suc n) r p
      ≡ cond (row_is_of table r (member_row p (word_at table r 1) (word_at table r 3)) && leb (p + word_at table r 3) (length pool))
      (and_then (rd (suc r) (p + word_at table r 3)) (λ t r₁ p₁. and_then (members_at rd table pool n r₁ p₁) (λ ms r₂ p₂. found (member (take (word_at table r 3) (drop p pool)) (word_at table r 1) t ms) r₂ p₂))) bad
  unfolding members_at next_row_of
  members_at-step rd = rw (then_found, then_found, then-test, then-piece, cond_both) (simp (col table r 1 refl, col table r 3 refl))

  pub enumNamesAt-step :
      enum_names_at table pool (suc n) r p
      ≡ cond (row_is_of table r (enum_member_row p (word_at table r 3) (word_at table r 4)) && leb (p + word_at table r 3) (length pool))
      (and_then (enum_names_at table pool n (suc r) (p + word_at table r 3)) (λ ns r' p'. found ((take (word_at table r 3) (drop p pool), word_at table r 4) ∷ ns) r' p')) bad
  unfolding enum_names_at next_row_of
  enumNamesAt-step = rw (then_found, then_found, then-test, then-piece, cond_both) (simp (col table r 3 refl, col table r 4 refl))
