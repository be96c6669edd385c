-- Laws of the first of equal keys.
use Prim.Native.Nat.{ℕ, zero, suc, ◌+◌, ◌<◌, ◌≤◌}
use mathlib.Core.Path.{◌≡◌, refl, sym, ap, ◌∙◌}
use mathlib.Core.Logic.{◌↔◌, ⊎_elim}
use mathlib.Core.Bool.{Bool, true, false}
use mathlib.Core.List.{List, [], ◌∷◌}
use native.Mathlib.Omega.{arith}
use lib.ListN.{length, get_or, length-append, get_or-append}
use lib.Seq.{get_or_at}
use Rattle.format.specs.Table.{same_words}
use Rattle.format.proofs.Rows.{same_words_refl, same_words_true}
use Rattle.groups.specs.Groups.{key_at, place_of, first_of, listed, numbers_to, numbers_of}
use Rattle.format.proofs.Booleans.{true_or_false}
use Rattle.groups.proofs.Cases.{not_both, below_or_same}

-- ---- the least number of a key

place_le : (keys : List (List ℕ)) (x : List ℕ) (j : ℕ) → j < length keys → same_words (get_or keys j []) x ≡ true → place_of keys x ≤ j
unfolding place_of
place_le [] x j h e = absurd (omega arith)
place_le (y ∷ keys) x zero h e = rw e (omega arith)
place_le (y ∷ keys) x (suc j) h e =
    ⊎_elim
    (λ (t : same_words y x ≡ true). rw t (omega arith))
    (λ (t : same_words y x ≡ false). rw t (omega (arith, place_le keys x j (omega arith) e)))
    (true_or_false (same_words y x))

place_same : (keys : List (List ℕ)) (x : List ℕ) → place_of keys x < length keys → same_words (get_or keys (place_of keys x) []) x ≡ true
unfolding place_of
place_same [] x h = absurd (omega arith)
place_same (y ∷ keys) x h =
    ⊎_elim
    (λ (t : same_words y x ≡ true). rw t t)
    (λ (t : same_words y x ≡ false). rw t (place_same keys x (let g = rw t at h in omega arith)))
    (true_or_false (same_words y x))

module _ (keys : List (List ℕ)) where
  -- whatever has the key of k is not before the first of k
  pub first_le : (j k : ℕ) → j < length keys → same_words (key_at keys j) (key_at keys k) ≡ true → first_of keys k ≤ j
  unfolding key_at first_of
  first_le j k h e = place_le keys (get_or keys k []) j h e

  pub first_below : (k : ℕ) → k < length keys → first_of keys k ≤ k
  first_below k h = first_le k k h (same_words_refl (key_at keys k))

  pub first-same : (k : ℕ) → k < length keys → same_words (key_at keys (first_of keys k)) (key_at keys k) ≡ true
  first-same k h = unfold key_at first_of in place_same keys (get_or keys k []) (omega (arith, first_below k h))

  pub first_key : (k : ℕ) → k < length keys → key_at keys (first_of keys k) ≡ key_at keys k
  first_key k h = same_words_true (key_at keys (first_of keys k)) (key_at keys k) (first-same k h)

  -- equal keys have one first
  pub first-of-equal : (j k : ℕ) → key_at keys j ≡ key_at keys k → first_of keys j ≡ first_of keys k
  unfolding first_of
  first-of-equal j k e = ap (place_of keys) e

  -- and only they
  pub equal-of-first : (j k : ℕ) → j < length keys → k < length keys → first_of keys j ≡ first_of keys k → key_at keys j ≡ key_at keys k
  equal-of-first j k h g e = sym (first_key j h) ∙ ap (key_at keys) e ∙ first_key k g

  pub first-first : (k : ℕ) → k < length keys → first_of keys (first_of keys k) ≡ first_of keys k
  first-first k h = first-of-equal (first_of keys k) k (first_key k h)

  -- a first that has the key of k
  pub first-is : (j k : ℕ) → first_of keys j ≡ j → same_words (key_at keys j) (key_at keys k) ≡ true → first_of keys k ≡ j
  first-is j k f e = sym (first-of-equal j k (same_words_true (key_at keys j) (key_at keys k) e)) ∙ f

  -- a record whose key is not that of k is not the first of k
  pub first-not : (j k : ℕ) → k < length keys → same_words (key_at keys j) (key_at keys k) ≡ false → first_of keys k ≡ j → ⊥
  first-not j k h e f =
      let s : same_words (key_at keys j) (key_at keys k) ≡ true = rw (← f) (first-same k h) in
      not_both (same_words (key_at keys j) (key_at keys k)) s e

-- ---- a search for the first of k that has come to j

module _ (keys : List (List ℕ)) (j k : ℕ) (b : Bool) (e : b ≡ same_words (key_at keys j) (key_at keys k)) (l : k < length keys) (g : j ≤ first_of keys k) where
  pub first_found : b ≡ true → j < k → j ≡ first_of keys k
  first_found t h = omega (arith, first_le keys j k (omega arith) (sym e ∙ t))

  pub first-passed : b ≡ false → j + 1 ≤ first_of keys k
  first-passed t = omega (arith, first-not keys j k l (sym e ∙ t))

pub first-own : (keys : List (List ℕ)) (j k : ℕ) → k < length keys → j ≤ first_of keys k → k ≤ j → k ≡ first_of keys k
first-own keys j k l g h = omega (arith, first_below keys k l)

-- ---- lists of so many values

module _ {A : Type 0} (f : ℕ → A) where
  pub length-listed : (n : ℕ) → length (listed f n) ≡ n
  unfolding listed
  length-listed zero = refl
  length-listed (suc n) = length-append (listed f n) (f n ∷ []) ∙ omega (arith, length-listed n)

  pub get_d_listed : (n i : ℕ) (d : A) → i < n → get_or (listed f n) i d ≡ f i
  unfolding listed
  get_d_listed zero i d h = absurd (omega arith)
  get_d_listed (suc n) i d h =
      ⊎_elim
      (λ (l : i < n). get_or-append (listed f n) (f n ∷ []) d i (omega (arith, length-listed n)) ∙ get_d_listed n i d l)
      (λ (e : i ≡ n). rw e (get_or_at (listed f n) (f n) [] d n (length-listed n)))
      (below_or_same i n (omega arith))

-- ---- the list of the firsts

module _ (keys : List (List ℕ)) where
  pub length-numbers : length (numbers_of keys) ≡ length keys
  unfolding numbers_of numbers_to
  length-numbers = length-listed (first_of keys) (length keys)

  pub number_at : (k : ℕ) → k < length keys → get_or (numbers_of keys) k 0 ≡ first_of keys k
  unfolding numbers_of numbers_to
  number_at k h = get_d_listed (first_of keys) (length keys) k 0 h

  -- keys are equal exactly when their numbers are
  pub equal-exactly : (j k : ℕ) → j < length keys → k < length keys → key_at keys j ≡ key_at keys k ↔ get_or (numbers_of keys) j 0 ≡ get_or (numbers_of keys) k 0
  equal-exactly j k h g = (
    (λ (e : key_at keys j ≡ key_at keys k). number_at j h ∙ first-of-equal keys j k e ∙ sym (number_at k g)),
    (λ (e : get_or (numbers_of keys) j 0 ≡ get_or (numbers_of keys) k 0). equal-of-first keys j k h g (sym (number_at j h) ∙ e ∙ number_at k g)),
  )
