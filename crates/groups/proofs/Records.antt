-- Laws of records taken by their numbers.
use Prim.Native.Nat.{ℕ, zero, suc, ◌+◌, ◌*◌, ◌/◌, ◌%◌, ◌<◌, ◌≤◌}
use mathlib.Core.Path.{◌≡◌, refl, sym, ap, ◌∙◌}
use mathlib.Core.Logic.{⊎_elim}
use mathlib.Core.Bool.{cond}
use mathlib.Core.List.{List, [], ◌∷◌, ◌++◌, map, append-nil, append_assoc}
use native.Mathlib.Nat.{add-zero, zero-mul, suc-mul, add-mul, div-add-mod', mul-add-div_right, zero-mod, add-mod}
use native.Mathlib.Numerals.{add-one}
use native.Mathlib.Omega.{arith}
use lib.ListN.{length, get_or, drop, length-append, length-drop}
use lib.Seq.{take_at, take-append-le, drop-append-le, drop-append-add}
use lib.Dec.{eqb}
use borrow.Author.Tests.{eq-eqb, ne_eqb}
use Rattle.groups.specs.Groups.{listed, firsts_to}
use Rattle.groups.specs.Duplicates.{record_at_of}
use Rattle.groups.specs.Join.{records_at}
use Rattle.groups.proofs.Cases.{same_or_not}
use Rattle.groups.proofs.Firsts.{get_d_listed}
use Rattle.groups.proofs.Counts.{firsts_hit, firsts_miss, map_append}
use Rattle.groups.proofs.Keys.{record_ends, record_long}
use Rattle.groups.proofs.Rising.{first-at}

-- a record in front of others
module _ (x s : List ℕ) (size : ℕ) where
  first_record : length x ≡ size → record_at_of (x ++ s) size 0 ≡ x
  unfolding record_at_of
  first_record e = rw (zero-mul size) (take_at x s size e)

  later_record : (i : ℕ) → length x ≡ size → record_at_of (x ++ s) size (suc i) ≡ record_at_of s size i
  unfolding record_at_of
  later_record i e =
      let p : suc i * size ≡ length x + i * size = omega (arith, suc-mul i size) in
      rw (p, drop-append-add x s (i * size))

module _ (block : List ℕ) (size : ℕ) where
  pub records_append : (xs ys : List ℕ) → records_at block size (xs ++ ys) ≡ records_at block size xs ++ records_at block size ys
  unfolding records_at
  records_append [] ys = refl
  records_append (k ∷ xs) ys =
      ap (λ (l : List ℕ). record_at_of block size k ++ l) (records_append xs ys)
      ∙ sym (append_assoc (record_at_of block size k) (records_at block size xs) (records_at block size ys))

  pub records-one : (k : ℕ) → records_at block size (k ∷ []) ≡ record_at_of block size k
  unfolding records_at
  records-one k = append-nil (record_at_of block size k)

  -- of numbers that the block has: each record is whole, and it lies where its number does
  pub length-records : (xs : List ℕ) → ((i : ℕ) → i < length xs → get_or xs i 0 < length block / size) → length (records_at block size xs) ≡ length xs * size
  unfolding records_at
  length-records [] b = omega arith
  length-records (k ∷ xs) b =
      length-append (record_at_of block size k) (records_at block size xs)
      ∙ omega (arith, record_long block size k (b 0 (omega arith)), length-records xs (λ i h. b (suc i) (omega arith)), suc-mul (length xs) size)

  pub record_of-records : (xs : List ℕ) → ((i : ℕ) → i < length xs → get_or xs i 0 < length block / size) → (i : ℕ) → i < length xs
      → record_at_of (records_at block size xs) size i ≡ record_at_of block size (get_or xs i 0)
  unfolding records_at
  record_of-records [] b i h = absurd (omega arith)
  record_of-records (k ∷ xs) b zero h = first_record (record_at_of block size k) (records_at block size xs) size (record_long block size k (b 0 (omega arith)))
  record_of-records (k ∷ xs) b (suc i) h =
      later_record (record_at_of block size k) (records_at block size xs) size i (record_long block size k (b 0 (omega arith)))
      ∙ record_of-records xs (λ j l. b (suc j) (omega arith)) i (omega arith)

-- ---- the records that name themselves, one number more

module _ (block : List ℕ) (size : ℕ) (ns : List ℕ) (m : ℕ) where
  pub records-next_hit : get_or ns m 0 ≡ m → records_at block size (firsts_to ns (m + 1)) ≡ records_at block size (firsts_to ns m) ++ record_at_of block size m
  records-next_hit e =
      ap (records_at block size) (firsts_hit ns m e)
      ∙ records_append block size (firsts_to ns m) (m ∷ [])
      ∙ ap (λ (l : List ℕ). records_at block size (firsts_to ns m) ++ l) (records-one block size m)

  pub records-next_miss : (get_or ns m 0 ≡ m → ⊥) → records_at block size (firsts_to ns (m + 1)) ≡ records_at block size (firsts_to ns m)
  records-next_miss d = ap (records_at block size) (firsts_miss ns m d)

  pub length-records-firsts : m ≤ length block / size → length (records_at block size (firsts_to ns m)) ≡ length (firsts_to ns m) * size
  length-records-firsts h = length-records block size (firsts_to ns m) (λ i l. omega (arith, (first-at ns m i l).below))

-- ---- records of two blocks laid end to end

module _ (a b : List ℕ) (size : ℕ) where
  pub record_first : (k : ℕ) → k < length a / size → record_at_of (a ++ b) size k ≡ record_at_of a size k
  unfolding record_at_of
  record_first k h =
      let e : k * size + size ≤ length a = record_ends a size k h in
      rw (drop-append-le (k * size) a b (omega arith)) (take-append-le size (drop (k * size) a) b (omega (arith, length-drop (k * size) a)))

  pub records-first : (xs : List ℕ) → ((i : ℕ) → i < length xs → get_or xs i 0 < length a / size) → records_at (a ++ b) size xs ≡ records_at a size xs
  unfolding records_at
  records-first [] f = refl
  records-first (k ∷ xs) f = rw (record_first k (f 0 (omega arith)), records-first xs (λ i h. f (suc i) (omega arith)))

  -- from here on the first block is a whole number of records
  module _ (w : length a % size ≡ 0) where
    second-begins : (k : ℕ) → (length a / size + k) * size ≡ length a + k * size
    second-begins k =
        let e : length a / size * size + length a % size ≡ length a = div-add-mod' (length a) size in
        omega (arith, add-mul (length a / size) k size)

    pub record_second : (k : ℕ) → record_at_of (a ++ b) size (length a / size + k) ≡ record_at_of b size k
    unfolding record_at_of
    record_second k = rw (second-begins k, drop-append-add a b (k * size))

    pub records-second : (ys : List ℕ) → records_at (a ++ b) size (map (λ (k : ℕ). length a / size + k) ys) ≡ records_at b size ys
    unfolding records_at
    records-second [] = refl
    records-second (k ∷ ys) = rw (record_second k, records-second ys)

    -- those of the first block, then those of the second by their numbers there
    pub records_split : (xs ys : List ℕ) → ((i : ℕ) → i < length xs → get_or xs i 0 < length a / size)
        → records_at (a ++ b) size (xs ++ map (λ (k : ℕ). length a / size + k) ys) ≡ records_at a size xs ++ records_at b size ys
    records_split xs ys f = rw (records_append (a ++ b) size xs (map (λ (k : ℕ). length a / size + k) ys), records-first xs f, records-second ys)

    pub both_whole : length b % size ≡ 0 → length (a ++ b) % size ≡ 0
    both_whole v = rw (length-append a b, add-mod (length a) (length b) size, w, v) (zero-mod size)

    pub records-of_both : 0 < size → length (a ++ b) / size ≡ length a / size + length b / size
    records-of_both p =
        let e : length a / size * size + length a % size ≡ length a = div-add-mod' (length a) size in
        let s : length (a ++ b) ≡ length a / size * size + length b = omega (arith, length-append a b) in
        rw s (mul-add-div_right p (length a / size) (length b))

-- ---- the numbers that name themselves, split in two

module _ (ns : List ℕ) (m n : ℕ) where
  -- which of n numbers behind m name themselves, counted from m on
  unfoldable pub behind : List ℕ
  behind = listed (λ (k : ℕ). cond (eqb (get_or ns (m + k) 0) (m + k)) k (suc k)) n

  module _ (k : ℕ) (h : k < n) where
    behind-at : get_or behind k 0 ≡ cond (eqb (get_or ns (m + k) 0) (m + k)) k (suc k)
    unfolding behind
    behind-at = get_d_listed (λ (j : ℕ). cond (eqb (get_or ns (m + j) 0) (m + j)) j (suc j)) n k 0 h

    pub behind_if : get_or ns (m + k) 0 ≡ m + k → get_or behind k 0 ≡ k
    behind_if e = behind-at ∙ rw (eq-eqb (get_or ns (m + k) 0) (m + k) e)

    behind-not : (get_or ns (m + k) 0 ≡ m + k → ⊥) → get_or behind k 0 ≡ k → ⊥
    behind-not d e =
        let s : cond (eqb (get_or ns (m + k) 0) (m + k)) k (suc k) ≡ suc k = rw (ne_eqb (get_or ns (m + k) 0) (m + k) d) in
        omega (arith, behind-at)

    pub behind-then : get_or behind k 0 ≡ k → get_or ns (m + k) 0 ≡ m + k
    behind-then e = ⊎_elim (λ (o : get_or ns (m + k) 0 ≡ m + k). o) (λ (d : get_or ns (m + k) 0 ≡ m + k → ⊥). absurd (behind-not d e)) (same_or_not (get_or ns (m + k) 0) (m + k))

  -- one number more
  module _ (j : ℕ) (h : j < n) (e : firsts_to ns (m + j) ≡ firsts_to ns m ++ map (λ (k : ℕ). m + k) (firsts_to behind j)) where
    split_hit : get_or ns (m + j) 0 ≡ m + j → firsts_to ns (m + j + 1) ≡ firsts_to ns m ++ map (λ (k : ℕ). m + k) (firsts_to behind (j + 1))
    split_hit o =
        firsts_hit ns (m + j) o
        ∙ ap (λ (l : List ℕ). l ++ ((m + j) ∷ [])) e
        ∙ append_assoc (firsts_to ns m) (map (λ (k : ℕ). m + k) (firsts_to behind j)) ((m + j) ∷ [])
        ∙ ap (λ (l : List ℕ). firsts_to ns m ++ l)
        (sym (map_append (λ (k : ℕ). m + k) (firsts_to behind j) (j ∷ [])) ∙ ap (map (λ (k : ℕ). m + k)) (sym (firsts_hit behind j (behind_if j h o))))

    split_miss : (get_or ns (m + j) 0 ≡ m + j → ⊥) → firsts_to ns (m + j + 1) ≡ firsts_to ns m ++ map (λ (k : ℕ). m + k) (firsts_to behind (j + 1))
    split_miss d = firsts_miss ns (m + j) d ∙ e ∙ ap (λ (l : List ℕ). firsts_to ns m ++ map (λ (k : ℕ). m + k) l) (sym (firsts_miss behind j (behind-not j h d)))

  split_to : (j : ℕ) → j ≤ n → firsts_to ns (m + j) ≡ firsts_to ns m ++ map (λ (k : ℕ). m + k) (firsts_to behind j)
  split_to zero h = unfold firsts_to in rw (add-zero m, append-nil (firsts_to ns m))
  split_to (suc j) h =
      let e = split_to j (omega arith) in
      let s : m + suc j ≡ m + j + 1 = omega arith in
      rw (s, ← (add-one j)) (⊎_elim (split_hit j (omega arith) e) (split_miss j (omega arith) e) (same_or_not (get_or ns (m + j) 0) (m + j)))

  pub firsts_split : firsts_to ns (m + n) ≡ firsts_to ns m ++ map (λ (k : ℕ). m + k) (firsts_to behind n)
  firsts_split = split_to n (omega arith)
