-- Bytes of two records compared as numbers.
use Prim.Native.Nat.{ℕ, zero, suc, ◌+◌, ◌-◌, ◌*◌, ◌/◌, ◌%◌, ◌<◌, ◌≤◌}
use mathlib.Core.Path.{◌≡◌, refl, sym, ap, ◌∙◌}
use mathlib.Core.Logic.{⊎_elim}
use mathlib.Core.Bool.{Bool, true, false, false≢true, and-true as and-true-right}
use mathlib.Core.List.{List}
use native.Mathlib.Omega.{arith}
use lib.ListN.{length, get_or, take, drop}
use lib.Dec.{ltb, eqb}
use lib.Seq.{ext_get_or, get_or-take, get_or-drop}
use borrow.Author.Tests.{ltb-true, ltb-false, eqb-true, eq-eqb, ne_eqb}
use Rattle.format.specs.Bytes.{number_from}
use Rattle.format.proofs.Booleans.{and_true, same_test, not-true-false, true_or_false}
use Rattle.format.proofs.Bytes.{bytes_back}
use Rattle.format.proofs.Lists.{length_part}
use Rattle.compare.specs.Agreeing.{equal_range_of}
use Rattle.compare.proofs.Ranges.{range_says}
use Rattle.keys.specs.Runs.{Word}

range_holds : (a b : List ℕ) (at n : ℕ) → ((i : ℕ) → i < n → get_or a (at + i) 0 ≡ get_or b (at + i) 0) → equal_range_of a b at n ≡ true
unfolding equal_range_of
range_holds a b at zero h = refl
range_holds a b at (suc n) h =
    let e : at + 0 ≡ at = omega arith in
    let here : get_or a at 0 ≡ get_or b at 0 = rw e at (h 0 (omega arith)) in
    and_true _ _ (eq-eqb (get_or a at 0) (get_or b at 0) here)
    (range_holds a b (suc at) n (λ i l. let f : at + suc i ≡ suc at + i = omega arith in rw f at (h (suc i) (omega arith))))

-- two numbers of the same places are equal exactly when the bytes are
module _ (a b : List ℕ) (at n : ℕ) {v w : ℕ} (va : Word (take n (drop at a)) v) (wb : Word (take n (drop at b)) w) (la : at + n ≤ length a) (lb : at + n ≤ length b) where
  place_of_lem : (x : List ℕ) (i : ℕ) → i < n → get_or (take n (drop at x)) i 0 ≡ get_or x (at + i) 0
  place_of_lem x i l = get_or-take n (drop at x) i 0 l ∙ get_or-drop at x i 0

  bytes-told : v ≡ w → take n (drop at a) ≡ take n (drop at b)
  bytes-told e =
      let f : length (take n (drop at a)) ≡ length (take n (drop at b)) = length_part a at n la ∙ sym (length_part b at n lb) in
      let g : number_from (take n (drop at a)) ≡ number_from (take n (drop at b)) = sym va.is ∙ e ∙ wb.is in
      sym (bytes_back (take n (drop at a)) va.bytes) ∙ rw (f, g) (bytes_back (take n (drop at b)) wb.bytes)

  bytes_same : equal_range_of a b at n ≡ true → take n (drop at a) ≡ take n (drop at b)
  bytes_same h =
      ext_get_or 0 (take n (drop at a)) (take n (drop at b)) (length_part a at n la ∙ sym (length_part b at n lb))
      (λ i l. let m : i < n = omega (arith, length_part a at n la) in place_of_lem a i m ∙ range_says a b at n h i m ∙ sym (place_of_lem b i m))

  pub words-equal : eqb v w ≡ equal_range_of a b at n
  words-equal =
      same_test (eqb v w) (equal_range_of a b at n)
      (λ e. range_holds a b at n (λ i l. sym (place_of_lem a i l) ∙ ap (λ (s : List ℕ). get_or s i 0) (bytes-told (eqb-true v w e)) ∙ place_of_lem b i l))
      (λ e. eq-eqb v w (va.is ∙ ap number_from (bytes_same e) ∙ sym wb.is))

-- the first i of n bytes are equal: the last k decide, where they reach back so far
module _ (a b : List ℕ) (at n i k : ℕ) (so_far : equal_range_of a b at i ≡ true) (l : k ≤ n) (m : n ≤ i + k) where
  pub last-decides : equal_range_of a b (at + (n - k)) k ≡ equal_range_of a b at n
  last-decides =
      same_test (equal_range_of a b (at + (n - k)) k) (equal_range_of a b at n)
      (λ e. range_holds a b at n (λ j h. ⊎_elim (λ q. first j h q) (λ q. last e j h q) (true_or_false (ltb j i))))
      (λ e. range_holds a b (at + (n - k)) k (λ j h.
      let z : at + (n - k) + j ≡ at + (n - k + j) = omega arith in
      rw z (range_says a b at n e (n - k + j) (omega arith))))
    where
      first : (j : ℕ) → j < n → ltb j i ≡ true → get_or a (at + j) 0 ≡ get_or b (at + j) 0
      first j h q = range_says a b at i so_far j (ltb-true j i q)

      last : equal_range_of a b (at + (n - k)) k ≡ true → (j : ℕ) → j < n → ltb j i ≡ false → get_or a (at + j) 0 ≡ get_or b (at + j) 0
      last e j h q =
          let g : i ≤ j = ltb-false j i q in
          let z : at + (n - k) + (j - (n - k)) ≡ at + j = omega arith in
          rw z at (range_says a b (at + (n - k)) k e (j - (n - k)) (omega arith))

-- bytes that differ, k of the n
pub part-stops : (a b : List ℕ) (at n i k : ℕ) {x : Bool} → x ≡ equal_range_of a b (at + i) k → x ≡ false → i + k ≤ n → false ≡ equal_range_of a b at n
part-stops a b at n i k e t l =
    sym (not-true-false (equal_range_of a b at n) (λ h.
    false≢true (sym t ∙ e ∙ range_holds a b (at + i) k (λ j m.
    let z : at + i + j ≡ at + (i + j) = omega arith in
    rw z (range_says a b at n h (i + j) (omega arith))))))

-- parts of two records
module _ (a b : List ℕ) (p n : ℕ) where
  at_part : (x : List ℕ) (i : ℕ) → i < n → get_or (take n (drop p x)) i 0 ≡ get_or x (p + i) 0
  at_part x i l = get_or-take n (drop p x) i 0 l ∙ get_or-drop p x i 0

  pub part_range : equal_range_of (take n (drop p a)) (take n (drop p b)) 0 n ≡ equal_range_of a b p n
  part_range =
      same_test (equal_range_of (take n (drop p a)) (take n (drop p b)) 0 n) (equal_range_of a b p n)
      (λ e. range_holds a b p n (λ i l. let z : 0 + i ≡ i = omega arith in sym (at_part a i l) ∙ rw z at (range_says (take n (drop p a)) (take n (drop p b)) 0 n e i l) ∙ at_part b i l))
      (λ e. range_holds (take n (drop p a)) (take n (drop p b)) 0 n (λ i l. let z : 0 + i ≡ i = omega arith in rw z (at_part a i l ∙ range_says a b p n e i l ∙ sym (at_part b i l))))

-- ---- by words

module _ (a b : List ℕ) (at n : ℕ) (la : at + n ≤ length a) (s : length b ≡ length a) (l : 4 ≤ n) {v w : ℕ} (va : Word (take 4 (drop at a)) v) (wb : Word (take 4 (drop at b)) w) where
  first-words : eqb v w ≡ equal_range_of a b at 4
  first-words = words-equal a b at 4 va wb (omega arith) (omega arith)

  words_stop : (v ≡ w → ⊥) → false ≡ equal_range_of a b at n
  words_stop z =
      let e : at + 0 ≡ at = omega arith in
      part-stops a b at n 0 4 (rw e first-words) (ne_eqb v w z) (omega arith)

  words_last : {t u : ℕ} → Word (take 4 (drop (at + (n - 4)) a)) t → Word (take 4 (drop (at + (n - 4)) b)) u → v ≡ w → n ≤ 8 → eqb t u ≡ equal_range_of a b at n
  words_last ta ub e h =
      words-equal a b (at + (n - 4)) 4 ta ub (omega arith) (omega arith)
      ∙ last-decides a b at n 4 4 (sym first-words ∙ eq-eqb v w e) l (omega arith)

-- the same of eight bytes
module _ (a b : List ℕ) (at : ℕ) (la : at + 8 ≤ length a) (s : length b ≡ length a) {v w : ℕ} (va : Word (take 4 (drop at a)) v) (wb : Word (take 4 (drop at b)) w) where
  pub eight_stop : (v ≡ w → ⊥) → false ≡ equal_range_of a b at 8
  eight_stop z = words_stop a b at 8 la s (omega arith) va wb z

  pub eight_last : {t u : ℕ} → Word (take 4 (drop (at + 4) a)) t → Word (take 4 (drop (at + 4) b)) u → v ≡ w → eqb t u ≡ equal_range_of a b at 8
  eight_last ta ub e = words_last a b at 8 la s (omega arith) va wb ta ub e (omega arith)

-- ---- two parts from their beginning

module _ (a b : List ℕ) (n i k : ℕ) where
  last_of : equal_range_of a b 0 i ≡ true → k ≤ n → n ≤ i + k → equal_range_of a b (n - k) k ≡ equal_range_of a b 0 n
  last_of e l m = let z : 0 + (n - k) ≡ n - k = omega arith in rw z at (last-decides a b 0 n i k e l m)

  stops_of : {x : Bool} → x ≡ equal_range_of a b i k → x ≡ false → i + k ≤ n → false ≡ equal_range_of a b 0 n
  stops_of e t l = let z : 0 + i ≡ i = omega arith in part-stops a b 0 n i k (rw z e) t l

-- at most 8 bytes, by words
module _ (a b : List ℕ) (s : length b ≡ length a) (l : 4 ≤ length a) {v w : ℕ} (va : Word (take 4 (drop 0 a)) v) (wb : Word (take 4 (drop 0 b)) w) where
  pub short_stop : (v ≡ w → ⊥) → false ≡ equal_range_of a b 0 (length a)
  short_stop z = words_stop a b 0 (length a) (omega arith) s l va wb z

  pub short_last : {t u : ℕ} → Word (take 4 (drop (length a - 4) a)) t → Word (take 4 (drop (length a - 4) b)) u → v ≡ w → length a ≤ 8 → eqb t u ≡ equal_range_of a b 0 (length a)
  short_last {t = t} {u = u} ta ub e h =
      let z : 0 + (length a - 4) ≡ length a - 4 = omega arith in
      let ta' : Word (take 4 (drop (0 + (length a - 4)) a)) t = rw z ta in
      let ub' : Word (take 4 (drop (0 + (length a - 4)) b)) u = rw z ub in
      words_last a b 0 (length a) (omega arith) s l va wb ta' ub' e h

-- up to three bytes: the first, the middle and the last
module _ (a b : List ℕ) where
  byte_is : (at : ℕ) → eqb (get_or a at 0) (get_or b at 0) ≡ equal_range_of a b at 1
  unfolding equal_range_of
  byte_is at = sym (and-true-right (eqb (get_or a at 0) (get_or b at 0)))

  pub none_same : length a ≡ 0 → true ≡ equal_range_of a b 0 (length a)
  unfolding equal_range_of
  none_same e = rw e

  byte_stops : (i : ℕ) → (get_or a i 0 ≡ get_or b i 0 → ⊥) → i < length a → false ≡ equal_range_of a b 0 (length a)
  byte_stops i z l = stops_of a b (length a) i 1 (byte_is i) (ne_eqb (get_or a i 0) (get_or b i 0) z) (omega arith)

  module _ (some : length a ≡ 0 → ⊥) where
    pub first_stops : (get_or a 0 0 ≡ get_or b 0 0 → ⊥) → false ≡ equal_range_of a b 0 (length a)
    first_stops z = byte_stops 0 z (omega arith)

    pub middle_stops : (get_or a (length a / 2) 0 ≡ get_or b (length a / 2) 0 → ⊥) → false ≡ equal_range_of a b 0 (length a)
    middle_stops z = byte_stops (length a / 2) z (omega arith)

    pub last_byte : get_or a 0 0 ≡ get_or b 0 0 → get_or a (length a / 2) 0 ≡ get_or b (length a / 2) 0 → length a < 4
        → eqb (get_or a (length a - 1) 0) (get_or b (length a - 1) 0) ≡ equal_range_of a b 0 (length a)
    last_byte p q l = byte_is (length a - 1) ∙ last_of a b (length a) (length a - 1) 1 (range_holds a b 0 (length a - 1) before) (omega arith) (omega arith)
      where
        before : (i : ℕ) → i < length a - 1 → get_or a (0 + i) 0 ≡ get_or b (0 + i) 0
        before zero h = p
        before (suc i) h = let e : 0 + suc i ≡ length a / 2 = omega arith in rw e q

-- ---- eight at a time, and then the last 8

-- k times eight bytes are equal
pub record EqualTo (a b : List ℕ) (k : ℕ) : Type 0 where
  pub equal : equal_range_of a b 0 (8 * k) ≡ true

module _ (a b : List ℕ) where
  pub eights_begun : EqualTo a b 0
  unfolding equal_range_of
  eights_begun = record { equal = refl }

  module _ (k : ℕ) (w : EqualTo a b k) where
    pub eights_more : {x : Bool} → x ≡ equal_range_of a b (8 * k) 8 → x ≡ true → EqualTo a b (k + 1)
    eights_more e t =
        let f : 8 * (k + 1) - 8 ≡ 8 * k = omega arith in
        record { equal = sym (rw f at (last_of a b (8 * (k + 1)) (8 * k) 8 w.equal (omega arith) (omega arith))) ∙ sym e ∙ t }

    pub eights_stop : {x : Bool} → x ≡ equal_range_of a b (8 * k) 8 → x ≡ false → k < (length a - 1) / 8 → false ≡ equal_range_of a b 0 (length a)
    eights_stop e t l = stops_of a b (length a) (8 * k) 8 e t (omega arith)

    pub eights_last : {x : Bool} → x ≡ equal_range_of a b (length a - 8) 8 → k ≤ (length a - 1) / 8 → (length a - 1) / 8 ≤ k → 8 < length a → x ≡ equal_range_of a b 0 (length a)
    eights_last e l u m = e ∙ last_of a b (length a) (8 * k) 8 w.equal (omega arith) (omega arith)

-- ---- whole blocks of 128, and then the last 128

module _ (a b : List ℕ) {x : Bool} (e : x ≡ equal_range_of a b 0 (length a - length a % 128)) where
  pub blocks_stop : x ≡ false → false ≡ equal_range_of a b 0 (length a)
  blocks_stop t = stops_of a b (length a) 0 (length a - length a % 128) e t (omega arith)

  pub blocks_last : {r : Bool} → r ≡ equal_range_of a b (length a - 128) 128 → x ≡ true → 128 ≤ length a → r ≡ equal_range_of a b 0 (length a)
  blocks_last q t l = q ∙ last_of a b (length a) (length a - length a % 128) 128 (sym e ∙ t) l (omega arith)
