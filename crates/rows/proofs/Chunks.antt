-- Chunks of n numbers, and whether all of a list are zero by its chunks.
use Prim.Native.Nat.{ℕ, zero, suc, ◌+◌, ◌*◌, ◌/◌, ◌<◌, ◌≤◌}
use native.Mathlib.Nat.{mul-suc}
use native.Mathlib.Omega.{arith}
use mathlib.Core.Path.{◌≡◌, refl, sym, ap, ◌∙◌}
use mathlib.Core.Bool.{Bool, true, false, ◌&&◌, and_assoc}
use mathlib.Core.List.{List, [], ◌∷◌}
use lib.Dec.{eqb}
use lib.ListN.{length, get_or, take, drop}
use lib.Seq.{drop-drop}
use Rattle.std.specs.Simd.{first_chunks}
use Rattle.format.specs.Bytes.{all_zero}

-- a chunk of n numbers
pub chunk-at : (n k i : ℕ) (xs : List ℕ) (d : List ℕ) → i < k → get_or (first_chunks n k xs) i d ≡ take n (drop (n * i) xs)
chunk-at n zero i xs d h = absurd (omega arith)
chunk-at n (suc k) zero xs d h = let e : n * 0 ≡ 0 = omega arith in rw e refl
chunk-at n (suc k) (suc i) xs d h =
    let e : n * suc i ≡ n + n * i = omega (arith, mul-suc n i) in
    chunk-at n k i (drop n xs) d (omega arith) ∙ rw (e, drop-drop (n * i) n xs)

all_zero-cut : (n : ℕ) (xs : List ℕ) → all_zero xs ≡ (all_zero (take n xs) && all_zero (drop n xs))
unfolding all_zero
all_zero-cut zero xs = refl
all_zero-cut (suc n) [] = refl
all_zero-cut (suc n) (x ∷ xs) = ap (λ t. eqb x 0 && t) (all_zero-cut n xs) ∙ sym (and_assoc (eqb x 0) (all_zero (take n xs)) (all_zero (drop n xs)))

-- i chunks of n numbers are zero: what is left decides
module _ (n : ℕ) (xs : List ℕ) (i : ℕ) (inv : all_zero xs ≡ all_zero (drop (n * i) xs)) where
  module _ (chunks : List (List ℕ)) (d : List ℕ) (z : chunks ≡ first_chunks n (length xs / n) xs) (h : i < length xs / n) {t : Bool} (w : t ≡ all_zero (get_or chunks i d)) where
    both : all_zero xs ≡ (t && all_zero (drop (n * (i + 1)) xs))
    both =
        let e : n * (i + 1) ≡ n * i + n = omega (arith, mul-suc n i) in
        let c : t ≡ all_zero (take n (drop (n * i) xs)) = w ∙ rw z (ap all_zero (chunk-at n (length xs / n) i xs d h)) in
        inv ∙ all_zero-cut n (drop (n * i) xs) ∙ rw (c, e, drop-drop n (n * i) xs)

    pub zero-next : t ≡ true → all_zero xs ≡ all_zero (drop (n * (i + 1)) xs)
    zero-next e = both ∙ rw e

    pub zero-stops : t ≡ false → false ≡ all_zero xs
    zero-stops e = sym (both ∙ rw e)
