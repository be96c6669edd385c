-- Dimensions as the table has them, and zeros behind a list.
use Prim.Native.Nat.{ℕ, zero, suc, ◌-◌, ◌*◌, ◌^◌, ◌<◌, ◌≤◌}
use mathlib.Core.Path.{◌≡◌, refl, ap, ◌∙◌}
use mathlib.Core.Bool.{true}
use mathlib.Core.List.{List, [], ◌∷◌, ◌++◌}
use native.Mathlib.Omega.{arith}
use lib.ListN.{length, take, drop, replicate, length-append, length-take}
use lib.Dec.{eqb}
use borrow.Author.Tests.{eqb-true, lt-ltb}
use Rattle.format.specs.Bytes.{number_from, AllBytes, zeros, padded, all_zero, dimension_bytes, dimensions_from}
use Rattle.format.specs.Table.{all_below}
use Rattle.format.proofs.Booleans.{and_both, and_true}
use Rattle.format.proofs.Bytes.{bytes_take, bytes_drop, number-below, length_dimensions, dimensions_back, dimension_bytes-back}
use Rattle.format.proofs.Storable.{below_fact}

pub length-dimension_bytes : (ds : List ℕ) → length (dimension_bytes ds) ≡ length ds * 4
length-dimension_bytes ds = length_dimensions ds ∙ omega arith

pub dimensions_from-dimension_bytes : (ds s : List ℕ) → all_below 4294967296 ds ≡ true → dimensions_from (length ds) (dimension_bytes ds ++ s) ≡ ds
dimensions_from-dimension_bytes ds s h = dimensions_back ds s (below_fact 4294967296 ds h)

-- at most four bytes stand for a 32-bit number
pub four_below : (s : List ℕ) → AllBytes s → number_from (take 4 s) < 4294967296
four_below s h = most (length (take 4 s)) (number_from (take 4 s)) (rw length-take (omega arith)) (number-below (take 4 s) (bytes_take 4 s h))
  where
    most : (k n : ℕ) → k ≤ 4 → n < 256 ^ k → n < 4294967296
    most zero n h e = omega arith
    most (suc zero) n h e = omega arith
    most (suc (suc zero)) n h e = omega arith
    most (suc (suc (suc zero))) n h e = omega arith
    most (suc (suc (suc (suc zero)))) n h e = omega arith
    most (suc (suc (suc (suc (suc k))))) n h e = absurd (omega arith)

pub dimensions_below : (k : ℕ) (s : List ℕ) → AllBytes s → all_below 4294967296 (dimensions_from k s) ≡ true
unfolding all_below dimensions_from
dimensions_below zero s h = refl
dimensions_below (suc k) s h = and_true _ _ (lt-ltb _ _ (four_below s h)) (dimensions_below k (drop 4 s) (bytes_drop 4 s h))

pub record Dimensions (n : ℕ) (s : List ℕ) : Type 0 where
  pub bytes : dimension_bytes (dimensions_from n s) ≡ s
  pub below : all_below 4294967296 (dimensions_from n s) ≡ true

-- the bytes of n dimensions stand for 32-bit numbers, whose bytes they are
pub dimensions_of : (n : ℕ) (s : List ℕ) → AllBytes s → length s ≡ n * 4 → Dimensions n s
dimensions_of n s h l = record { bytes = dimension_bytes-back n s (omega arith) h; below = dimensions_below n s h }

pub all_zero-zeros : (n : ℕ) → all_zero (zeros n) ≡ true
unfolding all_zero zeros
all_zero-zeros zero = refl
all_zero-zeros (suc n) = all_zero-zeros n

pub zeros-of-all_zero : (s : List ℕ) → all_zero s ≡ true → s ≡ zeros (length s)
unfolding all_zero zeros
zeros-of-all_zero [] h = refl
zeros-of-all_zero (b ∷ s) h =
    let e = and_both (eqb b 0) (all_zero s) h in
    let z : s ≡ replicate (length s) 0 = zeros-of-all_zero s e.1 in
    let f : b ≡ 0 = eqb-true b 0 e.0 in
    cc

-- a list and only zeros behind it is the list padded
pub padded-of : (l s z : List ℕ) → l ≡ s ++ z → all_zero z ≡ true → l ≡ padded (length l) s
unfolding padded
padded-of l s z e h =
    let n : length l - length s ≡ length z = omega (arith, ap length e, length-append s z) in
    rw (n, ← zeros-of-all_zero z h) e
