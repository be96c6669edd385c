-- A product that stops at a cap.
use Prim.Native.Nat.{ℕ, zero, suc, ◌*◌, ◌≤◌, min}
use mathlib.Core.Path.{◌≡◌}
use native.Mathlib.Omega.{arith}
use native.Mathlib.Decide.{dec_le}
use native.Mathlib.Nat.{min-eq_left, min-eq_right, mul-zero, le-mul_of_pos_right, mul-le-mul_right}

capped_by : (x p m : ℕ) → Dec (x ≤ m) → min (min x m * p) m ≡ min (x * p) m
capped_by x p m (yes h) = rw (min-eq_left h)
capped_by x zero m (no h) = rw (mul-zero (min x m), mul-zero x)
capped_by x (suc p) m (no h) =
    let less : m ≤ x = omega (arith, h) in
    let a : m ≤ m * suc p = le-mul_of_pos_right m (omega arith) in
    let b : m * suc p ≤ x * suc p = mul-le-mul_right (suc p) less in
    rw (min-eq_right less, min-eq_right a, min-eq_right {n = m} {m = x * suc p} (omega arith))

-- a product may be capped before its last factor
pub capped : (x p m : ℕ) → min (min x m * p) m ≡ min (x * p) m
capped x p m = capped_by x p m (dec_le x m)

-- a size that stopped at 4,294,967,296 stops at 4,294,967,295
pub cap_again : (x : ℕ) → min (min x 4294967296) 4294967295 ≡ min x 4294967295
cap_again x = omega arith
