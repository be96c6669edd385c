-- The laws of masks and shifts: what they are in / and %, and that a byte put together comes apart again.
use mathlib.Core.Path.{◌≡◌, refl, ap, ◌∙◌}
use mathlib.Core.Bool.{Bool, true, false, cond}
use Prim.Native.Nat.{ℕ, zero, suc, ◌+◌, ◌*◌, ◌/◌, ◌%◌, ◌^◌, ◌<◌}
use native.Mathlib.Nat.{zero-add, add_comm, mul_comm, mod-eq_of_lt, div-eq_of_lt, add-mul-mod_self_left, add-mul-div_left, lt_of_lt_of_le}
use native.Mathlib.Omega.{arith}
use lib.Bits.{and_mask, mask_lt, or_lt, or_shifted_r}
use lib.Pow.{pow_pos, pow_mono, shl_lt}
use lib.Dec.{eqb}
use Rattle.format.specs.Bits.{low_bits, high_bits, join_bits, bit_at, class_and_version_of, fixed_flags_of, float_flags_of, float_order_of, nibbles}

-- ---- masks and shifts are / and %

pub low_mod : (k b : ℕ) → low_bits k b ≡ b % 2 ^ k
unfolding low_bits
low_mod k b = and_mask b k

pub high_div : (k b : ℕ) → high_bits k b ≡ b / 2 ^ k
unfolding high_bits
high_div k b = refl

pub join_add : (k low high : ℕ) → low < 2 ^ k → join_bits k low high ≡ low + 2 ^ k * high
unfolding join_bits
join_add k low high h = or_shifted_r high k low h ∙ add_comm (high * 2 ^ k) low ∙ ap (λ (x : ℕ). low + x) (mul_comm high (2 ^ k))

-- ---- a joined number comes apart

pub low-join : (k low high : ℕ) → low < 2 ^ k → low_bits k (join_bits k low high) ≡ low
low-join k low high h = low_mod k (join_bits k low high) ∙ ap (λ (x : ℕ). x % 2 ^ k) (join_add k low high h) ∙ add-mul-mod_self_left low (2 ^ k) high ∙ mod-eq_of_lt h

pub high_join : (k low high : ℕ) → low < 2 ^ k → high_bits k (join_bits k low high) ≡ high
high_join k low high h =
    high_div k (join_bits k low high)
    ∙ ap (λ (x : ℕ). x / 2 ^ k) (join_add k low high h)
    ∙ add-mul-div_left low high (pow_pos k)
    ∙ ap (λ (x : ℕ). x + high) (div-eq_of_lt h)
    ∙ zero-add high

-- ---- bounds

pub low-lt : (k b : ℕ) → low_bits k b < 2 ^ k
unfolding low_bits
low-lt k b = mask_lt b k

pub bit_lt : (k b : ℕ) → bit_at k b < 2
unfolding bit_at
bit_lt k b = low-lt 1 (high_bits k b)

pub join-lt : (k j low high : ℕ) → low < 2 ^ k → high < 2 ^ j → join_bits k low high < 2 ^ (k + j)
unfolding join_bits
join-lt k j low high h g =
    or_lt (k + j) low (high * 2 ^ k) (lt_of_lt_of_le h (pow_mono (omega arith))) (rw (add_comm k j) (shl_lt j k g))

-- ---- the header and flag bytes

pub class_back : (c v : ℕ) → c < 16 → low_bits 4 (class_and_version_of c v) ≡ c
unfolding class_and_version_of
class_back c v h = low-join 4 c v h

pub version_back : (c v : ℕ) → c < 16 → high_bits 4 (class_and_version_of c v) ≡ v
unfolding class_and_version_of
version_back c v h = high_join 4 c v h

pub nibbles-low : (low high : ℕ) → low < 16 → low_bits 4 (nibbles low high) ≡ low
unfolding nibbles
nibbles-low low high h = low-join 4 low high h

pub nibbles_high : (low high : ℕ) → low < 16 → high_bits 4 (nibbles low high) ≡ high
unfolding nibbles
nibbles_high low high h = high_join 4 low high h

-- bit k in / and %
pub bit_of : (k b : ℕ) → bit_at k b ≡ b / 2 ^ k % 2
unfolding bit_at
bit_of k b = low_mod 1 (high_bits k b) ∙ ap (λ (x : ℕ). x % 2) (high_div k b)

pub bit0_of : (o : ℕ) → o < 2 → bit_at 0 o ≡ o
bit0_of o h = bit_of 0 o ∙ omega arith

pub order_back : (o s : ℕ) → o < 2 → s < 2 → bit_at 0 (fixed_flags_of o s) ≡ o
unfolding fixed_flags_of
order_back o s h g = let e : join_bits 3 o s ≡ o + 8 * s = join_add 3 o s (omega arith) in bit_of 0 (join_bits 3 o s) ∙ omega arith

pub signed_back : (o s : ℕ) → o < 2 → s < 2 → bit_at 3 (fixed_flags_of o s) ≡ s
unfolding fixed_flags_of
signed_back o s h g = let e : join_bits 3 o s ≡ o + 8 * s = join_add 3 o s (omega arith) in bit_of 3 (join_bits 3 o s) ∙ omega arith

pub float_order_back : (o : ℕ) → o < 3 → float_order_of (float_flags_of o) ≡ o
unfolding float_order_of float_flags_of join_bits bit_at low_bits high_bits
float_order_back zero h = refl
float_order_back (suc zero) h = refl
float_order_back (suc (suc zero)) h = refl
float_order_back (suc (suc (suc o))) h = absurd (omega arith)

below-three : (t : Bool) (n : ℕ) → n < 2 → cond t 2 n < 3
below-three true n h = omega arith
below-three false n h = omega arith

pub float_order_lt : (f : ℕ) → float_order_of f < 3
unfolding float_order_of
float_order_lt f = below-three (eqb (bit_at 6 f) 1) (bit_at 0 f) (bit_lt 0 f)

-- ---- what is written is a byte

pub class_version_lt : (c v : ℕ) → c < 16 → v < 16 → class_and_version_of c v < 256
unfolding class_and_version_of
class_version_lt c v h g = join-lt 4 4 c v h g

pub nibbles-lt : (low high : ℕ) → low < 16 → high < 16 → nibbles low high < 256
unfolding nibbles
nibbles-lt low high h g = join-lt 4 4 low high h g

pub fixed_flags_lt : (o s : ℕ) → o < 2 → s < 2 → fixed_flags_of o s < 16
unfolding fixed_flags_of
fixed_flags_lt o s h g = join-lt 3 1 o s (omega arith) g

pub float_flags_lt : (o : ℕ) → float_flags_of o < 256
unfolding float_flags_of
float_flags_lt o =
    let b = bit_lt 0 o in
    let l = join-lt 5 1 (bit_at 0 o) 1 (omega arith) (omega arith) in
    omega (arith, join-lt 6 1 (join_bits 5 (bit_at 0 o) 1) (bit_at 1 o) l (bit_lt 1 o))
