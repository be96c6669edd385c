-- Header and flag bytes, split and put together by masks and shifts. proofs/Bits.antt has their laws to / and %.
use Rattle.std.specs.Prelude.{ℕ, ◌-◌, ◌*◌, ◌/◌, ◌^◌, cond, eqb}
use Rattle.std.specs.Int.Bits.{bit_and, bit_or}

-- b & (2^k - 1)
unfoldable pub low_bits : (k b : ℕ) → ℕ
low_bits k b = bit_and b (2 ^ k - 1)

-- b >> k
unfoldable pub high_bits : (k b : ℕ) → ℕ
high_bits k b = b / 2 ^ k

-- low | (high << k)
unfoldable pub join_bits : (k low high : ℕ) → ℕ
join_bits k low high = bit_or low (high * 2 ^ k)

-- bit k of a byte
unfoldable pub bit_at : (k b : ℕ) → ℕ
bit_at k b = low_bits 1 (high_bits k b)

-- "class is the low four bits of the first byte, version the high four"
unfoldable pub class_and_version_of : (class version : ℕ) → ℕ
class_and_version_of class version = join_bits 4 class version

-- class 0: bit 0 order, bit 3 signed
unfoldable pub fixed_flags_of : (order signed : ℕ) → ℕ
fixed_flags_of order signed = join_bits 3 order signed

-- class 1, written: bit 5 set; big-endian (1) adds bit 0, "VAX adds bit 6 only" (2)
unfoldable pub float_flags_of : (order : ℕ) → ℕ
float_flags_of order = join_bits 6 (join_bits 5 (bit_at 0 order) 1) (bit_at 1 order)

-- class 1, read: "bit 6 set is VAX, else bit 0 order"
unfoldable pub float_order_of : (f0 : ℕ) → ℕ
float_order_of f0 = cond (eqb (bit_at 6 f0) 1) 2 (bit_at 0 f0)

-- classes 3 and 9: padding and character set in the low and high four bits; class 9: "1 is a string, with padding in the high four"
unfoldable pub nibbles : (low high : ℕ) → ℕ
nibbles low high = join_bits 4 low high
