-- Laws on numbers in a message, on zeros, and on masks and shifts.
use mathlib.Core.Path.{◌≡◌, refl, sym, ap, ◌∙◌}
use mathlib.Core.List.{List, [], ◌∷◌, ◌++◌, append_assoc}
use Prim.Native.Nat.{ℕ, zero, suc, ◌+◌, ◌-◌, ◌*◌, ◌/◌, ◌%◌, ◌^◌, ◌<◌, ◌≤◌}
use native.Mathlib.Nat.{pow-suc}
use native.Mathlib.Numerals.{add-one}
use native.Mathlib.Omega.{arith}
use lib.ListN.{length, get_or, take, drop, set}
use borrow.Rule.Slice.PartMut.{put_mid}
use lib.Seq.{drop-drop, sets, drop-cons, sets-eq}
use lib.Bits.{bit_and, bit_or, and_mask}
use lib.Pow.{shl_exact}
use borrow.Author.Tests.{eq-eqb, ne_eqb}
use Rattle.format.specs.Bytes.{number_from, little_endian, zeros}
use Rattle.format.specs.Bits.{low_bits, high_bits, join_bits, bit_at, float_flags_of, float_order_of}
use Rattle.format.proofs.Bits.{bit_of}

-- ---- numbers in a message

-- a number's first byte, and the others
pub number_step : (d : List ℕ) (i k : ℕ) → i < length d → number_from (take (k + 1) (drop i d)) ≡ get_or d i 0 + 256 * number_from (take k (drop (i + 1) d))
unfolding number_from
number_step d i k h = ap (λ (m : ℕ). number_from (take m (drop i d))) (add-one k) ∙ ap (λ (l : List ℕ). number_from (take (suc k) l)) (drop-cons d i 0 h) ∙ ap (λ (j : ℕ). get_or d i 0 + 256 * number_from (take k (drop j d))) (sym (add-one i))

-- the last i of width bytes are read, and the byte before them
pub number_more : (d : List ℕ) (offset width i value : ℕ) → i < width → offset + width ≤ length d
    → value ≡ number_from (take i (drop (offset + (width - i)) d))
    → 256 * value + get_or d (offset + (width - (i + 1))) 0 ≡ number_from (take (i + 1) (drop (offset + (width - (i + 1))) d))
number_more d offset width i value h g e =
    let j : offset + (width - (i + 1)) + 1 ≡ offset + (width - i) = omega arith in
    let s : number_from (take (i + 1) (drop (offset + (width - (i + 1))) d)) ≡ get_or d (offset + (width - (i + 1))) 0 + 256 * number_from (take i (drop (offset + (width - i)) d))
    = number_step d (offset + (width - (i + 1))) i (omega arith) ∙ ap (λ (k : ℕ). get_or d (offset + (width - (i + 1))) 0 + 256 * number_from (take i (drop k d))) j in
    omega arith

pub number-ended : (d : List ℕ) (offset width i value : ℕ) → i ≡ width → value ≡ number_from (take i (drop (offset + (width - i)) d)) → value ≡ number_from (take width (drop offset d))
number-ended d offset width i value h e =
    let z : offset + (width - i) ≡ offset = omega arith in
    e ∙ rw (z, h)

-- the bytes from i on are read, and the byte before them
pub number_before : (d : List ℕ) (offset width i value : ℕ) {b : ℕ} → b ≡ get_or d (offset + (i - 1)) 0 → 0 < i → i ≤ width → offset + width ≤ length d
    → value ≡ number_from (take (width - i) (drop (offset + i) d)) → 256 * value + b ≡ number_from (take (width - (i - 1)) (drop (offset + (i - 1)) d))
number_before d offset width i value q z h g e =
    let k : width - (i - 1) ≡ width - i + 1 = omega arith in
    let j : offset + (i - 1) + 1 ≡ offset + i = omega arith in
    let s : number_from (take (width - i + 1) (drop (offset + (i - 1)) d)) ≡ get_or d (offset + (i - 1)) 0 + 256 * number_from (take (width - i) (drop (offset + i) d))
    = number_step d (offset + (i - 1)) (width - i) (omega arith) ∙ ap (λ (k : ℕ). get_or d (offset + (i - 1)) 0 + 256 * number_from (take (width - i) (drop k d))) j in
    rw k (omega arith)

-- fewer than four bytes leave room for one more
pub byte_room : (k : ℕ) → k < 4 → 256 ^ k ≤ 16777216
byte_room zero h = omega arith
byte_room (suc zero) h = omega arith
byte_room (suc (suc zero)) h = omega arith
byte_room (suc (suc (suc zero))) h = omega arith
byte_room (suc (suc (suc (suc k)))) h = absurd (omega arith)

pub byte_more : (i value b : ℕ) → b < 256 → value < 256 ^ i → 256 * value + b < 256 ^ (i + 1)
byte_more i value b h e = rw (add-one, pow-suc) (omega arith)

pub byte_before : (width i value b : ℕ) → 0 < i → i ≤ width → b < 256 → value < 256 ^ (width - i) → 256 * value + b < 256 ^ (width - (i - 1))
byte_before width i value b z l h e =
    let k : width - (i - 1) ≡ suc (width - i) = omega arith in
    rw (k, pow-suc) (omega arith)

-- the bytes of a number are stored from the first on: what is left to store
pub little_more : (l : List ℕ) (offset width i rest : ℕ) → i < width → sets l (offset + i) (little_endian (width - i) rest) ≡ sets (set l (offset + i) (rest % 256)) (offset + (i + 1)) (little_endian (width - (i + 1)) (rest / 256))
unfolding little_endian
little_more l offset width i rest h =
    let k : width - i ≡ suc (width - (i + 1)) = omega arith in
    let j : offset + (i + 1) ≡ suc (offset + i) = omega arith in
    rw (k, j)

pub little_ended : (l : List ℕ) (offset width i rest : ℕ) → width ≤ i → sets l (offset + i) (little_endian (width - i) rest) ≡ l
unfolding little_endian
little_ended l offset width i rest h = let z : width - i ≡ 0 = omega arith in rw z

-- ---- zeros, and a part of a list stored whole

pub zeros_snoc : (n : ℕ) → zeros n ++ (0 ∷ []) ≡ zeros (n + 1)
unfolding zeros
zeros_snoc zero = refl
zeros_snoc (suc n) = ap (λ (l : List ℕ). 0 ∷ l) (zeros_snoc n) ∙ rw (add-one, add-one)

pub stored : (l vs ys : List ℕ) (at n : ℕ) → ys ≡ vs → n ≡ length vs → at + n ≤ length l → put_mid at n l ys ≡ sets l at vs
stored l vs ys at n e k h = rw (e, sets-eq vs l at (omega arith), append_assoc, drop-drop n at l, k) refl

-- ---- masks and shifts, as the code has them

-- low | (high << k), in a word of w bits that holds the shifted number
pub or_shift : (k j w low high : ℕ) → high < 2 ^ j → j + k ≤ w → bit_or low ((high * 2 ^ k) % 2 ^ w) ≡ join_bits k low high
unfolding join_bits
or_shift k j w low high h g = ap (bit_or low) (shl_exact j k w h g)

-- b & 1
pub and_one : (b : ℕ) → bit_and b 1 ≡ bit_at 0 b
and_one b = and_mask b 1 ∙ (omega arith ∙ sym (bit_of 0 b))

pub float_order_vax : (f : ℕ) → bit_at 6 f ≡ 1 → 2 ≡ float_order_of f
unfolding float_order_of
float_order_vax f h = rw (eq-eqb (bit_at 6 f) 1 h)

pub float_order_bit : (f : ℕ) → (bit_at 6 f ≡ 1 → ⊥) → bit_at 0 f ≡ float_order_of f
unfolding float_order_of
float_order_bit f h = rw (ne_eqb (bit_at 6 f) 1 h)

pub float_flags_made : (o : ℕ) → o < 3 → bit_or (bit_or (bit_and o 1) 32) ((o / 2 * 64) % 4294967296) ≡ float_flags_of o
unfolding float_flags_of join_bits bit_at low_bits high_bits
float_flags_made zero h = refl
float_flags_made (suc zero) h = refl
float_flags_made (suc (suc zero)) h = refl
float_flags_made (suc (suc (suc o))) h = absurd (omega arith)
