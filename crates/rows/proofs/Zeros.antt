-- Tests made of the bits of many numbers at once.
use Prim.Native.Nat.{ℕ, zero, suc}
use mathlib.Core.Path.{◌≡◌, refl, sym, ◌∙◌}
use mathlib.Core.Bool.{Bool, true, false, ◌&&◌, and_assoc, and-true}
use mathlib.Core.List.{List, [], ◌∷◌}
use native.Mathlib.Omega.{arith}
use lib.Bits.{bit_or, bit_xor, or_zero_l, or_add_and, xor_add_and, xor_self, and_le_l, and_le_r}
use lib.Dec.{eqb}
use borrow.Author.Tests.{eqb-true, eqb-false, eq-eqb, ne_eqb}
use Rattle.std.specs.List.{fold}
use Rattle.format.specs.Bytes.{all_zero}

-- tests made of many numbers at once: all are zero, and two are equal
pub or_is-zero : (a b : ℕ) → eqb (bit_or a b) 0 ≡ (eqb a 0 && eqb b 0)
or_is-zero zero b = rw (or_zero_l b)
or_is-zero (suc a) b =
    rw (ne_eqb (suc a) 0 (λ e. omega arith)) (ne_eqb (bit_or (suc a) b) 0 (λ e. omega (arith, or_add_and (suc a) b, and_le_r (suc a) b)))

pub xor_is-zero : (a b : ℕ) → eqb (bit_xor a b) 0 ≡ eqb a b
xor_is-zero a b = go (eqb (bit_xor a b) 0) refl
  where
    go : (t : Bool) → eqb (bit_xor a b) 0 ≡ t → t ≡ eqb a b
    go true e =
        let z : bit_xor a b ≡ 0 = eqb-true (bit_xor a b) 0 e in
        sym (eq-eqb a b (omega (arith, xor_add_and a b, and_le_l a b, and_le_r a b)))
    go false e = sym (ne_eqb a b (λ q. eqb-false (bit_xor a b) 0 e (rw q (xor_self b))))

-- the bits of all of a list, put together
pub clear_fold : (xs : List ℕ) (a : ℕ) → eqb (fold bit_or a xs) 0 ≡ (eqb a 0 && all_zero xs)
unfolding all_zero
clear_fold [] a = sym (and-true (eqb a 0))
clear_fold (x ∷ xs) a = clear_fold xs (bit_or a x) ∙ rw (or_is-zero a x, and_assoc (eqb a 0) (eqb x 0) (all_zero xs))
