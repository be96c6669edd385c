-- Laws of the number that decimal digits write, one digit at a time.
use Prim.Native.Nat.{ℕ, zero, suc, ◌+◌, ◌-◌, ◌*◌, ◌<◌, ◌≤◌}
use mathlib.Core.Path.{◌≡◌, refl, sym, ap, ◌∙◌}
use mathlib.Core.List.{List, [], ◌∷◌}
use native.Mathlib.Numerals.{add-one}
use native.Mathlib.Omega.{arith}
use lib.ListN.{length, get_or, drop}
use lib.Seq.{drop-cons}
use borrow.Author.Tests.{lt-ltb, le-ltb, le-leb, lt-leb}
use Rattle.same.specs.Numbers.{is_digit, decimal_from, decimal_of}
use Rattle.std.specs.Prelude.{Some, None}

pub no_digits : (s : List ℕ) → length s ≡ 0 → None ≡ decimal_of s
unfolding decimal_of
no_digits [] h = refl
no_digits (b ∷ s) h = absurd (omega arith)

pub some_digits : (s : List ℕ) → (length s ≡ 0 → ⊥) → decimal_of s ≡ decimal_from 0 (drop 0 s)
unfolding decimal_of
some_digits [] h = absurd (h refl)
some_digits (b ∷ s) h = refl

none_left : (s : List ℕ) (v i : ℕ) → length s ≤ i → decimal_from v (drop i s) ≡ Some v
unfolding decimal_from
none_left [] v zero h = refl
none_left [] v (suc i) h = refl
none_left (b ∷ s) v zero h = absurd (omega arith)
none_left (b ∷ s) v (suc i) h = none_left s v i (omega arith)

pub all_digits : (s : List ℕ) (v i : ℕ) → decimal_of s ≡ decimal_from v (drop i s) → length s ≤ i → Some v ≡ decimal_of s
all_digits s v i w h = sym (w ∙ none_left s v i h)

-- the digits before i write v: what byte i makes of it
module _ (s : List ℕ) (v i b : ℕ) (w : decimal_of s ≡ decimal_from v (drop i s)) (h : i < length s) (e : b ≡ get_or s i 0) where
  here : decimal_from v (drop i s) ≡ decimal_from v (b ∷ drop (suc i) s)
  here = ap (decimal_from v) (drop-cons s i 0 h ∙ ap (λ (x : ℕ). x ∷ drop (suc i) s) (sym e))

  pub below_digits : b < 48 → None ≡ decimal_of s
  unfolding decimal_from is_digit
  below_digits l = sym (w ∙ here ∙ rw (lt-leb 48 b l))

  pub above_digits : 48 ≤ b → 57 < b → None ≡ decimal_of s
  unfolding decimal_from is_digit
  above_digits k l = sym (w ∙ here ∙ rw (le-leb 48 b k, lt-leb b 57 l))

  module _ (k : 48 ≤ b) (l : b ≤ 57) where
    pub too_large : (10 * v + (b - 48) < 18446744073709551616 → ⊥) → None ≡ decimal_of s
    unfolding decimal_from is_digit
    too_large g =
        let m : 18446744073709551616 ≤ 10 * v + (b - 48) = omega arith in
        sym (w ∙ here ∙ rw (le-leb 48 b k, le-leb b 57 l, le-ltb (10 * v + (b - 48)) 18446744073709551616 m))

    pub next_digit : (r : ℕ) → r ≡ 10 * v + (b - 48) → r < 18446744073709551616 → decimal_of s ≡ decimal_from r (drop (i + 1) s)
    unfolding decimal_from is_digit
    next_digit r q g =
        let m : 10 * v + (b - 48) < 18446744073709551616 = omega arith in
        rw q (w ∙ here ∙ rw (le-leb 48 b k, le-leb b 57 l, lt-ltb (10 * v + (b - 48)) 18446744073709551616 m, add-one))
