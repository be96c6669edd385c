-- Laws of how bytes begin, by what `==` and `starts_with` say of two slices.
use Prim.Native.Nat.{ℕ}
use mathlib.Core.Path.{◌≡◌, refl, ap}
use mathlib.Core.Bool.{◌&&◌}
use mathlib.Core.List.{List, [], ◌∷◌}
use lib.Dec.{eqb}
use lib.ListN.{take}
use lib.Pointwise.{pointwise}
use Rattle.std.proofs.Common.{arith}
use Rattle.format.specs.Table.{same_words}
use Rattle.command.specs.Starts.{starts_as, signature}

pub same-is : (x y : List ℕ) → pointwise eqb x y ≡ same_words x y
unfolding same_words
same-is [] [] = refl
same-is [] (b ∷ y) = refl
same-is (a ∷ x) [] = refl
same-is (a ∷ x) (b ∷ y) = ap (λ t. eqb a b && t) (same-is x y)

eqb-flipped : (a b : ℕ) → eqb a b ≡ eqb b a
eqb-flipped a b = grind arith

flipped : (x y : List ℕ) → pointwise eqb x y ≡ same_words y x
unfolding same_words
flipped [] [] = refl
flipped [] (b ∷ y) = refl
flipped (a ∷ x) [] = refl
flipped (a ∷ x) (b ∷ y) = rw (eqb-flipped a b, flipped x y)

pub start-is : (s : List ℕ) → pointwise eqb signature (take 8 s) ≡ starts_as signature s
unfolding starts_as
start-is s = flipped signature (take 8 s)
