-- Lengths that stop at 4,294,967,296.
use Prim.Native.Nat.{ℕ, ◌+◌, ◌≤◌}
use mathlib.Core.Path.{◌≡◌}
use mathlib.Core.List.{List}
use native.Mathlib.Omega.{arith}
use lib.ListN.{length}
use Rattle.format.specs.Message.{name_length_of}
use Rattle.measure.specs.Measure.{most_length, name_length_of_lem}

pub most-below : (n : ℕ) → most_length n ≤ 4294967296
unfolding most_length
most-below n = omega arith

pub most-same : (n : ℕ) → n ≤ 4294967296 → n ≡ most_length n
unfolding most_length
most-same n h = omega arith

pub most-two : (a b : ℕ) → most_length (a + most_length b) ≡ most_length (a + b)
unfolding most_length
most-two a b = omega arith

pub most_both : (a b : ℕ) → most_length (most_length a + b) ≡ most_length (a + b)
unfolding most_length
most_both a b = omega arith

pub length-name-of : (e n : ℕ) (b : List ℕ) → length b ≡ n → name_length_of e b ≡ name_length_of_lem e n
unfolding name_length_of name_length_of_lem
length-name-of e n b h = rw h
