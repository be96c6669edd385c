-- The class of a type of size 0 is at most 10.
use Prim.Native.Nat.{ℕ, ◌≤◌}
use mathlib.Core.Bool.{Bool, true, false, cond}
use mathlib.Core.Option.{Option, none, some}
use native.Mathlib.Omega.{arith}
use lib.Dec.{eqb}
use Rattle.format.specs.Datatype.{leaf_class, Datatype, leaf, compound, enumeration, variable_length, array, Members, no_members, member, type_size_of}
use Rattle.format.specs.Slots.{or_else, zero_class, first_zero, member_first_zero}
use Rattle.format.proofs.Rows.{leaf_class-low}

unfoldable pub Low : Option ℕ → Type 0
Low none = Unit {0}
Low (some c) = c ≤ 10

low-class : (c n : ℕ) → c ≤ 10 → Low (zero_class c n)
unfolding zero_class Low
low-class c n h = go (eqb n 0)
  where
    go : (b : Bool) → Low (cond b (some c) none)
    go true = h
    go false = tt

low_else : (x y : Option ℕ) → Low x → Low y → Low (or_else x y)
unfolding or_else
low_else none y h k = k
low_else (some c) y h k = h

no_class : Low none
unfolding Low
no_class = tt

mutual
  unfolding first_zero

  pub zero-low : (t : Datatype) → Low (first_zero t)
  zero-low (leaf n x) = low-class (leaf_class x) n (omega (arith, leaf_class-low x))
  zero-low (compound n ms) = low_else (zero_class 6 n) (member_first_zero ms) (low-class 6 n (omega arith)) (member-zero-low ms)
  zero-low (enumeration n t ms) = low_else (zero_class 8 n) (first_zero t) (low-class 8 n (omega arith)) (zero-low t)
  zero-low (variable_length i a d t) = zero-low t
  zero-low (array ds t) = low_else (zero_class 10 (type_size_of (array ds t))) (first_zero t) (low-class 10 (type_size_of (array ds t)) (omega arith)) (zero-low t)

  member-zero-low : (ms : Members) → Low (member_first_zero ms)
  member-zero-low no_members = no_class
  member-zero-low (member b o t ms) = low_else (first_zero t) (member_first_zero ms) (zero-low t) (member-zero-low ms)
