use mathlib.Core.Path.{◌≡◌}
use mathlib.Core.Bool.{true, false}
use Prim.Native.Nat.{ℕ, ◌<◌, ◌≤◌}
use native.Mathlib.Omega.{arith}
use borrow.Author.Tests.{le-leb, lt-leb}
use Rattle.format.specs.Bits.{low_bits}
use Rattle.format.specs.Sizes.{class_may_hold_object_address_of}
use Rattle.table.proofs.class_may_hold_object_address.Goals as goal

inside : (b x : ℕ) → x ≡ low_bits 4 b → 6 ≤ x → x < 11 → true ≡ class_may_hold_object_address_of b
unfolding class_may_hold_object_address_of
inside b x e l h = rw (le-leb 6 (low_bits 4 b) (omega arith), le-leb (low_bits 4 b) 10 (omega arith))

below : (b x : ℕ) → x ≡ low_bits 4 b → x < 6 → false ≡ class_may_hold_object_address_of b
unfolding class_may_hold_object_address_of
below b x e h = rw (lt-leb 6 (low_bits 4 b) (omega arith))

above : (b x : ℕ) → x ≡ low_bits 4 b → 6 ≤ x → 11 ≤ x → false ≡ class_may_hold_object_address_of b
unfolding class_may_hold_object_address_of
above b x e l h = rw (le-leb 6 (low_bits 4 b) (omega arith), lt-leb (low_bits 4 b) 10 (omega arith))

pub returns-in-6-to-10 : goal.returns-in-6-to-10
returns-in-6-to-10 c = search inside

pub returns-in_default : goal.returns-in_default
returns-in_default c = search below

pub returns-in_default-2 : goal.returns-in_default-2
returns-in_default-2 c = search above
