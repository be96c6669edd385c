-- Cases of numbers and tests.
use Prim.Native.Nat.{ℕ, ◌+◌, ◌<◌, ◌≤◌}
use mathlib.Core.Path.{◌≡◌}
use mathlib.Core.Logic.{◌⊎◌, inl, inr}
use mathlib.Core.Bool.{Bool, true, false}
use native.Mathlib.Omega.{arith}
use lib.Dec.{eqb, ltb}
use borrow.Author.Tests.{eqb-true, eqb-false, ltb-true, ltb-false}
use Rattle.format.proofs.Booleans.{true_or_false}

of_test : (m n : ℕ) → (eqb m n ≡ true) ⊎ (eqb m n ≡ false) → (m ≡ n) ⊎ (m ≡ n → ⊥)
of_test m n (inl e) = inl (eqb-true m n e)
of_test m n (inr e) = inr (eqb-false m n e)

pub same_or_not : (m n : ℕ) → (m ≡ n) ⊎ (m ≡ n → ⊥)
same_or_not m n = of_test m n (true_or_false (eqb m n))

of-less : (m n : ℕ) → m < n + 1 → (m ≡ n) ⊎ (m ≡ n → ⊥) → (m < n) ⊎ (m ≡ n)
of-less m n h (inl e) = inr e
of-less m n h (inr d) = inl (omega arith)

pub below_or_same : (m n : ℕ) → m < n + 1 → (m < n) ⊎ (m ≡ n)
below_or_same m n h = of-less m n h (same_or_not m n)

of_order : (m n : ℕ) → (ltb m n ≡ true) ⊎ (ltb m n ≡ false) → (m < n) ⊎ (n ≤ m)
of_order m n (inl e) = inl (ltb-true m n e)
of_order m n (inr e) = inr (ltb-false m n e)

pub less_or_not : (m n : ℕ) → (m < n) ⊎ (n ≤ m)
less_or_not m n = of_order m n (true_or_false (ltb m n))

pub not_both : {A : Type 0} (b : Bool) → b ≡ true → b ≡ false → A
not_both b h k = absurd (let z : ◌≡◌ {A = Bool} true false = cc in let o : ◌≡◌ {A = ℕ} 0 1 = cc in omega arith)
