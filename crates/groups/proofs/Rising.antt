-- The numbers that name themselves: they rise, they are all of them, and each is counted.
use Prim.Native.Nat.{ℕ, zero, suc, ◌+◌, ◌<◌}
use mathlib.Core.Path.{◌≡◌, refl, sym, ◌∙◌}
use mathlib.Core.Logic.{◌⊎◌, ⊎_elim}
use mathlib.Core.Bool.{true, false}
use mathlib.Core.List.{List, [], ◌∷◌}
use native.Mathlib.Omega.{arith}
use native.Mathlib.Numerals.{add-one}
use lib.ListN.{length, get_or, get_or-append}
use lib.Seq.{get_or_at}
use lib.Dec.{eqb}
use borrow.Author.Tests.{eq-eqb}
use Rattle.groups.specs.Groups.{count, firsts_to}
use Rattle.format.proofs.Booleans.{true_or_false}
use Rattle.groups.proofs.Cases.{same_or_not, below_or_same}
use Rattle.groups.proofs.Counts.{firsts_hit, firsts_miss, length_hit, length_miss}

-- an entry is counted
pub count-some : (x : ℕ) (l : List ℕ) (i : ℕ) → i < length l → get_or l i 0 ≡ x → 0 < count x l
unfolding count
count-some x [] i h e = absurd (omega arith)
count-some x (y ∷ l) zero h e = rw (eq-eqb y x e) (omega arith)
count-some x (y ∷ l) (suc i) h e =
    ⊎_elim
    (λ (t : eqb y x ≡ true). rw t (omega arith))
    (λ (t : eqb y x ≡ false). rw t (count-some x l i (omega arith) e))
    (true_or_false (eqb y x))

none_yet : (ns : List ℕ) (i : ℕ) → i < length (firsts_to ns 0) → ⊥
unfolding firsts_to
none_yet ns i h = omega arith

-- m is the last of the numbers up to it, where it names itself
module _ (ns : List ℕ) (m : ℕ) (f : get_or ns m 0 ≡ m) where
  earlier-at : (i : ℕ) → i < length (firsts_to ns m) → get_or (firsts_to ns (m + 1)) i 0 ≡ get_or (firsts_to ns m) i 0
  earlier-at i h = rw (firsts_hit ns m f) (get_or-append (firsts_to ns m) (m ∷ []) 0 i h)

  last-at : (i : ℕ) → i ≡ length (firsts_to ns m) → get_or (firsts_to ns (m + 1)) i 0 ≡ m
  last-at i e = rw (firsts_hit ns m f) (get_or_at (firsts_to ns m) m [] 0 i (sym e))

  place_of_lem : (i : ℕ) → i < length (firsts_to ns (m + 1)) → (i < length (firsts_to ns m)) ⊎ (i ≡ length (firsts_to ns m))
  place_of_lem i h = below_or_same i (length (firsts_to ns m)) (omega (arith, length_hit ns m f))

-- a number below m that names itself
pub record FirstAt (ns : List ℕ) (m x : ℕ) : Type 0 where
  pub below : x < m
  pub own : get_or ns x 0 ≡ x

-- each of them is such a number
pub first-at : (ns : List ℕ) (m i : ℕ) → i < length (firsts_to ns m) → FirstAt ns m (get_or (firsts_to ns m) i 0)
first-at ns zero i h = absurd (none_yet ns i h)
first-at ns (suc m) i h =
    rw (← (add-one m))
    (let g : i < length (firsts_to ns (m + 1)) = rw (add-one m) h in
    ⊎_elim
    (λ (f : get_or ns m 0 ≡ m).
    ⊎_elim
    (λ (l : i < length (firsts_to ns m)). let w = first-at ns m i l in rw (earlier-at ns m f i l) (record { below = omega arith; own = w.own }))
    (λ (e : i ≡ length (firsts_to ns m)). rw (last-at ns m f i e) (record { below = omega arith; own = f }))
    (place_of_lem ns m f i g))
    (λ (d : get_or ns m 0 ≡ m → ⊥). let w = first-at ns m i (omega (arith, length_miss ns m d)) in rw (firsts_miss ns m d) (record { below = omega arith; own = w.own }))
    (same_or_not (get_or ns m 0) m))

-- and each such number is one of them
pub record PlaceOf (l : List ℕ) (x : ℕ) : Type 0 where
  pub place : ℕ
  pub inside : place < length l
  pub is : get_or l place 0 ≡ x

pub first-place : (ns : List ℕ) (m k : ℕ) → k < m → get_or ns k 0 ≡ k → PlaceOf (firsts_to ns m) k
first-place ns zero k h o = absurd (omega arith)
first-place ns (suc m) k h o =
    rw (← (add-one m))
    (⊎_elim
    (λ (l : k < m).
    let w = first-place ns m k l o in
    ⊎_elim
    (λ (f : get_or ns m 0 ≡ m). record { place = w.place; inside = omega (arith, length_hit ns m f); is = earlier-at ns m f w.place w.inside ∙ w.is })
    (λ (d : get_or ns m 0 ≡ m → ⊥). rw (firsts_miss ns m d) w)
    (same_or_not (get_or ns m 0) m))
    (λ (e : k ≡ m).
    let f : get_or ns m 0 ≡ m = rw (← e) o in
    record { place = length (firsts_to ns m); inside = omega (arith, length_hit ns m f); is = last-at ns m f (length (firsts_to ns m)) refl ∙ sym e })
    (below_or_same k m (omega arith)))

-- they rise
pub firsts-rise : (ns : List ℕ) (m i j : ℕ) → i < j → j < length (firsts_to ns m) → get_or (firsts_to ns m) i 0 < get_or (firsts_to ns m) j 0
firsts-rise ns zero i j l h = absurd (none_yet ns j h)
firsts-rise ns (suc m) i j l h =
    rw (← (add-one m))
    (let g : j < length (firsts_to ns (m + 1)) = rw (add-one m) h in
    ⊎_elim
    (λ (f : get_or ns m 0 ≡ m).
    ⊎_elim
    (λ (p : j < length (firsts_to ns m)). rw (earlier-at ns m f j p, earlier-at ns m f i (omega arith)) (firsts-rise ns m i j l p))
    (λ (e : j ≡ length (firsts_to ns m)). rw (last-at ns m f j e, earlier-at ns m f i (omega arith)) (first-at ns m i (omega arith)).below)
    (place_of_lem ns m f j g))
    (λ (d : get_or ns m 0 ≡ m → ⊥). rw (firsts_miss ns m d) (firsts-rise ns m i j l (omega (arith, length_miss ns m d))))
    (same_or_not (get_or ns m 0) m))
