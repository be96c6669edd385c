-- Laws of stores one behind another, from the front of a list on.
use Prim.Native.Nat.{ℕ, zero, ◌+◌, ◌<◌, ◌≤◌}
use mathlib.Core.Logic.{⊎_elim}
use mathlib.Core.Path.{◌≡◌, refl, sym, ap, ◌∙◌}
use mathlib.Core.List.{List, [], ◌∷◌, ◌++◌}
use native.Mathlib.Numerals.{add-one}
use native.Mathlib.Omega.{arith}
use lib.ListN.{length, get_or, take, drop, set, replicate, get_or-replicate, get_or-eq_default, length-replicate}
use lib.Seq.{sets, take-suc, take_all, length-take-le}
use Rattle.format.proofs.Lists.{sets_append}
use Rattle.groups.specs.Groups.{count, firsts_to, sizes_to, size_at, Grown}
use Rattle.groups.proofs.Cases.{less_or_not}
use Rattle.groups.proofs.Counts.{sizes-next, length-sizes, firsts-next, firsts_mono, size-here, size-not}

-- one store more
store_more : (l l₁ vs : List ℕ) (g v : ℕ) → l₁ ≡ sets l 0 vs → g ≡ length vs → set l₁ g v ≡ sets l 0 (vs ++ (v ∷ []))
store_more l l₁ vs g v e h =
    let z : 0 + length vs ≡ g = omega arith in
    rw (e, sets_append vs (v ∷ []) l 0, z)

-- a copy, one entry more, and all of it
pub copy_more : (l l₁ ns : List ℕ) (k v : ℕ) → k < length ns → v ≡ get_or ns k 0 → l₁ ≡ sets l 0 (take k ns) → set l₁ k v ≡ sets l 0 (take (k + 1) ns)
copy_more l l₁ ns k v h g e =
    let t : take k ns ++ (v ∷ []) ≡ take (k + 1) ns = rw (add-one, g) (sym (take-suc ns k 0 h)) in
    store_more l l₁ (take k ns) k v e (sym (length-take-le k ns (omega arith))) ∙ ap (sets l 0) t

pub copy_all : (l l₁ ns : List ℕ) (k : ℕ) → length ns ≤ k → l₁ ≡ sets l 0 (take k ns) → l₁ ≡ sets l 0 ns
copy_all l l₁ ns k h e = e ∙ ap (sets l 0) (take_all k ns h)

-- the sizes, with k more looked at: what stands in the way of code
pub groups-more : (l₁ l₂ ns : List ℕ) (g g' k : ℕ) → Grown ns k g g' l₁ l₂ → g ≡ length (firsts_to ns k) → g' ≡ length (firsts_to ns (k + 1))
groups-more l₁ l₂ ns g g' k i h = omega (arith, i.next, firsts-next ns k)

pub sizes-more : (l l₁ l₂ ns : List ℕ) (g g' k : ℕ) → Grown ns k g g' l₁ l₂ → g ≡ length (firsts_to ns k) → l₁ ≡ sets l 0 (sizes_to ns k)
    → l₂ ≡ sets l 0 (sizes_to ns (k + 1))
sizes-more l l₁ l₂ ns g g' k i h e =
    let z : 0 + length (sizes_to ns k) ≡ g = omega (arith, length-sizes ns k) in
    i.stored ∙ rw (e, sizes-next ns k, sets_append (sizes_to ns k) (size_at ns k) l 0, z)

pub size_room : (ns : List ℕ) (n k g room room₀ : ℕ) → g ≡ length (firsts_to ns k) → k < n → length (firsts_to ns n) ≤ room₀ → room ≡ room₀
    → g + length (size_at ns k) ≤ room
size_room ns n k g room room₀ e h r s = omega (arith, firsts-next ns k, firsts_mono ns (k + 1) n (omega arith))

-- what one number stores
module _ (ns : List ℕ) (k g : ℕ) where
  pub group_room : (room : ℕ) → get_or ns k 0 ≡ k → g + length (size_at ns k) ≤ room → g < room
  group_room room f r =
      let o : length (size_at ns k) ≡ 1 = ap length (size-here ns k f) in
      omega arith

  pub group_here : (l : List ℕ) (c : ℕ) → get_or ns k 0 ≡ k → c ≡ count k ns → Grown ns k g (g + 1) l (set l g c)
  group_here l c f e = record { next = rw (size-here ns k f); stored = rw (size-here ns k f, e) }

  pub group_not : (l : List ℕ) → (get_or ns k 0 ≡ k → ⊥) → Grown ns k g g l l
  group_not l f = record { next = rw (size-not ns k f) (omega arith); stored = rw (size-not ns k f) }

pub sizes-none : (l ns : List ℕ) → (0 ≡ length (firsts_to ns 0)) × (l ≡ sets l 0 (sizes_to ns 0))
unfolding firsts_to sizes_to
sizes-none l ns = (refl, refl)

-- a list that was zeroed up to a place, and what stands in it
pub cleared : (end : ℕ) (l l₁ : List ℕ) (i : ℕ) → l₁ ≡ replicate i 0 ++ drop i l → i ≤ end → end ≤ i → l₁ ≡ replicate end 0 ++ drop end l
cleared end l l₁ i e g h = let q : i ≡ end = omega arith in e ∙ rw q

pub zero-at : (n i : ℕ) → get_or (replicate {A = ℕ} n 0) i 0 ≡ 0
zero-at n i =
    ⊎_elim
    (λ (h : i < n). get_or-replicate n i 0 0 h)
    (λ (h : n ≤ i). get_or-eq_default (replicate n 0) 0 (omega (arith, length-replicate n (zero))))
    (less_or_not i n)
