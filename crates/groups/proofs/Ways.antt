-- Laws in the form in which the loops of the code need them.
use Prim.Native.Nat.{ℕ, zero, ◌+◌, ◌-◌, ◌%◌, ◌<◌, ◌≤◌}
use mathlib.Core.Path.{◌≡◌, refl, sym, ap, ◌∙◌}
use mathlib.Core.List.{List, ◌++◌}
use native.Mathlib.Nat.{mod-lt}
use native.Mathlib.Omega.{arith}
use lib.ListN.{length, get_or, take, set, replicate, length-replicate, get_or-append}
use lib.Seq.{sets}
use mir.Syntax.{w64}
use mir.Val.{Fits}
use Rattle.groups.specs.Groups.{key_at, first_of, numbers_of, firsts_to, sizes_to, firsts_of, distinct_of}
use Rattle.groups.specs.Chains.{bucket_of_lem, Built, Sought, names_in, Named, Tallied}
use Rattle.groups.proofs.Firsts.{length-numbers, number_at}
use Rattle.groups.proofs.Counts.{firsts_le, length_hit, length_miss}
use Rattle.groups.proofs.Building.{built-none, built-first, built-later, tallied-none, tallied-own, tallied_for}
use Rattle.groups.proofs.Lists.{copy_more, copy_all, zero-at}

-- ---- firsts counted

pub firsts-begin : (ns : List ℕ) → 0 ≡ length (firsts_to ns 0)
unfolding firsts_to
firsts-begin ns = refl

module _ (ns : List ℕ) (k d d' f : ℕ) (e : d ≡ length (firsts_to ns k)) (g : f ≡ get_or ns k 0) where
  pub firsts-one : f ≡ k → d' ≡ d + 1 → d' ≡ length (firsts_to ns (k + 1))
  firsts-one q r = omega (arith, length_hit ns k (sym g ∙ q))

  pub firsts-none : (f ≡ k → ⊥) → d' ≡ d → d' ≡ length (firsts_to ns (k + 1))
  firsts-none q r = omega (arith, length_miss ns k (λ (y : get_or ns k 0 ≡ k). q (g ∙ y)))

-- one more still fits
pub firsts-fit : (ns : List ℕ) (k n d : ℕ) → d ≡ length (firsts_to ns k) → k < n → n < 18446744073709551616 → Fits w64 (d + 1)
firsts-fit ns k n d e h l = record { fits = omega (arith, firsts_le ns k) }

-- the same where the first comes from the keys
module _ (keys : List (List ℕ)) (n k d d' f : ℕ) (l : n ≡ length keys) (h : k < n) (e : d ≡ length (firsts_to (numbers_of keys) k)) (g : f ≡ first_of keys k) where
  named : f ≡ get_or (numbers_of keys) k 0
  named = g ∙ sym (number_at keys k (omega arith))

  pub distinct-one : f ≡ k → d' ≡ d + 1 → d' ≡ length (firsts_to (numbers_of keys) (k + 1))
  distinct-one q r = firsts-one (numbers_of keys) k d d' f e named q r

  pub distinct_none : (f ≡ k → ⊥) → d' ≡ d → d' ≡ length (firsts_to (numbers_of keys) (k + 1))
  distinct_none q r = firsts-none (numbers_of keys) k d d' f e named q r

pub distinct-all : (keys : List (List ℕ)) (n k d : ℕ) → d ≡ length (firsts_to (numbers_of keys) k) → n ≡ length keys → k ≤ n → n ≤ k → d ≡ distinct_of keys
unfolding distinct_of firsts_of
distinct-all keys n k d g l h i =
    let e : k ≡ n = omega arith in
    g ∙ ap (λ (m : ℕ). length (firsts_to (numbers_of keys) m)) (e ∙ l)

-- ---- numbers stored

pub number_more : (keys : List (List ℕ)) (l l₁ : List ℕ) (n k v : ℕ) → n ≡ length keys → k < n → v ≡ get_or (numbers_of keys) k 0 → l₁ ≡ sets l 0 (take k (numbers_of keys))
    → set l₁ k v ≡ sets l 0 (take (k + 1) (numbers_of keys))
number_more keys l l₁ n k v e h g i =
    copy_more l l₁ (numbers_of keys) k v (omega (arith, length-numbers keys)) g i

pub numbers-all : (keys : List (List ℕ)) (l l₁ : List ℕ) (n k : ℕ) → l₁ ≡ sets l 0 (take k (numbers_of keys)) → n ≡ length keys → n ≤ k → l₁ ≡ sets l 0 (numbers_of keys)
numbers-all keys l l₁ n k e g h = copy_all l l₁ (numbers_of keys) k (omega (arith, length-numbers keys)) e

-- ---- a record placed

pub bucket_is : (hash : List ℕ → ℕ) (keys : List (List ℕ)) (buckets k h : ℕ) → h ≡ hash (key_at keys k) → h % buckets ≡ bucket_of_lem hash keys buckets k
unfolding bucket_of_lem
bucket_is hash keys buckets k h e = rw e

pub bucket_below : (buckets h : ℕ) → 0 < buckets → h % buckets < buckets
bucket_below buckets h l = mod-lt h l

module _ (hash : List ℕ → ℕ) (keys : List (List ℕ)) (n buckets k : ℕ) (w : List ℕ) (bucket p : ℕ) (built : Built hash keys n buckets k w) (l : k < n)
    (e : bucket ≡ bucket_of_lem hash keys buckets k) (i : bucket < buckets) (found : Sought keys k p) where
  pub place-first : p ≡ 0 → Built hash keys n buckets (k + 1) (set (set (set w (buckets + k) (get_or w bucket 0)) bucket (k + 1)) (buckets + n + k) k)
  place-first z = built-first hash keys n buckets k w built l bucket e i (found.none z)

  pub place-later : (p ≡ 0 → ⊥) → Built hash keys n buckets (k + 1) (set (set w (buckets + k) (get_or w bucket 0)) (buckets + n + k) (p - 1))
  place-later z = built-later hash keys n buckets k w built l bucket e i p (found.some z) found.below

-- ---- loops that have come to their end

pub sizes-all : (l l₁ ns : List ℕ) (n k : ℕ) → k ≡ n → l₁ ≡ sets l 0 (sizes_to ns k) → l₁ ≡ sets l 0 (sizes_to ns n)
sizes-all l l₁ ns n k e g = rw e at g

pub tally_all : (ns : List ℕ) (n buckets k d : ℕ) (w : List ℕ) → k ≡ n → d ≡ length (firsts_to ns k) → Tallied ns n buckets k w
    → (d ≡ length (firsts_to ns n)) × Tallied ns n buckets n w
tally_all ns n buckets k d w e g t = (rw e at g, rw e at t)

-- ---- an entry tallied

module _ (ns : List ℕ) (n buckets k : ℕ) (w : List ℕ) (t : Tallied ns n buckets k w) where
  module _ (d d' f : ℕ) (e : d ≡ length (firsts_to ns k)) (g : Named (names_in n buckets w) k f) where
    own_name : f ≡ get_or ns k 0
    own_name = g.name ∙ ap (λ (x : List ℕ). get_or x k 0) t.names

    pub tally_hit : f ≡ k → d' ≡ d + 1 → d' ≡ length (firsts_to ns (k + 1))
    tally_hit q r = firsts-one ns k d d' f e own_name q r

    pub tally_miss : (f ≡ k → ⊥) → d' ≡ d → d' ≡ length (firsts_to ns (k + 1))
    tally_miss q r = firsts-none ns k d d' f e own_name q r

  pub tally_next : (w' : List ℕ) → Tallied (names_in n buckets w) n buckets (k + 1) w' → Tallied ns n buckets (k + 1) w'
  tally_next w' u = tallied_for ns (names_in n buckets w) n buckets (k + 1) w' t.names u

-- ---- the steps of the fast path one behind another

pub built-clear : (hash : List ℕ → ℕ) (keys : List (List ℕ)) (n buckets m : ℕ) (w v : List ℕ) → buckets ≤ m → buckets + n + n ≤ length w → w ≡ replicate m 0 ++ v → Built hash keys n buckets 0 w
built-clear hash keys n buckets m w v l h e =
    built-none hash keys n buckets w h
    (λ i k. rw e (get_or-append (replicate m 0) v 0 i (omega (arith, length-replicate m zero)) ∙ zero-at m i))

pub tally_begins : (hash : List ℕ → ℕ) (keys : List (List ℕ)) (n buckets : ℕ) (w : List ℕ) → n ≡ length keys → Built hash keys n buckets n w
    → Tallied (names_in n buckets w) n buckets 0 w
tally_begins hash keys n buckets w e b = tallied-own (numbers_of keys) n buckets 0 w (tallied-none hash keys n buckets w e b)

module _ (hash : List ℕ → ℕ) (keys : List (List ℕ)) (n buckets : ℕ) (w : List ℕ) (e : n ≡ length keys) (b : Built hash keys n buckets n w) where
  names-are : names_in n buckets w ≡ numbers_of keys
  names-are = (tallied-none hash keys n buckets w e b).names

  pub distinct-is : (d : ℕ) → d ≡ length (firsts_to (names_in n buckets w) n) → d ≡ distinct_of keys
  unfolding distinct_of firsts_of
  distinct-is d g = g ∙ rw (names-are, e)

  pub tallied-is : (w' : List ℕ) → Tallied (names_in n buckets w) n buckets n w' → Tallied (numbers_of keys) n buckets n w'
  tallied-is w' t = tallied_for (numbers_of keys) (names_in n buckets w) n buckets n w' names-are t
