-- Laws of the chains.
use Prim.Native.Nat.{ℕ, zero, suc, ◌+◌, ◌-◌, ◌%◌, ◌<◌, ◌≤◌}
use mathlib.Core.Path.{◌≡◌, refl, sym, ap, ◌∙◌}
use mathlib.Core.Logic.{⊎_elim}
use mathlib.Core.Bool.{Bool, true, false, cond, ◌&&◌}
use mathlib.Core.List.{List}
use native.Mathlib.Omega.{arith}
use native.Mathlib.Numerals.{add-one}
use lib.ListN.{length, get_or}
use lib.Dec.{eqb}
use borrow.Author.Tests.{eqb-true, eq-eqb, ne_eqb}
use Rattle.format.specs.Table.{same_words}
use Rattle.groups.specs.Groups.{key_at, first_of}
use Rattle.groups.specs.Chains.{bucket_of_lem, head_of, Chained, Sought}
use Rattle.format.proofs.Booleans.{true_or_false, and_both}
use Rattle.groups.proofs.Cases.{below_or_same, less_or_not, not_both}
use Rattle.groups.proofs.Firsts.{first_below, first_key, first-first, first-is, first-not}

and_false_r : (a : Bool) → (a && false) ≡ false
and_false_r true = refl
and_false_r false = refl

module _ (hash : List ℕ → ℕ) (keys : List (List ℕ)) (buckets bucket : ℕ) where
  abbrev marked : ℕ → Bool
  marked m = eqb (first_of keys m) m && eqb (bucket_of_lem hash keys buckets m) bucket

  head_step : (m : ℕ) → head_of hash keys buckets bucket (suc m) ≡ cond (marked m) (suc m) (head_of hash keys buckets bucket m)
  unfolding head_of
  head_step m = refl

  head-marked : (m : ℕ) → marked m ≡ true → head_of hash keys buckets bucket (suc m) ≡ suc m
  head-marked m e = head_step m ∙ rw e

  head_unmarked : (m : ℕ) → marked m ≡ false → head_of hash keys buckets bucket (suc m) ≡ head_of hash keys buckets bucket m
  head_unmarked m e = head_step m ∙ rw e

  pub head_le : (m : ℕ) → head_of hash keys buckets bucket m ≤ m
  head_le zero = unfold head_of in omega arith
  head_le (suc m) =
      ⊎_elim
      (λ (e : marked m ≡ true). omega (arith, head-marked m e))
      (λ (e : marked m ≡ false). omega (arith, head_unmarked m e, head_le m))
      (true_or_false (marked m))

  pub head_fix : (m : ℕ) → head_of hash keys buckets bucket m ≡ head_of hash keys buckets bucket (head_of hash keys buckets bucket m)
  head_fix zero = unfold head_of in refl
  head_fix (suc m) =
      ⊎_elim
      (λ (e : marked m ≡ true). sym (ap (head_of hash keys buckets bucket) (head-marked m e)))
      (λ (e : marked m ≡ false). rw (head_unmarked m e) (head_fix m))
      (true_or_false (marked m))

  is-marked : (f : ℕ) → first_of keys f ≡ f → bucket_of_lem hash keys buckets f ≡ bucket → marked f ≡ true
  is-marked f e b = rw (eq-eqb (first_of keys f) f e, eq-eqb (bucket_of_lem hash keys buckets f) bucket b)

  -- a first of the bucket is passed by no head
  pub head_above : (f m : ℕ) → first_of keys f ≡ f → bucket_of_lem hash keys buckets f ≡ bucket → f < m → f < head_of hash keys buckets bucket m
  head_above f zero e b h = absurd (omega arith)
  head_above f (suc m) e b h =
      ⊎_elim
      (λ (t : marked m ≡ true). omega (arith, head-marked m t))
      (λ (t : marked m ≡ false).
      ⊎_elim
      (λ (l : f < m). omega (arith, head_unmarked m t, head_above f m e b l))
      (λ (q : f ≡ m). not_both (marked m) (rw (← q) (is-marked f e b)) t)
      (below_or_same f m (omega arith)))
      (true_or_false (marked m))

  -- what a head names is a first of the bucket
  pub head_first : (j : ℕ) → suc j ≡ head_of hash keys buckets bucket (suc j) → (first_of keys j ≡ j) × (bucket_of_lem hash keys buckets j ≡ bucket)
  head_first j e =
      ⊎_elim
      (λ (t : marked j ≡ true).
      let p = and_both (eqb (first_of keys j) j) (eqb (bucket_of_lem hash keys buckets j) bucket) t in
      (eqb-true (first_of keys j) j p.0, eqb-true (bucket_of_lem hash keys buckets j) bucket p.1))
      (λ (t : marked j ≡ false). absurd (omega (arith, head_unmarked j t, head_le j)))
      (true_or_false (marked j))

  -- one record more
  pub head_hit : (k : ℕ) → first_of keys k ≡ k → bucket_of_lem hash keys buckets k ≡ bucket → head_of hash keys buckets bucket (k + 1) ≡ k + 1
  head_hit k e b = rw add-one (head-marked k (is-marked k e b))

  pub head_other : (k : ℕ) → (bucket_of_lem hash keys buckets k ≡ bucket → ⊥) → head_of hash keys buckets bucket (k + 1) ≡ head_of hash keys buckets bucket k
  head_other k d = rw add-one (head_unmarked k (rw (ne_eqb (bucket_of_lem hash keys buckets k) bucket d) (and_false_r (eqb (first_of keys k) k))))

  pub head-later : (k : ℕ) → (first_of keys k ≡ k → ⊥) → head_of hash keys buckets bucket (k + 1) ≡ head_of hash keys buckets bucket k
  head-later k d = rw add-one (head_unmarked k (rw (ne_eqb (first_of keys k) k d)))

-- equal keys are in one bucket
pub bucket_of-first : (hash : List ℕ → ℕ) (keys : List (List ℕ)) (buckets k : ℕ) → k < length keys → bucket_of_lem hash keys buckets (first_of keys k) ≡ bucket_of_lem hash keys buckets k
unfolding bucket_of_lem
bucket_of-first hash keys buckets k h = ap (λ (x : List ℕ). hash x % buckets) (first_key keys k h)

-- ---- a search down a chain that has come to p

pub record Seeking (hash : List ℕ → ℕ) (keys : List (List ℕ)) (buckets bucket k p : ℕ) : Type 0 where
  pub below : p ≤ k
  pub fixed : p ≡ head_of hash keys buckets bucket p
  pub left : p ≤ first_of keys k → first_of keys k ≡ k

module _ (hash : List ℕ → ℕ) (keys : List (List ℕ)) (buckets bucket k : ℕ) (h : k < length keys) (b : bucket ≡ bucket_of_lem hash keys buckets k) where
  -- no first of k lies between a number and its head
  skipped : (m : ℕ) → head_of hash keys buckets bucket m ≤ first_of keys k → first_of keys k < m → ⊥
  skipped m g l =
      omega (arith, head_above hash keys buckets bucket (first_of keys k) m (first-first keys k h) (bucket_of-first hash keys buckets k h ∙ sym b) l)

  at_head : (m : ℕ) → (m ≤ first_of keys k → first_of keys k ≡ k) → head_of hash keys buckets bucket m ≤ first_of keys k → first_of keys k ≡ k
  at_head m r g =
      ⊎_elim
      (λ (l : first_of keys k < m). absurd (skipped m g l))
      (λ (l : m ≤ first_of keys k). r l)
      (less_or_not (first_of keys k) m)

  pub seek_begins : (p : ℕ) → p ≡ head_of hash keys buckets bucket k → Seeking hash keys buckets bucket k p
  seek_begins p e = rw e (record {
    below = head_le hash keys buckets bucket k;
    fixed = head_fix hash keys buckets bucket k;
    left = at_head k (λ (g : k ≤ first_of keys k). omega (arith, first_below keys k h));
  })

  module _ (p : ℕ) (s : Seeking hash keys buckets bucket k p) where
    pub seek_fails : p ≡ 0 → Sought keys k 0
    seek_fails e = record { below = omega arith; none = λ z. s.left (omega arith); some = λ d. absurd (d refl) }

    module _ (j : ℕ) (z : p ≡ 0 → ⊥) (e : j ≡ p - 1) where
      here : (first_of keys j ≡ j) × (bucket_of_lem hash keys buckets j ≡ bucket)
      here = let q : p ≡ suc j = omega arith in head_first hash keys buckets bucket j (rw q at s.fixed)

      pub seek_inside : j < k
      seek_inside = omega (arith, s.below)

      pub seek_finds : same_words (key_at keys j) (key_at keys k) ≡ true → Sought keys k p
      seek_finds t =
          let f : first_of keys k ≡ j = first-is keys j k here.0 t in
          record { below = s.below; none = λ (q : p ≡ 0). absurd (z q); some = λ (d : p ≡ 0 → ⊥). omega arith }

      pub seek_on : (q : ℕ) → q ≡ head_of hash keys buckets (bucket_of_lem hash keys buckets j) j → same_words (key_at keys j) (key_at keys k) ≡ false → Seeking hash keys buckets bucket k q
      seek_on q g t =
          let i : q ≡ head_of hash keys buckets bucket j = g ∙ ap (λ (x : ℕ). head_of hash keys buckets x j) here.1 in
          let r : (j ≤ first_of keys k → first_of keys k ≡ k) =
          λ (l : j ≤ first_of keys k). s.left (omega (arith, first-not keys j k h t)) in
          rw i (record {
            below = omega (arith, head_le hash keys buckets bucket j, s.below);
            fixed = head_fix hash keys buckets bucket j;
            left = at_head j r;
          })

      pub seek_falls : (q : ℕ) → q ≡ head_of hash keys buckets (bucket_of_lem hash keys buckets j) j → q < p
      seek_falls q g = omega (arith, head_le hash keys buckets (bucket_of_lem hash keys buckets j) j)

-- ---- the same, in a workspace

module _ (hash : List ℕ → ℕ) (keys : List (List ℕ)) (buckets bucket k : ℕ) (w : List ℕ) (h : k < length keys) (b : bucket ≡ bucket_of_lem hash keys buckets k) (chains : Chained hash keys buckets k w) where
  pub find_begins : bucket < buckets → Seeking hash keys buckets bucket k (get_or w bucket 0)
  find_begins i = seek_begins hash keys buckets bucket k h b (get_or w bucket 0) (chains.heads bucket i)

  module _ (p : ℕ) (s : Seeking hash keys buckets bucket k p) where
    pub find_fails : p ≡ 0 → Sought keys k 0
    find_fails z = seek_fails hash keys buckets bucket k h b p s z

    module _ (z : p ≡ 0 → ⊥) where
      pub find_inside : p - 1 < length keys
      find_inside = omega (arith, seek_inside hash keys buckets bucket k h b p s (p - 1) z refl)

      pub find_place : (n : ℕ) → buckets + k ≤ n → buckets + (p - 1) < n
      find_place n l = omega (arith, seek_inside hash keys buckets bucket k h b p s (p - 1) z refl)

      link : get_or w (buckets + (p - 1)) 0 ≡ head_of hash keys buckets (bucket_of_lem hash keys buckets (p - 1)) (p - 1)
      link = chains.links (p - 1) (seek_inside hash keys buckets bucket k h b p s (p - 1) z refl) (here hash keys buckets bucket k h b p s (p - 1) z refl).0

      pub find_falls : get_or w (buckets + (p - 1)) 0 < p
      find_falls = seek_falls hash keys buckets bucket k h b p s (p - 1) z refl (get_or w (buckets + (p - 1)) 0) link

      module _ (t : Bool) (e : t ≡ same_words (key_at keys (p - 1)) (key_at keys k)) where
        pub find_hit : t ≡ true → Sought keys k p
        find_hit y = seek_finds hash keys buckets bucket k h b p s (p - 1) z refl (sym e ∙ y)

        pub find_on : t ≡ false → Seeking hash keys buckets bucket k (get_or w (buckets + (p - 1)) 0)
        find_on y = seek_on hash keys buckets bucket k h b p s (p - 1) z refl (get_or w (buckets + (p - 1)) 0) link (sym e ∙ y)
