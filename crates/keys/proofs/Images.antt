-- Runs of a record and of its image: one hash; and when two images are equal.
use Prim.Native.Nat.{ℕ, ◌+◌, ◌<◌, ◌≤◌}
use mathlib.Core.Path.{◌≡◌, refl, sym, ap, ◌∙◌}
use mathlib.Core.Logic.{⊎_elim}
use mathlib.Core.Bool.{Bool, true, false}
use mathlib.Core.List.Memᴰ
use mathlib.Core.List.{List, [], ◌∷◌, Memᴰ}
use native.Mathlib.Omega.{arith}
use lib.ListN.{length}
use Rattle.format.specs.Image.{Field, owned_by, counted_in, image_from, compared_of, FieldsDiffer}
use Rattle.format.specs.Table.{same_words}
use Rattle.format.proofs.Booleans.{not-true-false}
use Rattle.format.proofs.Image.{counted-owned, owned-says, BothSay, counted-some, taken-counted, length-image, images_at, both_each, both_image, both_images, both_compared}
use Rattle.format.proofs.Rows.{same_words_refl, same_words_true}
use Rattle.compare.specs.Agreeing.{equal_range_of}
use Rattle.compare.proofs.Ranges.{range_says}
use Rattle.groups.specs.Runs.{Inside}
use Rattle.keys.specs.Hash.{Factors, hash_bytes, hash_runs, join_hashes_of, hash_of}
use Rattle.keys.specs.Runs.{SameIn}

-- a run of the list lies within
run_inside : (n : ℕ) (fs : List Field) → Inside n fs → (f : Field) → Memᴰ f fs → f.place + f.size ≤ n
unfolding Inside
run_inside n [] h f e = absurd (Memᴰ.not-nil e)
run_inside n (g ∷ fs) h f e =
    ⊎_elim
    (λ (q : f ≡ g). rw q h.0)
    (λ q. run_inside n fs h.1 f q)
    (Memᴰ.cases_cons e)

owned-within : (n : ℕ) (fs : List Field) → Inside n fs → (f : Field) → Memᴰ f fs → (i : ℕ) → owned_by f i ≡ true → i < n
owned-within n fs h f e i o = omega (arith, run_inside n fs h f e, (owned-says f i o).1)

-- ---- the hash

-- records whose runs have the same bytes that are compared have one hash
hash-each : (m : Factors) (h g : ℕ) (fs : List Field) (a b : List ℕ) → ((f : Field) → Memᴰ f fs → compared_of f a ≡ compared_of f b) → hash_runs m h g fs a ≡ hash_runs m h g fs b
unfolding hash_runs
hash-each m h g [] a b e = refl
hash-each m h g (f ∷ fs) a b e =
    rw (e f (Memᴰ.head refl)) (hash-each m g (hash_bytes m h (compared_of f b)) fs a b (λ k q. e k (Memᴰ.tail q)))

-- so a record and its image have
pub hash-image : (m : Factors) (rs : List Field) (r : List ℕ) (n : ℕ) → Inside n rs → length r ≡ n → hash_of m rs (image_from rs r 0 n) ≡ hash_of m rs r
unfolding hash_of
hash-image m rs r n h l =
    ap (λ (k : ℕ × ℕ). join_hashes_of m k.0 k.1) (hash-each m 1 1 rs (image_from rs r 0 n) r
    (λ f e. both_compared n f (owned-within n rs h f e) (image_from rs r 0 n) r (length-image rs r 0 n) l (both_each rs n (image_from rs r 0 n) r (both_image rs n r) f e)))

-- ---- equal images

module _ (rs : List Field) (n : ℕ) (a b : List ℕ) where
  both_same : BothSay n (counted_in rs) a b → true ≡ same_words (image_from rs a 0 n) (image_from rs b 0 n)
  both_same h = rw (both_images rs n a b h) (sym (same_words_refl (image_from rs b 0 n)))

  -- records that are equal
  pub images_of-equal : {r : Bool} → r ≡ equal_range_of a b 0 n → r ≡ true → true ≡ same_words (image_from rs a 0 n) (image_from rs b 0 n)
  images_of-equal e t =
      both_same (unfold BothSay in λ i l x y.
      let z : 0 + i ≡ i = omega arith in
      rw z at (range_says a b 0 n (sym e ∙ t) i l))

  module _ (h : Inside n rs) where
    apart : FieldsDiffer rs a b → same_words (image_from rs a 0 n) (image_from rs b 0 n) ≡ true → ⊥
    apart d q =
        let s = counted-some rs a d.place d.first in
        let l = owned-within n rs h s.field s.listed d.place (counted-owned s.field a d.place s.passes) in
        d.differs (sym (taken-counted rs a d.place d.first) ∙ images_at rs n a b (same_words_true (image_from rs a 0 n) (image_from rs b 0 n) q) d.place l ∙ taken-counted rs b d.place d.second)

    -- by what is told of the runs
    pub images_told : (r : Bool) → SameIn rs a b r → r ≡ same_words (image_from rs a 0 n) (image_from rs b 0 n)
    images_told true w = both_same (unfold BothSay in λ i l x y. (w.same refl).equal i x)
    images_told false w = sym (not-true-false (same_words (image_from rs a 0 n) (image_from rs b 0 n)) (apart (w.differs refl)))
