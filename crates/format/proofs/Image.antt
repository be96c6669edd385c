-- Which bytes a field counts, images of records for any list of fields, and one field by itself.
use Prim.Native.Nat.{ℕ, zero, suc, ◌+◌, ◌-◌, ◌<◌, ◌≤◌}
use mathlib.Core.Path.{◌≡◌, refl, sym, ap, subst, ◌∙◌}
use mathlib.Core.Logic.{⊎_elim}
use mathlib.Core.Bool.{Bool, true, false, not, ◌||◌, false≢true}
use mathlib.Core.List.Memᴰ
use mathlib.Core.List.{List, [], ◌∷◌, Memᴰ}
use native.Mathlib.Nat.{eq-or-lt_of_le}
use native.Mathlib.Omega.{arith}
use lib.ListN.{length, get_or, take, drop}
use lib.Seq.{ext_get_or, get_or-take, get_or-drop}
use lib.Dec.{leb, ltb, eqb}
use borrow.Author.Tests.{ltb-true, ltb-false, lt-ltb, leb-true, le-leb, eqb-true, eqb-false, not-true, not-false}
use Rattle.format.specs.Image.{Field, no_nul_between, owned_by, counted_by, some_field, counted_in, taken_in, image_from, up_to_nul, bytes_of, compared_of}
use Rattle.format.proofs.Booleans.{and_both, and_true, and_either, or_either, or_neither, or_second, true_or_false}
use Rattle.format.proofs.Lists.{length_part}

-- ---- what one field counts

-- some field of a list passes a test
pub record Some (test : Field → Bool) (fs : List Field) : Type 0 where
  pub field : Field
  pub listed : Memᴰ field fs
  pub passes : test field ≡ true

pub some-sound : (test : Field → Bool) (fs : List Field) → some_field test fs ≡ true → Some test fs
unfolding some_field
some-sound test [] h = absurd (false≢true h)
some-sound test (f ∷ fs) h =
    ⊎_elim
    (λ p. record { field = f; listed = Memᴰ.head refl; passes = p })
    (λ p. let w = some-sound test fs p in record { field = w.field; listed = Memᴰ.tail w.listed; passes = w.passes })
    (or_either (test f) (some_field test fs) h)

pub some_complete : (test : Field → Bool) (fs : List Field) (f : Field) → Memᴰ f fs → test f ≡ true → some_field test fs ≡ true
unfolding some_field
some_complete test [] f m h = absurd (Memᴰ.not-nil m)
some_complete test (g ∷ fs) f m h =
    ⊎_elim
    (λ e. let q : test g ≡ true = ap test (sym e) ∙ h in rw q)
    (λ n. or_second (test g) (some_field test fs) (some_complete test fs f n h))
    (Memᴰ.cases_cons m)

-- what is tested at one place of a string that begins at place p
module _ (p i : ℕ) where
  at-place-says : (x : ℕ) → (ltb i p || not (eqb x 0)) ≡ true → p ≤ i → x ≡ 0 → ⊥
  at-place-says x h l =
      ⊎_elim
      (λ q. absurd (omega (arith, ltb-true i p q)))
      (λ q. eqb-false x 0 (not-true (eqb x 0) q))
      (or_either (ltb i p) (not (eqb x 0)) h)

  at-place-nul : (x : ℕ) → (ltb i p || not (eqb x 0)) ≡ false → (p ≤ i) × (x ≡ 0)
  at-place-nul x h = let q = or_neither (ltb i p) (not (eqb x 0)) h in (ltb-false i p q.0, eqb-true x 0 (not-false (eqb x 0) q.1))

  at-place-same : (x y : ℕ) → (p ≤ i → x ≡ y) → (ltb i p || not (eqb x 0)) ≡ true → (ltb i p || not (eqb y 0)) ≡ true
  at-place-same x y e h = go (ltb i p) refl h
    where
      go : (c : Bool) → ltb i p ≡ c → (c || not (eqb x 0)) ≡ true → (c || not (eqb y 0)) ≡ true
      go true q h = refl
      go false q h = rw (← e (ltb-false i p q)) h

module _ (r : List ℕ) (p : ℕ) where
  pub no_nul-says : (i : ℕ) → no_nul_between r p i ≡ true → (j : ℕ) → p ≤ j → j < i → get_or r j 0 ≡ 0 → ⊥
  unfolding no_nul_between
  no_nul-says zero h j l m = absurd (omega arith)
  no_nul-says (suc i) h j l m =
      let q = and_both (ltb i p || not (eqb (get_or r i 0) 0)) (no_nul_between r p i) h in
      ⊎_elim
      (λ e. let u : i ≡ j = sym e in subst (λ (k : ℕ). get_or r k 0 ≡ 0 → ⊥) u (at-place-says p i (get_or r i 0) q.0 (omega arith)))
      (λ g. no_nul-says i q.1 j l g)
      (eq-or-lt_of_le {n = j} {m = i} (omega arith))

  pub some-nul : (i : ℕ) → no_nul_between r p i ≡ false → (j : ℕ) × (p ≤ j) × (j < i) × (get_or r j 0 ≡ 0)
  unfolding no_nul_between
  some-nul zero h = absurd (false≢true (sym h))
  some-nul (suc i) h =
      ⊎_elim
      (λ q. let w = at-place-nul p i (get_or r i 0) q in (i, w.0, omega arith, w.1))
      (λ q. let w = some-nul i q in (w.0, w.1, omega (arith, w.2), w.3))
      (and_either (ltb i p || not (eqb (get_or r i 0) 0)) (no_nul_between r p i) h)

  pub no_nul_if : (i : ℕ) → ((j : ℕ) → p ≤ j → j < i → get_or r j 0 ≡ 0 → ⊥) → no_nul_between r p i ≡ true
  no_nul_if i h =
      ⊎_elim (λ e. e) (λ e. let w = some-nul i e in absurd (h w.0 w.1 w.2 w.3)) (true_or_false (no_nul_between r p i))

module _ (f : Field) (r : List ℕ) (i : ℕ) where
  pub counted-owned : counted_by f r i ≡ true → owned_by f i ≡ true
  unfolding counted_by
  counted-owned h = (and_both (owned_by f i) (not f.ended || no_nul_between r f.place i) h).0

  pub counted_no_nul : counted_by f r i ≡ true → f.ended ≡ true → no_nul_between r f.place i ≡ true
  unfolding counted_by
  counted_no_nul h e = rw e at (and_both (owned_by f i) (not f.ended || no_nul_between r f.place i) h).1

  pub counted_if : owned_by f i ≡ true → (f.ended ≡ true → no_nul_between r f.place i ≡ true) → counted_by f r i ≡ true
  unfolding counted_by
  counted_if o n = rw o (go f.ended refl)
    where
      go : (c : Bool) → f.ended ≡ c → (not c || no_nul_between r f.place i) ≡ true
      go true e = n e
      go false e = refl

module _ (f : Field) (i : ℕ) where
  pub owned-says : owned_by f i ≡ true → (f.place ≤ i) × (i < f.place + f.size)
  unfolding owned_by
  owned-says h =
      let q = and_both (leb f.place i) (ltb i (f.place + f.size)) h in
      (leb-true f.place i q.0, ltb-true i (f.place + f.size) q.1)

  pub owned_if : f.place ≤ i → i < f.place + f.size → owned_by f i ≡ true
  unfolding owned_by
  owned_if l m = and_true _ _ (le-leb f.place i l) (lt-ltb i (f.place + f.size) m)

-- ---- two records, of which the places below n are looked at

-- at each place that a test says counts in both the bytes are equal
unfoldable pub BothSay : (n : ℕ) (f : List ℕ → ℕ → Bool) (a b : List ℕ) → Type 0
BothSay n f a b = (i : ℕ) → i < n → f a i ≡ true → f b i ≡ true → get_or a i 0 ≡ get_or b i 0

pub both_turned : (n : ℕ) (f : List ℕ → ℕ → Bool) (a b : List ℕ) → BothSay n f a b → BothSay n f b a
unfolding BothSay
both_turned n f a b h i l x y = sym (h i l y x)

-- The one induction: what a field counts in the one record it counts in the other, since the bytes before are equal and no NUL.
module _ (n : ℕ) (f : Field) (a b : List ℕ) (h : BothSay n (counted_by f) a b) where
  no_nul-either : f.ended ≡ true → (i : ℕ) → i ≤ n → i ≤ f.place + f.size → no_nul_between a f.place i ≡ true → no_nul_between b f.place i ≡ true
  unfolding no_nul_between BothSay
  no_nul-either e zero l m x = refl
  no_nul-either e (suc i) l m x =
      let q = and_both (ltb i f.place || not (eqb (get_or a i 0) 0)) (no_nul_between a f.place i) x in
      let y = no_nul-either e i (omega arith) (omega arith) q.1 in
      let s : f.place ≤ i → get_or a i 0 ≡ get_or b i 0 =
      λ g. let o = owned_if f i g (omega arith) in h i (omega arith) (counted_if f a i o (λ z. q.1)) (counted_if f b i o (λ z. y)) in
      and_true _ _ (at-place-same f.place i (get_or a i 0) (get_or b i 0) s q.0) y

  pub counted-either : (i : ℕ) → i < n → counted_by f a i ≡ true → counted_by f b i ≡ true
  counted-either i l x =
      let o = counted-owned f a i x in
      let w = owned-says f i o in
      counted_if f b i o (λ e. no_nul-either e i (omega arith) (omega arith) (counted_no_nul f a i x e))

-- ---- images of records, for any list of fields

module _ (fs : List Field) where
  pub counted-listed : (r : List ℕ) (i : ℕ) (f : Field) → Memᴰ f fs → counted_by f r i ≡ true → counted_in fs r i ≡ true
  unfolding counted_in
  counted-listed r i f m h = some_complete (λ g. counted_by g r i) fs f m h

  pub counted-some : (r : List ℕ) (i : ℕ) → counted_in fs r i ≡ true → Some (λ g. counted_by g r i) fs
  unfolding counted_in
  counted-some r i h = some-sound (λ g. counted_by g r i) fs h

  pub taken-counted : (r : List ℕ) (i : ℕ) → counted_in fs r i ≡ true → taken_in fs r i ≡ get_or r i 0
  unfolding taken_in
  taken-counted r i h = rw h

  pub taken-zero : (r : List ℕ) (i : ℕ) → counted_in fs r i ≡ false → taken_in fs r i ≡ 0
  unfolding taken_in
  taken-zero r i h = rw h

  pub length-image : (r : List ℕ) (i n : ℕ) → length (image_from fs r i n) ≡ n
  unfolding image_from
  length-image r i zero = refl
  length-image r i (suc n) = ap suc (length-image r (suc i) n)

  pub image-at : (r : List ℕ) (i n k : ℕ) → k < n → get_or (image_from fs r i n) k 0 ≡ taken_in fs r (i + k)
  unfolding image_from
  image-at r i zero k l = absurd (omega arith)
  image-at r i (suc n) zero l = let e : i + 0 ≡ i = omega arith in rw e
  image-at r i (suc n) (suc k) l = let e : i + suc k ≡ suc i + k = omega arith in rw e (image-at r (suc i) n k (omega arith))

  module _ (n : ℕ) (a b : List ℕ) where
    pub images_at : image_from fs a 0 n ≡ image_from fs b 0 n → (i : ℕ) → i < n → taken_in fs a i ≡ taken_in fs b i
    images_at e i l =
        let z : 0 + i ≡ i = omega arith in
        rw z at (sym (image-at a 0 n i l) ∙ ap (λ (s : List ℕ). get_or s i 0) e ∙ image-at b 0 n i l)

    pub images_equal : ((i : ℕ) → i < n → taken_in fs a i ≡ taken_in fs b i) → image_from fs a 0 n ≡ image_from fs b 0 n
    images_equal h =
        ext_get_or 0 (image_from fs a 0 n) (image_from fs b 0 n) (length-image a 0 n ∙ sym (length-image b 0 n))
        (λ i l. let m : i < n = omega (arith, length-image a 0 n) in image-at a 0 n i m ∙ h (0 + i) (omega arith) ∙ sym (image-at b 0 n i m))

    -- equal images have equal bytes where both count
    pub images_both : image_from fs a 0 n ≡ image_from fs b 0 n → BothSay n (counted_in fs) a b
    unfolding BothSay
    images_both e i l x y = sym (taken-counted a i x) ∙ images_at e i l ∙ taken-counted b i y

    -- and so each field by itself
    pub both_each : BothSay n (counted_in fs) a b → (f : Field) → Memᴰ f fs → BothSay n (counted_by f) a b
    unfolding BothSay
    both_each h f m i l x y = h i l (counted-listed a i f m x) (counted-listed b i f m y)

  -- where each field by itself agrees, what counts in the one record counts in the other
  each-counted : (n : ℕ) (a b : List ℕ) → ((f : Field) → Memᴰ f fs → BothSay n (counted_by f) a b) → (i : ℕ) → i < n → counted_in fs a i ≡ true
      → (counted_in fs b i ≡ true) × (get_or a i 0 ≡ get_or b i 0)
  unfolding BothSay
  each-counted n a b h i l x =
      let w = counted-some a i x in
      let g = h w.field w.listed in
      let y = counted-either n w.field a b g i l w.passes in
      (counted-listed b i w.field w.listed y, g i l w.passes y)

  -- and the images are equal
  pub each_images : (n : ℕ) (a b : List ℕ) → ((f : Field) → Memᴰ f fs → BothSay n (counted_by f) a b) → image_from fs a 0 n ≡ image_from fs b 0 n
  each_images n a b h = images_equal n a b (λ i l. go i l (counted_in fs a i) refl (counted_in fs b i) refl)
    where
      go : (i : ℕ) → i < n → (c : Bool) → counted_in fs a i ≡ c → (d : Bool) → counted_in fs b i ≡ d → taken_in fs a i ≡ taken_in fs b i
      go i l true x d y = let w = each-counted n a b h i l x in taken-counted a i x ∙ w.1 ∙ sym (taken-counted b i w.0)
      go i l false x true y = absurd (false≢true (sym x ∙ (each-counted n b a (λ f m. both_turned n (counted_by f) a b (h f m)) i l y).0))
      go i l false x false y = taken-zero a i x ∙ sym (taken-zero b i y)

  -- a record and its image agree
  pub both_image : (n : ℕ) (r : List ℕ) → BothSay n (counted_in fs) (image_from fs r 0 n) r
  unfolding BothSay
  both_image n r i l x y = let e : 0 + i ≡ i = omega arith in image-at r 0 n i l ∙ rw e (taken-counted r i y)

-- the two forms of agreement at places that count
module _ (fs : List Field) (n : ℕ) (a b : List ℕ) where
  pub both_images : BothSay n (counted_in fs) a b → image_from fs a 0 n ≡ image_from fs b 0 n
  both_images h = each_images fs n a b (both_each fs n a b h)

pub image-again : (fs : List Field) (n : ℕ) (r : List ℕ) → image_from fs (image_from fs r 0 n) 0 n ≡ image_from fs r 0 n
image-again fs n r = both_images fs n (image_from fs r 0 n) r (both_image fs n r)

-- ---- one field by itself

-- bytes up to and with the first NUL
up_to_says : (x y : List ℕ) → up_to_nul x ≡ up_to_nul y → (k : ℕ) → ((j : ℕ) → j < k → get_or x j 0 ≡ 0 → ⊥) → get_or x k 0 ≡ get_or y k 0
unfolding up_to_nul
up_to_says [] [] e k h = refl
up_to_says [] (zero ∷ y) e k h = cc
up_to_says [] (suc d ∷ y) e k h = cc
up_to_says (zero ∷ x) [] e k h = cc
up_to_says (zero ∷ x) (zero ∷ y) e zero h = refl
up_to_says (zero ∷ x) (zero ∷ y) e (suc k) h = absurd (h 0 (omega arith) refl)
up_to_says (zero ∷ x) (suc d ∷ y) e k h = let q : 0 ≡ suc d = cc in absurd (omega arith)
up_to_says (suc c ∷ x) [] e k h = cc
up_to_says (suc c ∷ x) (zero ∷ y) e k h = let q : suc c ≡ 0 = cc in absurd (omega arith)
up_to_says (suc c ∷ x) (suc d ∷ y) e zero h = cc
up_to_says (suc c ∷ x) (suc d ∷ y) e (suc k) h = up_to_says x y (cc) k (λ j l. h (suc j) (omega arith))

up_to_holds : (x y : List ℕ) → length x ≡ length y → ((k : ℕ) → k < length x → ((j : ℕ) → j < k → get_or x j 0 ≡ 0 → ⊥) → get_or x k 0 ≡ get_or y k 0) → up_to_nul x ≡ up_to_nul y
unfolding up_to_nul
up_to_holds [] [] e h = refl
up_to_holds [] (d ∷ y) e h = absurd (omega arith)
up_to_holds (c ∷ x) [] e h = absurd (omega arith)
up_to_holds (zero ∷ x) (zero ∷ y) e h = refl
up_to_holds (zero ∷ x) (suc d ∷ y) e h = absurd (omega (arith, h 0 (omega arith) (λ j l. absurd (omega arith))))
up_to_holds (suc c ∷ x) (zero ∷ y) e h = absurd (omega (arith, h 0 (omega arith) (λ j l. absurd (omega arith))))
up_to_holds (suc c ∷ x) (suc d ∷ y) e h =
    let q : suc c ≡ suc d = h 0 (omega arith) (λ j l. absurd (omega arith)) in
    let s = up_to_holds x y (omega arith) (λ k l n. h (suc k) (omega arith) (elim_first c x k n)) in
    cc
  where
    elim_first : (c : ℕ) (x : List ℕ) (k : ℕ) → ((j : ℕ) → j < k → get_or x j 0 ≡ 0 → ⊥) → (j : ℕ) → j < suc k → get_or (suc c ∷ x) j 0 ≡ 0 → ⊥
    elim_first c x k n zero l e = omega arith
    elim_first c x k n (suc j) l e = n j (omega arith) e

byte_of : (f : Field) (r : List ℕ) (k : ℕ) → k < f.size → get_or (bytes_of f r) k 0 ≡ get_or r (f.place + k) 0
unfolding bytes_of
byte_of f r k l = get_or-take f.size (drop f.place r) k 0 l ∙ get_or-drop f.place r k 0

module _ (f : Field) (r : List ℕ) where
  compared_whole : f.ended ≡ false → compared_of f r ≡ bytes_of f r
  unfolding compared_of
  compared_whole e = rw e

  compared-ended : f.ended ≡ true → compared_of f r ≡ up_to_nul (bytes_of f r)
  unfolding compared_of
  compared-ended e = rw e

-- a field whose compared bytes are equal has equal bytes where it counts
module _ (f : Field) (a b : List ℕ) (e : compared_of f a ≡ compared_of f b) where
  bytes-at : (k : ℕ) → k < f.size → counted_by f a (f.place + k) ≡ true → get_or (bytes_of f a) k 0 ≡ get_or (bytes_of f b) k 0
  bytes-at k l x = go f.ended refl
    where
      go : (c : Bool) → f.ended ≡ c → get_or (bytes_of f a) k 0 ≡ get_or (bytes_of f b) k 0
      go true q =
          up_to_says (bytes_of f a) (bytes_of f b) (sym (compared-ended f a q) ∙ e ∙ compared-ended f b q) k
          (λ j m z. no_nul-says a f.place (f.place + k) (counted_no_nul f a (f.place + k) x q) (f.place + j) (omega arith) (omega arith) (sym (byte_of f a j (omega arith)) ∙ z))
      go false q = ap (λ (s : List ℕ). get_or s k 0) (sym (compared_whole f a q) ∙ e ∙ compared_whole f b q)

  pub compared_both : (n : ℕ) → BothSay n (counted_by f) a b
  unfolding BothSay
  compared_both n i l x y =
      let w = owned-says f i (counted-owned f a i x) in
      let k : f.place + (i - f.place) ≡ i = omega (arith, w.0) in
      let g : i - f.place < f.size = omega (arith, w.0, w.1) in
      rw k at (sym (byte_of f a (i - f.place) g) ∙ bytes-at (i - f.place) g (rw k x) ∙ byte_of f b (i - f.place) g)

-- and the other way, of a field that lies in both records
module _ (n : ℕ) (f : Field) (w : (i : ℕ) → owned_by f i ≡ true → i < n) where
  length-bytes : (r : List ℕ) → length r ≡ n → length (bytes_of f r) ≡ f.size
  unfolding bytes_of
  length-bytes r e = go f.size refl
    where
      go : (m : ℕ) → f.size ≡ m → length (take m (drop f.place r)) ≡ m
      go zero q = refl
      go (suc m) q = length_part r f.place (suc m) (omega (arith, w (f.place + m) (owned_if f (f.place + m) (omega arith) (omega arith))))

  module _ (a b : List ℕ) (la : length a ≡ n) (lb : length b ≡ n) (h : BothSay n (counted_by f) a b) where
    counted_byte : (k : ℕ) → k < f.size → counted_by f a (f.place + k) ≡ true → get_or (bytes_of f a) k 0 ≡ get_or (bytes_of f b) k 0
    unfolding BothSay
    counted_byte k l x =
        let m = w (f.place + k) (counted-owned f a (f.place + k) x) in
        byte_of f a k l ∙ h (f.place + k) m x (counted-either n f a b h (f.place + k) m x) ∙ sym (byte_of f b k l)

    pub both_compared : compared_of f a ≡ compared_of f b
    both_compared = go f.ended refl
      where
        long : length (bytes_of f a) ≡ length (bytes_of f b)
        long = length-bytes a la ∙ sym (length-bytes b lb)

        here : (k : ℕ) → k < length (bytes_of f a) → k < f.size
        here k l = omega (arith, length-bytes a la)

        at : (k : ℕ) → k < f.size → owned_by f (f.place + k) ≡ true
        at k l = owned_if f (f.place + k) (omega arith) (omega arith)

        go : (c : Bool) → f.ended ≡ c → compared_of f a ≡ compared_of f b
        go true q =
            compared-ended f a q
            ∙ up_to_holds (bytes_of f a) (bytes_of f b) long
            (λ k l z. counted_byte k (here k l) (counted_if f a (f.place + k) (at k (here k l)) (λ u. no_nul_if a f.place (f.place + k)
            (λ j g m x.
            let v : f.place + (j - f.place) ≡ j = omega arith in
            z (j - f.place) (omega arith) (byte_of f a (j - f.place) (omega (arith, here k l)) ∙ rw v x)))))
            ∙ sym (compared-ended f b q)
        go false q =
            compared_whole f a q
            ∙ ext_get_or 0 (bytes_of f a) (bytes_of f b) long
            (λ k l. counted_byte k (here k l) (counted_if f a (f.place + k) (at k (here k l)) (λ u. absurd (false≢true (sym q ∙ u)))))
            ∙ sym (compared_whole f b q)
