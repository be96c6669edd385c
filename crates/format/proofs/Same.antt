-- When two records of a type are the same: by their images, at the places that a field owns, and field by field.
use Prim.Native.Nat.{ℕ, suc, ◌+◌, ◌<◌}
use mathlib.Core.Path.{◌≡◌, refl, sym, ap, ◌∙◌}
use mathlib.Core.Logic.{◌⊎◌, inl, inr, ⊎_elim}
use mathlib.Core.Bool.{Bool, true, false, not, ◌||◌, false≢true}
use mathlib.Core.List.{List, [], ◌∷◌, Memᴰ}
use mathlib.Core.Option.{none}
use native.Mathlib.Omega.{arith}
use lib.ListN.{length, get_or}
use lib.Dec.{eqb}
use borrow.Author.Tests.{eqb-true, eqb-false, not-false}
use Rattle.format.specs.Datatype.{Leaf, fixed_point, floating_point, time, string, bit_field, opaque, reference, Datatype, leaf, compound, enumeration, variable_length, array, type_size_of}
use Rattle.format.specs.Outcome.{gives}
use Rattle.format.specs.Slots.{first_zero}
use Rattle.format.specs.Table.{same_words}
use Rattle.format.specs.Image.{Field, leaf_ends, ends, field_of, fields_of, no_nul_between, owned_by, counted_by, counted_in, counts, taken, image, agree, compared_of}
use Rattle.format.specs.Ownership.{Owned, PastEnd, TakenAsZero, TakenAs, owned, outside, heap_held, comparing_records}
use Rattle.format.proofs.Booleans.{and_either, or_neither, not-true-false, true_or_false}
use Rattle.format.proofs.Ownership.{owned-sound, owned_complete, owned_inside, records-given}
use Rattle.format.proofs.Rows.{same_words_refl, same_words_true}
use Rattle.format.proofs.Fields.{fields-sound, fields_complete}
use Rattle.format.proofs.Image.{no_nul-says, some-nul, counted-owned, counted_no_nul, owned-says, owned_if, BothSay, counted-listed, counted-some, taken-counted, taken-zero, length-image, image-at, images_at, images_equal, images_both, both_each, each_images, both_images, image-again, compared_both, both_compared}

-- ---- the bytes that a field on the list owns are the type's

pub listed-owned : (t : Datatype) (f : Field) (i : ℕ) → Memᴰ f (fields_of t) → owned_by f i ≡ true → Owned t i
unfolding field_of
listed-owned t f i m h =
    let w = fields-sound t f m in
    let o = owned-says f i h in
    record {
      field = w.type;
      place = w.place;
      reached = w.reached;
      from = omega (arith, o.0, ap (λ (g : Field). g.place) w.is);
      below = omega (arith, o.1, ap (λ (g : Field). g.place) w.is, ap (λ (g : Field). g.size) w.is);
    }

pub listed-inside : (t : Datatype) → outside t ≡ false → (f : Field) → Memᴰ f (fields_of t) → (i : ℕ) → owned_by f i ≡ true → i < type_size_of t
listed-inside t o f m i h = owned_inside t i o (owned_complete t i (listed-owned t f i m h))

pub counts-owned : (t : Datatype) (r : List ℕ) (i : ℕ) → counts t r i ≡ true → Owned t i
unfolding counts
counts-owned t r i h = let w = counted-some (fields_of t) r i h in listed-owned t w.field i w.listed (counted-owned w.field r i w.passes)

-- ---- "a byte is taken as zero only if every field that owns it is such a string and past its end there"

leaf-string : (n : ℕ) (x : Leaf) → leaf_ends x ≡ true → (c : ℕ) × (leaf n x ≡ leaf n (string 0 c))
unfolding leaf_ends
leaf-string n (fixed_point o s f q) h = absurd (false≢true h)
leaf-string n (floating_point o y) h = absurd (false≢true h)
leaf-string n (time o q) h = absurd (false≢true h)
leaf-string n (string a c) h = (c, rw (eqb-true a 0 h))
leaf-string n (bit_field o f q) h = absurd (false≢true h)
leaf-string n (opaque g) h = absurd (false≢true h)
leaf-string n (reference k) h = absurd (false≢true h)

ends-string : (x : Datatype) → ends x ≡ true → (n : ℕ) × (c : ℕ) × (x ≡ leaf n (string 0 c))
unfolding ends
ends-string (leaf n x) h = let w = leaf-string n x h in (n, w.0, w.1)
ends-string (compound n ms) h = absurd (false≢true h)
ends-string (enumeration n t ms) h = absurd (false≢true h)
ends-string (variable_length i a c t) h = absurd (false≢true h)
ends-string (array ds t) h = absurd (false≢true h)

string-ends : (x : Datatype) (n c : ℕ) → x ≡ leaf n (string 0 c) → ends x ≡ true
unfolding ends leaf_ends
string-ends x n c e = rw e

-- a field that owns a place and does not count it
past_end : (x : Datatype) (p : ℕ) (r : List ℕ) (i : ℕ) → owned_by (field_of x p) i ≡ true → counted_by (field_of x p) r i ≡ false → PastEnd r x p i
unfolding field_of counted_by
past_end x p r i o h =
    let q = or_neither (not (ends x)) (no_nul_between r p i) (⊎_elim (λ e. absurd (false≢true (sym e ∙ o))) (λ e. e) (and_either (owned_by (field_of x p) i) (not (ends x) || no_nul_between r p i) h)) in
    let s = ends-string x (not-false (ends x) q.0) in
    let w = some-nul r p i q.1 in
    record { size = s.0; charset = s.1; is-string = s.2; nul = w.0; from = w.1; before = w.2; is-nul = w.3 }

past-not-counted : (x : Datatype) (p : ℕ) (r : List ℕ) (i : ℕ) → PastEnd r x p i → counted_by (field_of x p) r i ≡ true → ⊥
unfolding field_of
past-not-counted x p r i w h =
    no_nul-says r p i (counted_no_nul (field_of x p) r i h (string-ends x w.size w.charset w.is-string)) w.nul w.from w.before w.is-nul

-- the test and the document's words say the same
module _ (t : Datatype) (r : List ℕ) (i : ℕ) where
  pub not-counted-zero : Owned t i → counts t r i ≡ false → TakenAsZero t r i
  unfolding field_of counts
  not-counted-zero w h =
      record {
        is-owned = w;
        every = λ x p g l m. past_end x p r i (owned_if (field_of x p) i l m)
            (not-true-false (counted_by (field_of x p) r i) (λ e. false≢true (sym h ∙ counted-listed (fields_of t) r i (field_of x p) (fields_complete t x p g) e)));
      }

  pub zero-not-counted : TakenAsZero t r i → counts t r i ≡ false
  unfolding counts field_of
  zero-not-counted z = not-true-false (counted_in (fields_of t) r i) (λ h.
      let s = counted-some (fields_of t) r i h in
      let w = fields-sound t s.field s.listed in
      let c : counted_by (field_of w.type w.place) r i ≡ true = ap (λ (f : Field). counted_by f r i) (sym w.is) ∙ s.passes in
      let o = owned-says (field_of w.type w.place) i (counted-owned (field_of w.type w.place) r i c) in
      past-not-counted w.type w.place r i (z.every w.type w.place w.reached o.0 o.1) c)

  -- a byte is the record's, or 0 where the document says so or no field owns it
  pub taken_is : counts t r i ≡ true → taken t r i ≡ get_or r i 0
  unfolding taken counts
  taken_is h = taken-counted (fields_of t) r i h

  pub taken_as_zero : TakenAsZero t r i → taken t r i ≡ 0
  unfolding taken counts
  taken_as_zero z = taken-zero (fields_of t) r i (zero-not-counted z)

  -- what the document's words say of an owned byte, `taken` is, and it is that only
  pub taken_as : Owned t i → TakenAs t r i (taken t r i)
  unfolding TakenAs
  taken_as w =
      ⊎_elim
      (λ h. inr ((λ z. false≢true (sym (zero-not-counted z) ∙ h)), taken_is h))
      (λ h. let z = not-counted-zero w h in inl (z, taken_as_zero z))
      (true_or_false (counts t r i))

  pub taken-only : Owned t i → (x : ℕ) → TakenAs t r i x → x ≡ taken t r i
  unfolding TakenAs
  taken-only w x (inl (z, e)) = e ∙ sym (taken_as_zero z)
  taken-only w x (inr (n, e)) =
      ⊎_elim
      (λ h. e ∙ sym (taken_is h))
      (λ h. absurd (n (not-counted-zero w h)))
      (true_or_false (counts t r i))

  pub taken-not-owned : (Owned t i → ⊥) → taken t r i ≡ 0
  unfolding taken counts
  taken-not-owned n = taken-zero (fields_of t) r i (not-true-false (counts t r i) (λ h. n (counts-owned t r i h)))

-- ---- images

pub image-length : (t : Datatype) (r : List ℕ) → length (image t r) ≡ type_size_of t
unfolding image
image-length t r = length-image (fields_of t) r 0 (type_size_of t)

pub image_byte : (t : Datatype) (r : List ℕ) (i : ℕ) → i < type_size_of t → get_or (image t r) i 0 ≡ taken t r i
unfolding image taken
image_byte t r i l = let e : 0 + i ≡ i = omega arith in rw e at (image-at (fields_of t) r 0 (type_size_of t) i l)

-- the image of an image is the image
pub image-image : (t : Datatype) (r : List ℕ) → image t (image t r) ≡ image t r
unfolding image
image-image t r = image-again (fields_of t) (type_size_of t) r

-- "agree" is equality of images; so same is an equivalence, and a record is the same as its image
module _ (t : Datatype) where
  pub agree-says : (a b : List ℕ) → agree t a b ≡ true → image t a ≡ image t b
  unfolding agree
  agree-says a b h = same_words_true (image t a) (image t b) h

  pub agree-holds : (a b : List ℕ) → image t a ≡ image t b → agree t a b ≡ true
  unfolding agree
  agree-holds a b e = rw e (same_words_refl (image t b))

  pub agree_reflexive : (a : List ℕ) → agree t a a ≡ true
  agree_reflexive a = agree-holds a a refl

  pub agree_symmetric : (a b : List ℕ) → agree t a b ≡ true → agree t b a ≡ true
  agree_symmetric a b h = agree-holds b a (sym (agree-says a b h))

  pub agree_transitive : (a b c : List ℕ) → agree t a b ≡ true → agree t b c ≡ true → agree t a c ≡ true
  agree_transitive a b c h k = agree-holds a c (agree-says a b h ∙ agree-says b c k)

  pub agree-image : (r : List ℕ) → agree t r (image t r) ≡ true
  agree-image r = agree-holds r (image t r) (sym (image-image t r))

-- ---- the bytes as taken at the places that a field owns

module _ (t : Datatype) (a b : List ℕ) where
  pub images_taken : image t a ≡ image t b → (i : ℕ) → i < type_size_of t → taken t a i ≡ taken t b i
  unfolding image taken
  images_taken e i l = images_at (fields_of t) (type_size_of t) a b e i l

  pub taken_images : ((i : ℕ) → i < type_size_of t → taken t a i ≡ taken t b i) → image t a ≡ image t b
  unfolding image taken
  taken_images h = images_equal (fields_of t) (type_size_of t) a b h

  pub owned_images : ((i : ℕ) → i < type_size_of t → owned t i ≡ true → taken t a i ≡ taken t b i) → image t a ≡ image t b
  owned_images h = taken_images (λ i l. go i l (owned t i) refl)
    where
      go : (i : ℕ) → i < type_size_of t → (c : Bool) → owned t i ≡ c → taken t a i ≡ taken t b i
      go i l true e = h i l e
      go i l false e =
          let n : Owned t i → ⊥ = λ w. false≢true (sym e ∙ owned_complete t i w) in
          taken-not-owned t a i n ∙ sym (taken-not-owned t b i n)

-- ---- L1: field by field, overlaps or not

module _ (t : Datatype) (a b : List ℕ) where
  -- where every field by itself agrees, the images are equal: no premise
  pub fields_images : ((f : Field) → Memᴰ f (fields_of t) → compared_of f a ≡ compared_of f b) → image t a ≡ image t b
  unfolding image
  fields_images h = each_images (fields_of t) (type_size_of t) a b (λ f m. compared_both f a b (h f m) (type_size_of t))

  -- and the other way, of records of the type's size, no member reaching outside
  pub images_fields : outside t ≡ false → length a ≡ type_size_of t → length b ≡ type_size_of t → image t a ≡ image t b
      → (f : Field) → Memᴰ f (fields_of t) → compared_of f a ≡ compared_of f b
  unfolding image
  images_fields o la lb e f m =
      both_compared (type_size_of t) f (listed-inside t o f m) a b la lb
      (both_each (fields_of t) (type_size_of t) a b (images_both (fields_of t) (type_size_of t) a b e) f m)

-- ---- for the walk: equal bytes wherever the first record counts are enough, and one place that both count and where they differ is too

module _ (t : Datatype) (a b : List ℕ) where
  pub counted-agree : ((i : ℕ) → i < type_size_of t → counts t a i ≡ true → get_or a i 0 ≡ get_or b i 0) → agree t a b ≡ true
  unfolding counts image
  counted-agree h = agree-holds t a b (both_images (fields_of t) (type_size_of t) a b (unfold BothSay in λ i l x y. h i l x))

  pub counted_differ : (i : ℕ) → i < type_size_of t → counts t a i ≡ true → counts t b i ≡ true → (get_or a i 0 ≡ get_or b i 0 → ⊥) → agree t a b ≡ false
  counted_differ i l x y n =
      not-true-false (agree t a b) (λ h. n (sym (taken_is t a i x) ∙ images_taken t a b (agree-says t a b h) i l ∙ taken_is t b i y))

  -- records with equal bytes at each owned place are the same
  pub owned-agree : ((i : ℕ) → i < type_size_of t → owned t i ≡ true → get_or a i 0 ≡ get_or b i 0) → agree t a b ≡ true
  owned-agree h = counted-agree (λ i l x. h i l (owned_complete t i (counts-owned t a i x)))

-- ---- demand 3

-- lists of one length that are not the same differ at a place
differ_at : (x y : List ℕ) → length x ≡ length y → same_words x y ≡ false → (i : ℕ) × (i < length x) × (get_or x i 0 ≡ get_or y i 0 → ⊥)
unfolding same_words
differ_at [] [] e h = absurd (false≢true (sym h))
differ_at [] (d ∷ y) e h = absurd (omega arith)
differ_at (c ∷ x) [] e h = absurd (omega arith)
differ_at (c ∷ x) (d ∷ y) e h =
    ⊎_elim
    (λ q. (0, omega arith, eqb-false c d q))
    (λ q. let w = differ_at x y (omega arith) q in (suc w.0, omega (arith, w.1), w.2))
    (and_either (eqb c d) (same_words x y) h)

-- "Demand 3's agreement is then of the bytes so taken": the test holds exactly where they are equal at each owned place
pub record AgreesExactly (t : Datatype) (a b : List ℕ) : Type 0 where
  pub agree_then : agree t a b ≡ true → (i : ℕ) → Owned t i → taken t a i ≡ taken t b i
  pub agree_if : ((i : ℕ) → Owned t i → taken t a i ≡ taken t b i) → agree t a b ≡ true
  pub differs-then : agree t a b ≡ false → (i : ℕ) × Owned t i × (taken t a i ≡ taken t b i → ⊥)
  pub differs_if : (i : ℕ) → Owned t i → (taken t a i ≡ taken t b i → ⊥) → agree t a b ≡ false

module _ (t : Datatype) (a b : List ℕ) where
  differ_taken : agree t a b ≡ false → (i : ℕ) × (i < type_size_of t) × (taken t a i ≡ taken t b i → ⊥)
  unfolding agree
  differ_taken h =
      let w = differ_at (image t a) (image t b) (image-length t a ∙ sym (image-length t b)) h in
      let l : w.0 < type_size_of t = omega (arith, w.1, image-length t a) in
      (w.0, l, λ e. w.2 (image_byte t a w.0 l ∙ e ∙ sym (image_byte t b w.0 l)))

  -- a place at which the bytes as taken differ is owned
  differ_owned : (i : ℕ) → (taken t a i ≡ taken t b i → ⊥) → Owned t i
  differ_owned i n =
      ⊎_elim
      (λ e. owned-sound t i e)
      (λ e. let z : Owned t i → ⊥ = λ w. false≢true (sym e ∙ owned_complete t i w) in absurd (n (taken-not-owned t a i z ∙ sym (taken-not-owned t b i z))))
      (true_or_false (owned t i))

  pub agrees-exactly : outside t ≡ false → AgreesExactly t a b
  agrees-exactly o =
      let then : agree t a b ≡ true → (i : ℕ) → Owned t i → taken t a i ≡ taken t b i =
      λ h i w. images_taken t a b (agree-says t a b h) i (owned_inside t i o (owned_complete t i w)) in
      record {
        agree_then = then;
        agree_if = λ h. agree-holds t a b (owned_images t a b (λ i l v. h i (owned-sound t i v)));
        differs-then = λ h. let d = differ_taken h in (d.0, differ_owned d.0 d.2, d.2);
        differs_if = λ i w n. not-true-false (agree t a b) (λ h. n (then h i w));
      }

-- The second half of demand 3: records of an admitted type are the same exactly when they agree on every byte that a field owns, as it is taken.
pub record SameExactly (t : Datatype) (a b : List ℕ) : Type 0 where
  pub same_then : comparing_records a b t ≡ gives true → (i : ℕ) → Owned t i → taken t a i ≡ taken t b i
  pub same_if : ((i : ℕ) → Owned t i → taken t a i ≡ taken t b i) → comparing_records a b t ≡ gives true
  pub differs-then : comparing_records a b t ≡ gives false → (i : ℕ) × Owned t i × (taken t a i ≡ taken t b i → ⊥)
  pub differs_if : (i : ℕ) → Owned t i → (taken t a i ≡ taken t b i → ⊥) → comparing_records a b t ≡ gives false
  pub one_of_two : (comparing_records a b t ≡ gives true) ⊎ (comparing_records a b t ≡ gives false)

module _ (t : Datatype) (a b : List ℕ) (z : first_zero t ≡ none) (o : outside t ≡ false) (p : heap_held t ≡ false) (la : length a ≡ type_size_of t) (lb : length b ≡ type_size_of t) where
  given : comparing_records a b t ≡ gives (agree t a b)
  given = records-given t a b z o p la lb

  given_is : (c : Bool) → comparing_records a b t ≡ gives c → agree t a b ≡ c
  given_is c h = let e = given in cc

  pub same-exactly : SameExactly t a b
  same-exactly =
      let e = agrees-exactly t a b o in
      record {
        same_then = λ h. e.agree_then (given_is true h);
        same_if = λ h. given ∙ ap gives (e.agree_if h);
        differs-then = λ h. e.differs-then (given_is false h);
        differs_if = λ i w n. given ∙ ap gives (e.differs_if i w n);
        one_of_two = ⊎_elim (λ h. inl (given ∙ ap gives h)) (λ h. inr (given ∙ ap gives h)) (true_or_false (agree t a b));
      }
