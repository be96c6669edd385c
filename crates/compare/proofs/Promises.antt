-- What the contract of `same` says, in the words of documents 01 and 02: demand 3's second half, over the code.
use Rattle.std.specs.Prelude.{Result, Ok}
use Prim.Native.Nat.{ℕ}
use mathlib.Core.Path.{◌≡◌, refl, sym, ap, ◌∙◌}
use mathlib.Core.Bool.{Bool, true, false}
use mathlib.Core.List.{List, Memᴰ}
use mathlib.Core.Logic.{⊎_elim}
use mathlib.Core.Option.{none}
use lib.ListN.{length, get_or}
use Rattle.refusal.specs.declared.Refusal.{Refusal}
use Rattle.format.specs.Datatype.{Datatype, type_size_of}
use Rattle.format.specs.Outcome.{gives, answer_of}
use Rattle.format.specs.Image.{Field, fields_of, taken, image, agree, compared_of}
use Rattle.format.specs.Ownership.{Owned, outside, heap_held, comparing_records, comparing}
use Rattle.format.specs.Slots.{first_zero}
use Rattle.format.specs.Table.{type_of}
use Rattle.format.proofs.Ownership.{owned-sound, records-given, comparing-given}
use Rattle.format.proofs.Same.{image-length, image-image, agree-says, agree-holds, owned-agree, fields_images, images_fields, agrees-exactly, SameExactly, same-exactly}
use Rattle.compare.specs.Agreeing.{Compares}

-- a type that a table and pool set out and that comparison admits, and two records of its size
pub record Comparable (t : Datatype) (table pool a b : List ℕ) : Type 0 where
  pub is : type_of table pool ≡ gives t
  pub sized : first_zero t ≡ none
  pub inside : outside t ≡ false
  pub plain : heap_held t ≡ false
  pub first-long : length a ≡ type_size_of t
  pub second-long : length b ≡ type_size_of t

module _ {t : Datatype} {table pool a b : List ℕ} {r : Result Bool Refusal} (h : Compares (comparing table pool a b) r) (c : Comparable t table pool a b) where
  exact : SameExactly t a b
  exact = same-exactly t a b c.sized c.inside c.plain c.first-long c.second-long

  answered : (d : Bool) → comparing_records a b t ≡ gives d → r ≡ Ok d
  unfolding answer_of
  answered d e = h.answer ∙ ap (answer_of (λ (c : Bool). c)) (comparing-given table pool a b t c.is ∙ e)

  pub same_if_they_agree : ((i : ℕ) → Owned t i → taken t a i ≡ taken t b i) → r ≡ Ok true
  same_if_they_agree k = answered true (exact.same_if k)

  pub differs_if_one-differs : (i : ℕ) → Owned t i → (taken t a i ≡ taken t b i → ⊥) → r ≡ Ok false
  differs_if_one-differs i o k = answered false (exact.differs_if i o k)

  pub same-then_they_agree : r ≡ Ok true → (i : ℕ) → Owned t i → taken t a i ≡ taken t b i
  same-then_they_agree q =
      ⊎_elim
      (λ e. exact.same_then e)
      (λ e.
      let x : ◌≡◌ {A = Result Bool Refusal} (Ok true) (Ok false) = sym q ∙ answered false e in
      absurd cc)
      exact.one_of_two

  pub differs-then-one-differs : r ≡ Ok false → (i : ℕ) × Owned t i × (taken t a i ≡ taken t b i → ⊥)
  differs-then-one-differs q =
      ⊎_elim
      (λ e.
      let x : ◌≡◌ {A = Result Bool Refusal} (Ok true) (Ok false) = sym (answered true e) ∙ q in
      absurd cc)
      (λ e. exact.differs-then e)
      exact.one_of_two

-- ---- by images, field by field, and by the bytes as they stand

module _ {t : Datatype} {table pool a b : List ℕ} {r : Result Bool Refusal} (h : Compares (comparing table pool a b) r) (c : Comparable t table pool a b) where
  -- the test itself
  pub same_if : agree t a b ≡ true → r ≡ Ok true
  unfolding answer_of
  same_if e =
      h.answer
      ∙ ap (answer_of (λ (c : Bool). c)) (comparing-given table pool a b t c.is ∙ records-given t a b c.sized c.inside c.plain c.first-long c.second-long ∙ ap gives e)

  pub same_then : r ≡ Ok true → agree t a b ≡ true
  same_then q = (agrees-exactly t a b c.inside).agree_if (same-then_they_agree h c q)

  pub same_if_images_equal : image t a ≡ image t b → r ≡ Ok true
  same_if_images_equal e = same_if (agree-holds t a b e)

  pub same-then_images_equal : r ≡ Ok true → image t a ≡ image t b
  same-then_images_equal q = agree-says t a b (same_then q)

  -- each field by itself: strings up to and with their first NUL, all others whole, overlaps or not
  pub same_if_fields-agree : ((f : Field) → Memᴰ f (fields_of t) → compared_of f a ≡ compared_of f b) → r ≡ Ok true
  same_if_fields-agree e = same_if_images_equal (fields_images t a b e)

  pub same-then-fields-agree : r ≡ Ok true → (f : Field) → Memᴰ f (fields_of t) → compared_of f a ≡ compared_of f b
  same-then-fields-agree q = images_fields t a b c.inside c.first-long c.second-long (same-then_images_equal q)

  pub same_if_owned-equal : ((i : ℕ) → Owned t i → get_or a i 0 ≡ get_or b i 0) → r ≡ Ok true
  same_if_owned-equal e = same_if (owned-agree t a b (λ i l v. e i (owned-sound t i v)))

-- ---- "same" is an equivalence

pub same_as_itself : {t : Datatype} {table pool a : List ℕ} {r : Result Bool Refusal} → Compares (comparing table pool a a) r → Comparable t table pool a a → r ≡ Ok true
same_as_itself {a = a} h c = same_if_images_equal {a = a} {b = a} h c refl

module _ {t : Datatype} {table pool a b : List ℕ} {r : Result Bool Refusal} (h : Compares (comparing table pool a b) r) (c : Comparable t table pool a b) (q : r ≡ Ok true) where
  pub same-turned : {s : Result Bool Refusal} → Compares (comparing table pool b a) s → s ≡ Ok true
  same-turned k =
      same_if_images_equal k
      (record { is = c.is; sized = c.sized; inside = c.inside; plain = c.plain; first-long = c.second-long; second-long = c.first-long })
      (sym (same-then_images_equal h c q))

  pub same_chained : {d : List ℕ} {s u : Result Bool Refusal} → Compares (comparing table pool b d) s → Comparable t table pool b d → s ≡ Ok true → Compares (comparing table pool a d) u → u ≡ Ok true
  same_chained k e p g =
      same_if_images_equal g
      (record { is = c.is; sized = c.sized; inside = c.inside; plain = c.plain; first-long = c.first-long; second-long = e.second-long })
      (same-then_images_equal h c q ∙ same-then_images_equal k e p)

-- the image of a record is a record that is the same as it
pub same_as_image : {t : Datatype} {table pool a : List ℕ} {r : Result Bool Refusal} → Compares (comparing table pool a (image t a)) r → Comparable t table pool a a → r ≡ Ok true
same_as_image {t = t} {a = a} h c =
    same_if_images_equal h
    (record { is = c.is; sized = c.sized; inside = c.inside; plain = c.plain; first-long = c.first-long; second-long = image-length t a })
    (sym (image-image t a))
