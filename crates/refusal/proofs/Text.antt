-- What a refusal prints: its number, and none, one or two values.
use Prim.Native.Nat.{ℕ, ◌≤◌}
use mathlib.Core.Path.{◌≡◌, refl, sym, ap, ◌∙◌}
use mathlib.Core.List.{List, [], ◌∷◌, ◌++◌, append-nil}
use native.Mathlib.Omega.{arith}
use lib.ListN.{length}
use Rattle.std.specs.Prelude.{Some, None, slice_get, codes}
use Rattle.std.specs.Fmt.{decimal}
use Rattle.refusal.specs.Refusal.{number_of, values_of, values_from, spaced, refused_text}
use Rattle.refusal.specs.declared.Refusal.{Refusal}
use Rattle.refusal.specs.declared.Refusal.TheVariants.{BadTable, TooDeep, TooMany, Short, TooNew, BadClass, BadVersion, BadPadding, BadCharset, BadReferenceKind, PoolFull, ZeroSize, NoSuchEdition, Unstorable, NotInEdition, OutsideRecord, HeapHeld, WrongLength, Unmapped, SlotOutside, NoRoom}
use Rattle.refusal.specs.declared.RefusalValues.{RefusalValues}

few : (e : Refusal) → length (values_of e) ≤ 2
few BadTable = omega arith
few TooDeep = omega arith
few TooMany = omega arith
few (Short expected available) = omega arith
few (TooNew version) = omega arith
few (BadClass class) = omega arith
few (BadVersion class version) = omega arith
few (BadPadding code) = omega arith
few (BadCharset code) = omega arith
few (BadReferenceKind code) = omega arith
few PoolFull = omega arith
few (ZeroSize class) = omega arith
few NoSuchEdition = omega arith
few Unstorable = omega arith
few NotInEdition = omega arith
few OutsideRecord = omega arith
few HeapHeld = omega arith
few WrongLength = omega arith
few Unmapped = omega arith
few SlotOutside = omega arith
few (NoRoom needed) = omega arith

none_are : (l : List ℕ) → slice_get l 0 ≡ None → l ≡ []
none_are [] h = refl
none_are (x ∷ l) h = absurd (cc)

one_is : (l : List ℕ) {x : ℕ} → slice_get l 0 ≡ Some x → slice_get l 1 ≡ None → l ≡ x ∷ []
one_is [] h g = absurd (cc)
one_is (y ∷ []) {x} h g = let e : y ≡ x = cc in rw e
one_is (y ∷ z ∷ l) h g = absurd (cc)

two-are : (l : List ℕ) {x y : ℕ} → length l ≤ 2 → slice_get l 0 ≡ Some x → slice_get l 1 ≡ Some y → l ≡ x ∷ y ∷ []
two-are [] k h g = absurd (cc)
two-are (z ∷ []) k h g = absurd (cc)
two-are (z ∷ w ∷ []) {x} {y} k h g =
    let a : z ≡ x = cc in
    let b : w ≡ y = cc in
    rw (a, b)
two-are (z ∷ w ∷ v ∷ l) k h g = absurd (omega arith)

-- the text of so many values, as it is printed
module _ (e : Refusal) (n : ℕ) (v : RefusalValues) (is : n ≡ number_of e) (have : v ≡ values_from e) where
  pub text-none : v.first ≡ None → codes "refused " ++ decimal n ≡ refused_text e
  unfolding refused_text spaced
  text-none h = rw (none_are (values_of e) (ap (λ (r : RefusalValues). r.first) (sym have) ∙ h), is) (ap (λ (l : List ℕ). codes "refused " ++ l) (sym (append-nil (decimal (number_of e)))))

  pub text_one : {x : ℕ} → v.first ≡ Some x → v.second ≡ None → codes "refused " ++ (decimal n ++ (codes " " ++ decimal x)) ≡ refused_text e
  unfolding refused_text spaced
  text_one h g = rw (one_is (values_of e) (ap (λ (r : RefusalValues). r.first) (sym have) ∙ h) (ap (λ (r : RefusalValues). r.second) (sym have) ∙ g), is, append-nil) refl

  pub text-two : {x y : ℕ} → v.first ≡ Some x → v.second ≡ Some y → codes "refused " ++ (decimal n ++ (codes " " ++ (decimal x ++ (codes " " ++ decimal y)))) ≡ refused_text e
  unfolding refused_text spaced
  text-two h g = rw (two-are (values_of e) (few e) (ap (λ (r : RefusalValues). r.first) (sym have) ∙ h) (ap (λ (r : RefusalValues). r.second) (sym have) ∙ g), is, append-nil) refl
