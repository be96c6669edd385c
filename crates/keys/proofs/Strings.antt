-- Bytes up to and with the first NUL.
use Prim.Native.Nat.{ℕ, zero, suc, ◌+◌, ◌<◌, ◌≤◌}
use mathlib.Core.Path.{◌≡◌, refl, sym, ap, ◌∙◌}
use mathlib.Core.Bool.{Bool, true, false}
use mathlib.Core.List.{List, [], ◌∷◌}
use native.Mathlib.Omega.{arith}
use native.Mathlib.Numerals.{add-one}
use lib.ListN.{length, get_or, take}
use lib.Dec.{eqb}
use borrow.Author.Tests.{eqb-true, eqb-false, ltb-false}
use Rattle.std.specs.Prelude.{cond, position, Option, Some, None}
use Rattle.std.specs.List.{position_or_len}
use Rattle.std.proofs.lemmas.List.Quantifiers.{position-Some}
use Rattle.std.proofs.lemmas.List.Sums.{fails_before_first}
use Rattle.std.proofs.lemmas.Option.{none-some}
use Rattle.format.specs.Image.{up_to_nul}

up_to_nul_lem : (b : ℕ) (s : List ℕ) → b ≡ 0 → up_to_nul (b ∷ s) ≡ b ∷ []
unfolding up_to_nul
up_to_nul_lem zero s e = refl
up_to_nul_lem (suc b) s e = absurd (omega arith)

up_to_more : (b : ℕ) (s : List ℕ) → (b ≡ 0 → ⊥) → up_to_nul (b ∷ s) ≡ b ∷ up_to_nul s
unfolding up_to_nul
up_to_more zero s n = absurd (n refl)
up_to_more (suc b) s n = refl

up_to_first : (s : List ℕ) (i : ℕ) → i < length s → get_or s i 0 ≡ 0 → ((k : ℕ) → k < i → get_or s k 0 ≡ 0 → ⊥) → take (suc i) s ≡ up_to_nul s
up_to_first [] i l e h = absurd (omega arith)
up_to_first (b ∷ s) zero l e h = sym (up_to_nul_lem b s e)
up_to_first (b ∷ s) (suc i) l e h =
    ap (λ (t : List ℕ). b ∷ t) (up_to_first s i (omega arith) e (λ k m. h (suc k) (omega arith)))
    ∙ sym (up_to_more b s (h zero (omega arith)))

up_to_all : (s : List ℕ) → ((k : ℕ) → k < length s → get_or s k 0 ≡ 0 → ⊥) → s ≡ up_to_nul s
unfolding up_to_nul
up_to_all [] h = refl
up_to_all (b ∷ s) h = ap (λ (t : List ℕ). b ∷ t) (up_to_all s (λ k m. h (suc k) (omega arith))) ∙ sym (up_to_more b s (h zero (omega arith)))

no_answer : (b : Bool) (k : ℕ) → cond b (Some k) None ≡ None → b ≡ false
no_answer true k e = absurd (none-some k (sym e))
no_answer false k e = refl

module _ (s : List ℕ) {r : Option ℕ} (q : r ≡ position (λ b. eqb b 0) s) where
  pub string_inside : (i : ℕ) → r ≡ Some i → i < length s
  string_inside i e = (position-Some (λ b. eqb b 0) s i 0 (sym q ∙ e)).0

  pub string_nul : (i : ℕ) → r ≡ Some i → take (i + 1) s ≡ up_to_nul s
  string_nul i e =
      let p = position-Some (λ b. eqb b 0) s i 0 (sym q ∙ e) in
      rw (add-one i) (up_to_first s i p.0 (eqb-true _ _ p.1) (λ k m. eqb-false _ _ (p.2 k m)))

  none-passes : r ≡ None → length s ≤ position_or_len (λ b. eqb b 0) s
  none-passes e = ltb-false _ _ (no_answer _ (position_or_len (λ b. eqb b 0) s) (sym q ∙ e))

  pub string_whole : r ≡ None → s ≡ up_to_nul s
  string_whole e = up_to_all s (λ k m. eqb-false _ _ (fails_before_first (λ b. eqb b 0) s k 0 (omega (arith, none-passes e))))
