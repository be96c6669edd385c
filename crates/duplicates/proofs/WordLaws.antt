-- `duplicates_words`: one law for each way out.
use Prim.Native.Nat.{ℕ}
use mathlib.Core.Path.{◌≡◌, refl, sym, ap, ◌∙◌}
use mathlib.Core.List.{List}
use Rattle.std.specs.Prelude.{Result, Ok, Err}
use native.Mathlib.Omega.{arith}
use lib.ListN.{length}
use Rattle.refusal.specs.declared.Refusal.{Refusal}
use Rattle.format.specs.Image.{Field, fields_of}
use Rattle.format.specs.Outcome.{gives, refuses, when_given, needed, answer_of}
use Rattle.format.specs.Ownership.{admission}
use Rattle.format.proofs.Outcomes.{answers-given, answers-refused}
use Rattle.format.proofs.Admission.{admission-refused}
use Rattle.format.proofs.Ownership.{admitting-given}
use Rattle.compare.proofs.Comparing.{refused-admission, admitted-size}
use Rattle.groups.specs.Duplicates.{fields_in_of}
use Rattle.groups.specs.Runs.{runs_of}
use Rattle.runs.specs.Listing.{RunsListed}
use Rattle.duplicates.specs.WordCount.{most_words_of, words_needed, one_value, WordsAre}
use Rattle.firsts.proofs.KeyLaws.{fields_in}

-- the count of runs may have stopped before their number
module _ (rs : List Field) (n k : ℕ) (w w' : List ℕ) (g : RunsListed 18446744073709551615 rs k w w') where
  counted : most_words_of n k ≡ most_words_of n (length rs)
  unfolding most_words_of needed
  counted = omega (arith, g.count (omega (arith, g.low)))

-- ---- the answers

module _ (table pool : List ℕ) (n : ℕ) {x : Result ℕ Refusal} (h : x ≡ answer_of (λ (k : ℕ). k) (admission table pool)) where
  pub words-refused : (e : Refusal) → x ≡ Err e → WordsAre (words_needed table pool n) (Err e)
  words-refused e q =
      let k : words_needed table pool n ≡ refuses e =
      unfold words_needed in admission-refused table pool (λ t. gives (most_words_of n (length (runs_of (fields_of t))))) e (refused-admission table pool h e q) in
      answers-refused (λ (i : ℕ). i) one_value (words_needed table pool n) e (Err e) k refl

  pub words-given : (size k : ℕ) (w w' : List ℕ) (r : ℕ) → x ≡ Ok size → RunsListed 18446744073709551615 (runs_of (fields_in_of table pool)) k w w' → r ≡ most_words_of n k → WordsAre (words_needed table pool n) (Ok r)
  words-given size k w w' r q g e =
      let a = admitted-size table pool h size q in
      let d = a.admitted in
      let o : words_needed table pool n ≡ gives r =
      unfold words_needed when_given in
      rw a.is (admitting-given a.type _ d.sized d.inside d.plain ∙ ap gives (sym (e ∙ counted (runs_of (fields_in_of table pool)) n k w w' g ∙ ap (λ (fs : List Field). most_words_of n (length (runs_of fs))) (fields_in table pool size a)))) in
      answers-given (λ (i : ℕ). i) one_value (words_needed table pool n) r (Ok r) o refl
