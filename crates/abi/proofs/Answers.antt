-- What a host is told, by an answer's number and values.
use Rattle.std.specs.Prelude.{ℕ, ◌≡◌, Bool, true, false, List, Result, get_or}
use Rattle.std.specs.Int.{from_bool}
use Rattle.std.proofs.Common.{ap, ◌∙◌}
use Rattle.refusal.specs.Refusal.{answer_number, answer_values}
use Rattle.refusal.specs.declared.Refusal.{Refusal}
use Rattle.format.specs.Outcome.{Outcome, Answers, outcome_number, outcome_values}
use Rattle.table.specs.Survey.{yes_or_no}
use Rattle.abi.specs.Answers.{Tells}

pub tells : {A B : Type 0} {f : A → B} {shown : B → List ℕ} {o : Outcome A} {r : Result B Refusal} {n first second : ℕ}
    → Answers f shown o r → n ≡ answer_number r → first ≡ get_or (answer_values shown r) 0 0 → second ≡ get_or (answer_values shown r) 1 0 → Tells (λ x. shown (f x)) o n first second
tells a k h w =
    record { number_is = k ∙ a.number; first-is = h ∙ ap (λ (l : List ℕ). get_or l 0 0) a.values; second_is = w ∙ ap (λ (l : List ℕ). get_or l 1 0) a.values }

-- a number, and the first two of so many values, 0 for each that is not there
pub record Told (number : ℕ) (values : List ℕ) (n first second : ℕ) : Type 0 where
  pub number_is : n ≡ number
  pub first-is : first ≡ get_or values 0 0
  pub second_is : second ≡ get_or values 1 0

-- an answer known by cases
pub tells_as : {A : Type 0} (number : A → ℕ) (values : A → List ℕ) {x y : A} {n first second : ℕ} → x ≡ y → Told (number y) (values y) n first second → Told (number x) (values x) n first second
tells_as number values e t = rw e t

-- what is told of a call is told of its outcome's number and values
pub tells-told : {A : Type 0} (values : A → List ℕ) (o : Outcome A) {n first second : ℕ} → Tells values o n first second → Told (outcome_number o) (outcome_values values o) n first second
tells-told values o t = record { number_is = t.number_is; first-is = t.first-is; second_is = t.second_is }

pub told-tells : {A : Type 0} (values : A → List ℕ) (o : Outcome A) {n first second : ℕ} → Told (outcome_number o) (outcome_values values o) n first second → Tells values o n first second
told-tells values o t = record { number_is = t.number_is; first-is = t.first-is; second_is = t.second_is }

-- yes and no
pub yes_or_no_is : {r b : Bool} {n : ℕ} → r ≡ b → n ≡ from_bool r → n ≡ yes_or_no b
unfolding yes_or_no
yes_or_no_is {b = true} e h = h ∙ rw e
yes_or_no_is {b = false} e h = h ∙ rw e
