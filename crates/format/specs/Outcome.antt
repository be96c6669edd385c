-- What a call gives or why it refuses, and the room that a result needs.
use Rattle.std.specs.Prelude.{ℕ, ◌≡◌, min, Bool, cond, List, ◌++◌, length, drop, Result, Ok, Err}
use Rattle.refusal.specs.Refusal.{number_of, values_of, answer_number, answer_values}
use Rattle.refusal.specs.declared.Refusal.{Refusal}

pub data Outcome (A : Type 0) : Type 0 where
  gives : A → Outcome A
  refuses : Refusal → Outcome A

unfoldable pub when_given : {A B : Type 0} → Outcome A → (A → Outcome B) → Outcome B
when_given (gives a) f = f a
when_given (refuses e) f = refuses e

-- a refusal, unless the test is passed
unfoldable pub unless : {A : Type 0} → Bool → Refusal → Outcome A → Outcome A
unless passed e x = cond passed x (refuses e)

-- "Needed stops at 18,446,744,073,709,551,615"
unfoldable pub needed : ℕ → ℕ
needed n = min n 18446744073709551615

-- "Success writes the result and nothing past it"; every refusal but a reader's leaves lent output untouched
unfoldable pub output_after : List ℕ → Outcome (List ℕ) → List ℕ
output_after out (gives s) = s ++ drop (length s) out
output_after out (refuses e) = out

-- Document 01's number of a call's outcome: 0 for a result, or the refusal's
unfoldable pub outcome_number : {A : Type 0} → Outcome A → ℕ
outcome_number (gives x) = 0
outcome_number (refuses e) = number_of e

-- and its values: the result's, or the refusal's
unfoldable pub outcome_values : {A : Type 0} → (A → List ℕ) → Outcome A → List ℕ
outcome_values values (gives x) = values x
outcome_values values (refuses e) = values_of e

-- the answer of a call with this outcome, its result as `f` tells it
unfoldable pub answer_of : {A B : Type 0} → (A → B) → Outcome A → Result B Refusal
answer_of f (gives x) = Ok (f x)
answer_of f (refuses e) = Err e

-- an answer by the definition's outcome, with Document 01's number and values; `shown` has the values of a result
pub record Answers {A B : Type 0} (f : A → B) (shown : B → List ℕ) (o : Outcome A) (r : Result B Refusal) : Type 0 where
  pub answer : r ≡ answer_of f o
  pub number : answer_number r ≡ outcome_number o
  pub values : answer_values shown r ≡ outcome_values (λ x. shown (f x)) o
