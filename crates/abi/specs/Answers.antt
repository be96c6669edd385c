-- What a host is told.
use Rattle.std.specs.Prelude.{ℕ, ◌≡◌, List, get_or}
use Rattle.format.specs.Outcome.{Outcome, outcome_number, outcome_values}

-- of a call with this outcome: its number is returned, and its first two values stand in `first` and `second`, 0 for each that is not there
pub record Tells {A : Type 0} (values : A → List ℕ) (o : Outcome A) (number first second : ℕ) : Type 0 where
  pub number_is : number ≡ outcome_number o
  pub first-is : first ≡ get_or (outcome_values values o) 0 0
  pub second_is : second ≡ get_or (outcome_values values o) 1 0
