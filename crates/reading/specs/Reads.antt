-- What `read` promises.
use Rattle.std.specs.Prelude.{◌≡◌, List, [], ◌∷◌, ℕ, length, Result}
use Rattle.refusal.specs.Refusal.{answer_number, answer_values}
use Rattle.refusal.specs.declared.Refusal.{Refusal}
use Rattle.format.specs.Outcome.{outcome_number, outcome_values, answer_of}
use Rattle.format.specs.Reading.{reading, table_after, pool_after}

-- `read`: the answer, with document 01's number and values (0 and the length of the message, or the refusal's), every word of the table
-- and every byte of the pool, by the definition at the lent lengths
pub record Reads (limit : ℕ) (d table pool : List ℕ) (r : Result ℕ Refusal) (table' pool' : List ℕ) : Type 0 where
  pub answer : r ≡ answer_of (λ x. x.consumed) (reading limit (length table) (length pool) d)
  pub number : answer_number r ≡ outcome_number (reading limit (length table) (length pool) d)
  pub values : answer_values (λ n. n ∷ []) r ≡ outcome_values (λ x. x.consumed ∷ []) (reading limit (length table) (length pool) d)
  pub table_is : table' ≡ table_after (length table) (reading limit (length table) (length pool) d)
  pub pool-is : pool' ≡ pool_after (length pool) (reading limit (length table) (length pool) d)
