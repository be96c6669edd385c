-- What `write_and_read` promises, in demand 3's words.
use Rattle.std.specs.Prelude.{ℕ, ◌*◌, ◌≤◌, ◌≡◌, true, List, [], ◌∷◌, ◌++◌, length, take, drop, Result, Ok, Err}
use Rattle.std.proofs.Math.Option.{none, some}
use Rattle.refusal.specs.Refusal.{number_of, values_of, answer_number, answer_values}
use Rattle.refusal.specs.declared.Refusal.{Refusal}
use Rattle.refusal.specs.declared.Refusal.TheVariants.{TooNew}
use Rattle.format.specs.Bytes.{zeros, padded}
use Rattle.format.specs.Datatype.{Datatype, row_count, pool_bytes}
use Rattle.format.specs.Message.{message, versions, first_above, storable, carried, writing}
use Rattle.format.specs.Outcome.{gives, refuses, Answers}
use Rattle.format.specs.Reading.{reading, table_after, pool_after}
use Rattle.format.specs.Table.{type_of}

-- "Where writing is refused, the answer is that refusal and buffer, second table and second pool are as they were"
pub record NotWritten (e : Refusal) (r : Result ℕ Refusal) (buffer buffer' t t' p p' : List ℕ) : Type 0 where
  pub answer : r ≡ Err e
  pub number : answer_number r ≡ number_of e
  pub values : answer_values (λ n. n ∷ []) r ≡ values_of e
  pub buffer_is : buffer' ≡ buffer
  pub table_is : t' ≡ t
  pub pool-is : p' ≡ p

-- the message is in the buffer, what stood behind it still stands there, and the rest is the reading of that whole buffer
pub record Written (m : List ℕ) (limit : ℕ) (r : Result ℕ Refusal) (buffer buffer' t t' p p' : List ℕ) : Type 0 where
  pub buffer_is : buffer' ≡ m ++ drop (length m) buffer
  pub answers : Answers (λ x. x.consumed) (λ n. n ∷ []) (reading limit (length t) (length p) buffer') r
  pub table_is : t' ≡ table_after (length t) (reading limit (length t) (length p) buffer')
  pub pool-is : p' ≡ pool_after (length p) (reading limit (length t) (length p) buffer')

-- "the answer is TooNew with the first header version above the limit (second table and pool all zero)"
pub record TooNewBack (v : ℕ) (r : Result ℕ Refusal) (t t' p p' : List ℕ) : Type 0 where
  pub answer : r ≡ Err (TooNew v)
  pub number : answer_number r ≡ 5
  pub values : answer_values (λ n. n ∷ []) r ≡ v ∷ []
  pub table_is : t' ≡ zeros (length t)
  pub pool-is : p' ≡ zeros (length p)

-- "or the written length with the first table's rows and pool bytes in the second, zeros after"
pub record SameBack (type : Datatype) (edition : ℕ) (table pool : List ℕ) (r : Result ℕ Refusal) (t t' p p' : List ℕ) : Type 0 where
  pub answer : r ≡ Ok (length (message edition type))
  pub number : answer_number r ≡ 0
  pub values : answer_values (λ n. n ∷ []) r ≡ length (message edition type) ∷ []
  pub table_is : t' ≡ padded (length t) (take (16 * row_count type) table)
  pub pool-is : p' ≡ padded (length p) (take (length (pool_bytes type)) pool)

pub record Back (table pool : List ℕ) (edition limit : ℕ) (r : Result ℕ Refusal) (buffer buffer' t t' p p' : List ℕ) : Type 0 where
  pub refused : (e : Refusal) → writing table pool edition (length buffer) ≡ refuses e → NotWritten e r buffer buffer' t t' p p'
  pub written : (m : List ℕ) → writing table pool edition (length buffer) ≡ gives m → Written m limit r buffer buffer' t t' p p'
  -- demand 3: a type that is storable and that the edition carries, in a buffer, a second table and a second pool that hold it
  pub too_new : (type : Datatype) (v : ℕ) → type_of table pool ≡ gives type → (1 ≤ edition) × (edition ≤ 3) → storable type ≡ true → carried edition type ≡ true
      → length (message edition type) ≤ length buffer → 16 * row_count type ≤ length t → length (pool_bytes type) ≤ length p
      → first_above limit (versions edition type) ≡ some v → TooNewBack v r t t' p p'
  pub back : (type : Datatype) → type_of table pool ≡ gives type → (1 ≤ edition) × (edition ≤ 3) → storable type ≡ true → carried edition type ≡ true
      → length (message edition type) ≤ length buffer → 16 * row_count type ≤ length t → length (pool_bytes type) ≤ length p
      → first_above limit (versions edition type) ≡ none → SameBack type edition table pool r t t' p p'
