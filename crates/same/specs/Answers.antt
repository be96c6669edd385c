-- The answer of the program.
use Rattle.std.specs.Prelude.{ℕ, ◌*◌, ◌≡◌, Bool, cond, List, length, eqb, ltb, Result, Ok, Err}
use Rattle.format.specs.Outcome.{Outcome, gives, refuses}
use Rattle.format.specs.Ownership.{comparing}
use Rattle.format.specs.Reading.{Read, reading, table_after, pool_after}
use Rattle.format.specs.Sizes.{element_sizing}
use Rattle.format.specs.Slots.{record_count_of}
use Rattle.blocks.specs.Blocks.{record_of_lem}
use Rattle.same.specs.declared.answers.Wrong.{Wrong}
use Rattle.same.specs.declared.answers.Wrong.TheVariants.{Refused, Remainder, Past}

unfoldable pub answer_of : Outcome Bool → Result Bool Wrong
answer_of (gives x) = Ok x
answer_of (refuses e) = Err (Refused e)

-- of two records of a size, by their numbers from 0; the whole records are all of the block
unfoldable pub answer_sized : (table pool block : List ℕ) (size first second : ℕ) → Result Bool Wrong
answer_sized table pool block n i j =
    cond (eqb (record_count_of block n * n) (length block))
    (cond (ltb i (record_count_of block n))
    (cond (ltb j (record_count_of block n)) (answer_of (comparing table pool (record_of_lem block n i) (record_of_lem block n j))) (Err (Past j (record_count_of block n) n)))
    (Err (Past i (record_count_of block n) n)))
    (Err (Remainder (length block) (record_count_of block n) n))

-- the size is the type's
unfoldable pub when_sized : (table pool block : List ℕ) (first second : ℕ) → Outcome ℕ → Result Bool Wrong
when_sized table pool block i j (gives n) = answer_sized table pool block n i j
when_sized table pool block i j (refuses e) = Err (Refused e)

unfoldable pub answering : (table pool block : List ℕ) (first second : ℕ) → Result Bool Wrong
answering table pool block i j = when_sized table pool block i j (element_sizing table pool)

-- the type is the message's, read at limit 5 into so many words and pool bytes
unfoldable pub when_read : (block : List ℕ) (first second words room : ℕ) → Outcome Read → Result Bool Wrong
when_read block i j words room (gives x) = answering (table_after words (gives x)) (pool_after room (gives x)) block i j
when_read block i j words room (refuses e) = Err (Refused e)

pub record Answered (message block : List ℕ) (first second : ℕ) (table pool : List ℕ) (r : Result Bool Wrong) (table' pool' : List ℕ) : Type 0 where
  pub answer : r ≡ when_read block first second (length table) (length pool) (reading 5 (length table) (length pool) message)
  pub table_is : table' ≡ table_after (length table) (reading 5 (length table) (length pool) message)
  pub pool-is : pool' ≡ pool_after (length pool) (reading 5 (length table) (length pool) message)
