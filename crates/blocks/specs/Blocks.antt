-- The records of a block: "thin functions give record count and one record's bytes". The count is `record_count_of` of the definitions.
use Rattle.std.specs.Prelude.{ℕ, ◌*◌, cond, List, [], take, drop, ltb}
use Rattle.format.specs.Slots.{record_size_of, record_count_of}

-- the bytes of a record, by its number from 0; none for a number past the last whole record's
unfoldable pub record_of_lem : (block : List ℕ) (size number : ℕ) → List ℕ
record_of_lem block n i = cond (ltb i (record_count_of block n)) (take (record_size_of n) (drop (i * record_size_of n) block)) []

-- where it begins in the block; 0 where there is none
unfoldable pub record_place : (block : List ℕ) (size number : ℕ) → ℕ
record_place block n i = cond (ltb i (record_count_of block n)) (i * record_size_of n) 0
