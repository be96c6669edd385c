-- The records of two blocks, one behind the other.
use Rattle.firsts.specs.declared.records.Records.{Records}
use Rattle.std.specs.Prelude.{ℕ, ◌%◌, ◌<◌, ◌≡◌, List, ◌++◌, length}
use Rattle.compare.specs.Agreeing.{Admits}
use Rattle.groups.specs.Duplicates.{record_at_of, keys_of, fields_in_of}

-- the bytes of both blocks
abbrev pub both : Records → List ℕ
both rs = rs.a.now ++ rs.b.now

-- two blocks of whole records
pub record Whole (a b : List ℕ) (size : ℕ) : Type 0 where
  pub some : 0 < size
  pub first : length a % size ≡ 0
  pub second : length b % size ≡ 0

pub record IsRecord (block : List ℕ) (size k : ℕ) (x : List ℕ) : Type 0 where
  pub is : x ≡ record_at_of block size k
  pub long : length x ≡ size

-- the keys of their records, by a table and pool
unfoldable pub keys_in : (table pool : List ℕ) (rs : Records) → List (List ℕ)
keys_in table pool rs = keys_of (fields_in_of table pool) (both rs) rs.size

-- two blocks of whole records of a type that is admitted to comparison
pub record Comparable (table pool : List ℕ) (rs : Records) : Type 0 where
  pub admits : Admits table pool rs.size
  pub whole : Whole rs.a.now rs.b.now rs.size
