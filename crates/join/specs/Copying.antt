-- Records copied one behind the other.
use Rattle.std.specs.Prelude.{ℕ, ◌+◌, ◌≡◌, cond, List, [], length, get_or, eqb}
use Rattle.std.proofs.lemmas.List.Edits.{sets}
use Rattle.groups.specs.Groups.{firsts_to}
use Rattle.groups.specs.Duplicates.{record_at_of}
use Rattle.groups.specs.Join.{records_at}
use Rattle.firsts.specs.Found.{numbers_in}
use Rattle.firsts.specs.Records.{both}
use Rattle.firsts.specs.declared.found.Found.{Found}

-- what record k adds: itself, where it names itself
unfoldable pub added : (f : Found) (k : ℕ) → List ℕ
added f k = cond (eqb (get_or (numbers_in f) k 0) k) (record_at_of (both f.records) f.records.size k) []

-- that stored behind the bytes so far
pub record Put (f : Found) (k to r : ℕ) (out out' : List ℕ) : Type 0 where
  pub next : r ≡ to + length (added f k)
  pub stored : out' ≡ sets out to (added f k)

-- the bytes of the firsts among the first k records
unfoldable pub copied : (f : Found) (k : ℕ) → List ℕ
copied f k = records_at (both f.records) f.records.size (firsts_to (numbers_in f) k)
