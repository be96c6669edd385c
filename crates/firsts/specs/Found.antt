-- The firsts of two blocks' records, for the steps behind the search for them.
use Rattle.std.specs.Prelude.{ℕ, ◌≡◌, List, length}
use Rattle.groups.specs.Groups.{numbers_of}
use Rattle.firsts.specs.Finding.{Known}
use Rattle.firsts.specs.Records.{keys_in, Comparable}
use Rattle.firsts.specs.declared.found.Found.{Found}

-- the number of each record's first
abbrev pub numbers_in : Found → List ℕ
numbers_in f = numbers_of (keys_in f.table.now f.pool.now f.records)

-- all n records, and the firsts as the search for them left them
pub record Standing (f : Found) : Type 0 where
  pub comparable : Comparable f.table.now f.pool.now f.records
  pub count : f.n ≡ length (keys_in f.table.now f.pool.now f.records)
  pub known : Known (numbers_in f) f.n f.buckets f.work.now
