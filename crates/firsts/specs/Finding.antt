-- What a search for the firsts of two blocks' records leaves in the workspace.
use Rattle.std.specs.Prelude.{ℕ, ◌+◌, ◌<◌, ◌≤◌, ◌≡◌, List, length, drop, Option, Some}
use Rattle.format.specs.Image.{Field}
use Rattle.groups.specs.Chains.{Tallied}
use Rattle.groups.specs.Groups.{numbers_of, distinct_of}
use Rattle.groups.specs.Runs.{words_of}
use Rattle.firsts.specs.declared.Firsts.{Firsts}

-- how many heads a workspace has room for before the links and firsts of n records and the runs, which stand at its end
pub record Heads (rs : List Field) (n : ℕ) (r : Option ℕ) (w : List ℕ) : Type 0 where
  pub some : (k : ℕ) → r ≡ Some k → 0 < k
  pub room : (k : ℕ) → r ≡ Some k → k + n + n ≤ length w
  pub words : (k : ℕ) → r ≡ Some k → drop (k + n + n) w ≡ words_of rs

-- with heads, the first of each record stands in the workspace, and how many records have it
pub record Known (ns : List ℕ) (n : ℕ) (buckets : Option ℕ) (w : List ℕ) : Type 0 where
  pub tallied : (k : ℕ) → buckets ≡ Some k → Tallied ns n k n w

-- what the search answers, and what it leaves
pub record FirstsAre (keys : List (List ℕ)) (n : ℕ) (r : Firsts) (w : List ℕ) : Type 0 where
  pub distinct : r.distinct ≡ distinct_of keys
  pub known : Known (numbers_of keys) n r.buckets w
