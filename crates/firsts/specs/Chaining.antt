-- Records of two blocks on chains, compared and hashed by the runs that stand at the workspace's end.
use Rattle.std.specs.Prelude.{ℕ, ◌+◌, ◌-◌, ◌<◌, ◌≤◌, ◌≡◌, Bool, true, List, length, drop, Option, Some, None}
use Rattle.groups.specs.Groups.{key_at, numbers_of, distinct_of}
use Rattle.groups.specs.Chains.{bucket_of_lem, Chained, Built, Sought, Tallied}
use Rattle.groups.specs.Duplicates.{keys_of}
use Rattle.groups.specs.Runs.{runs_in, Inside}
use Rattle.keys.specs.Hash.{factors, hash_of}
use Rattle.firsts.specs.Records.{both, Whole}
use Rattle.firsts.specs.declared.chains.Chains.{Chains}
use Rattle.firsts.specs.declared.chains.Spot.{Spot}

-- where the runs begin
abbrev pub runs_at : Chains → ℕ
runs_at c = c.buckets + c.n + c.n

-- their words, in a workspace
abbrev pub words_behind : Chains → List ℕ → List ℕ
words_behind c w = drop (runs_at c) w

-- the keys of the records, by the words of runs
unfoldable pub keys_by : (words : List ℕ) → Chains → List (List ℕ)
keys_by words c = keys_of (runs_in words) (both c.records) c.records.size

-- the hash of a record's key
abbrev pub hash_by : (words : List ℕ) → Chains → List ℕ → ℕ
hash_by words c = hash_of (factors c.m) (runs_in words)

-- whole records, and runs that lie in them
pub record ByRuns (words : List ℕ) (c : Chains) : Type 0 where
  pub whole : Whole c.records.a.now c.records.b.now c.records.size
  pub inside : Inside c.records.size (runs_in words)

pub record InBucket (words : List ℕ) (c : Chains) (k r : ℕ) : Type 0 where
  pub is : r ≡ bucket_of_lem (hash_by words c) (keys_by words c) c.buckets k
  pub below : r < c.buckets

-- what a search for the first of k needs: the chains of the records before it, whatever the hash is
pub record Seeks (keys : List (List ℕ)) (buckets k : ℕ) (w : List ℕ) (bucket : ℕ) : Type 0 where
  pub hash : List ℕ → ℕ
  pub number : k < length keys
  pub is : bucket ≡ bucket_of_lem hash keys buckets k
  pub below : bucket < buckets
  pub room : buckets + k ≤ length w
  pub chains : Chained hash keys buckets k w

-- an earlier record as a link has it: one more than its number, or 0 for none
abbrev pub link_of : Option ℕ → ℕ
link_of None = 0
link_of (Some j) = j + 1

pub record SpotIs (words : List ℕ) (c : Chains) (k : ℕ) (s : Spot) : Type 0 where
  pub in_bucket : InBucket words c k s.bucket
  pub sought : Sought (keys_by words c) k (link_of s.first)

-- a yes says that a record is the same as the one before it
pub record Repeats (keys : List (List ℕ)) (k : ℕ) (r : Bool) : Type 0 where
  pub later : r ≡ true → 0 < k
  pub equal : r ≡ true → key_at keys (k - 1) ≡ key_at keys k

-- k records are placed, and the runs stand behind them
pub record Placed (words : List ℕ) (c : Chains) (k : ℕ) (w : List ℕ) : Type 0 where
  pub by_runs : ByRuns words c
  pub count : c.n ≡ length (keys_by words c)
  pub some : 0 < c.buckets
  pub kept : words_behind c w ≡ words
  pub built : Built (hash_by words c) (keys_by words c) c.n c.buckets k w

-- the runs stand in a workspace that has room for the chains before them
pub record Compiled (c : Chains) (w : List ℕ) : Type 0 where
  pub by_runs : ByRuns (words_behind c w) c
  pub count : c.n ≡ length (keys_by (words_behind c w) c)
  pub some : 0 < c.buckets
  pub room : runs_at c ≤ length w

-- d distinct keys, and in the workspace the first of each and how many entries name it
pub record Counted (words : List ℕ) (c : Chains) (d : ℕ) (w : List ℕ) : Type 0 where
  pub distinct : d ≡ distinct_of (keys_by words c)
  pub tallied : Tallied (numbers_of (keys_by words c)) c.n c.buckets c.n w
