-- The workspace of the fast path: `buckets` heads, then a link for each record, then a first for each record.
use Rattle.std.specs.Prelude.{ℕ, zero, suc, ◌+◌, ◌%◌, ◌<◌, ◌≤◌, ◌≡◌, cond, ◌&&◌, List, length, get_or, take, drop, eqb}
use Rattle.groups.specs.Groups.{key_at, first_of, count}

-- where a key's hash puts it. No law of the chains looks into the hash
unfoldable pub bucket_of_lem : (hash : List ℕ → ℕ) (keys : List (List ℕ)) (buckets k : ℕ) → ℕ
bucket_of_lem hash keys buckets k = hash (key_at keys k) % buckets

-- one more than the greatest first below m in a bucket, or 0
unfoldable pub head_of : (hash : List ℕ → ℕ) (keys : List (List ℕ)) (buckets bucket m : ℕ) → ℕ
head_of hash keys buckets bucket zero = 0
head_of hash keys buckets bucket (suc m) =
    cond (eqb (first_of keys m) m && eqb (bucket_of_lem hash keys buckets m) bucket) (suc m) (head_of hash keys buckets bucket m)

-- the chains when k records have been placed: a head leads to the greatest first of its bucket, a first's link to the next smaller one
pub record Chained (hash : List ℕ → ℕ) (keys : List (List ℕ)) (buckets k : ℕ) (w : List ℕ) : Type 0 where
  pub heads : (b : ℕ) → b < buckets → get_or w b 0 ≡ head_of hash keys buckets b k
  pub links : (j : ℕ) → j < k → first_of keys j ≡ j → get_or w (buckets + j) 0 ≡ head_of hash keys buckets (bucket_of_lem hash keys buckets j) j

-- and the firsts found so far
pub record Built (hash : List ℕ → ℕ) (keys : List (List ℕ)) (n buckets k : ℕ) (w : List ℕ) : Type 0 where
  pub room : buckets + n + n ≤ length w
  pub chains : Chained hash keys buckets k w
  pub firsts : (j : ℕ) → j < k → get_or w (buckets + n + j) 0 ≡ first_of keys j

-- what a search for the first of k may answer: one more than it, or 0 where k is the first itself
pub record Sought (keys : List (List ℕ)) (k r : ℕ) : Type 0 where
  pub below : r ≤ k
  pub none : r ≡ 0 → first_of keys k ≡ k
  pub some : (r ≡ 0 → ⊥) → r ≡ first_of keys k + 1

-- the firsts in the workspace
unfoldable pub names_in : (n buckets : ℕ) → List ℕ → List ℕ
names_in n buckets w = take n (drop (buckets + n) w)

pub record Named (ns : List ℕ) (k f : ℕ) : Type 0 where
  pub name : f ≡ get_or ns k 0
  pub low : f ≤ k

-- the links overwritten by counts: how many of the first k entries name j
pub record Tallied (ns : List ℕ) (n buckets k : ℕ) (w : List ℕ) : Type 0 where
  pub room : buckets + n + n ≤ length w
  pub names : names_in n buckets w ≡ ns
  pub low : (i : ℕ) → i < n → get_or ns i 0 ≤ i
  pub counts : (j : ℕ) → j < k → get_or w (buckets + j) 0 ≡ count j (take k ns)
