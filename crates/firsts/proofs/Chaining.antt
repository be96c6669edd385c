-- Records on chains, by the runs at the workspace's end.
use Prim.Native.Nat.{ℕ, zero, ◌+◌, ◌-◌, ◌/◌, ◌%◌, ◌<◌, ◌≤◌}
use mathlib.Core.Path.{◌≡◌, sym, ap, ◌∙◌}
use mathlib.Core.Bool.{Bool, true, false, false≢true}
use mathlib.Core.List.{List, ◌++◌}
use Rattle.std.specs.Prelude.{Option, Some, None}
use native.Mathlib.Omega.{arith}
use lib.ListN.{length, get_or, take, drop, set, replicate, length-append, length-replicate}
use lib.Seq.{drop-set-lt, drop-append_seam, length-take-le}
use Rattle.format.specs.Image.{image_from}
use Rattle.format.specs.Table.{same_words}
use Rattle.format.proofs.Rows.{same_words_true}
use Rattle.groups.specs.Groups.{key_at, firsts_to}
use Rattle.groups.specs.Chains.{Built, Sought, names_in, Tallied}
use Rattle.groups.specs.Runs.{runs_in, Inside}
use Rattle.groups.proofs.Heads.{Seeking, find_begins, find_fails, find_inside, find_place, find_falls, find_hit, find_on}
use Rattle.groups.proofs.Ways.{bucket_is, bucket_below, place-first, place-later, built-clear, tally_begins, distinct-is, tallied-is}
use Rattle.groups.proofs.Building.{built_repeat}
use Rattle.groups.proofs.Keys.{length-keys}
use Rattle.firsts.specs.Records.{both, IsRecord}
use Rattle.firsts.specs.Chaining.{runs_at, words_behind, keys_by, hash_by, ByRuns, InBucket, Seeks, SpotIs, Repeats, Placed, Compiled, Counted, link_of}
use Rattle.firsts.specs.declared.chains.Chains.{Chains}
use Rattle.firsts.specs.declared.chains.Spot.{Spot}
use Rattle.firsts.proofs.KeyLaws.{key_of_lem}

-- ---- records by runs

module _ (words : List ℕ) (c : Chains) (g : ByRuns words c) where
  pub number-inside : (k : ℕ) → k < length (keys_by words c) → k < length (both c.records) / c.records.size
  unfolding keys_by
  number-inside k h = omega (arith, length-keys (runs_in words) (both c.records) c.records.size)

  pub runs_inside : (k : ℕ) {x : List ℕ} → IsRecord (both c.records) c.records.size k x → Inside (length x) (runs_in words)
  runs_inside k r = rw r.long g.inside

  pub same-lengths : (j k : ℕ) {x y : List ℕ} → IsRecord (both c.records) c.records.size j x → IsRecord (both c.records) c.records.size k y → length y ≡ length x
  same-lengths j k rx ry = ry.long ∙ sym rx.long

  key_by : (k : ℕ) {x : List ℕ} → k < length (keys_by words c) → IsRecord (both c.records) c.records.size k x → image_from (runs_in words) x 0 (length x) ≡ key_at (keys_by words c) k
  unfolding keys_by
  key_by k h r = key_of_lem (runs_in words) (both c.records) c.records.size k h r

  pub keys-compared : (j k : ℕ) {x y : List ℕ} (t : Bool) → j < length (keys_by words c) → k < length (keys_by words c) → IsRecord (both c.records) c.records.size j x → IsRecord (both c.records) c.records.size k y
      → t ≡ same_words (image_from (runs_in words) x 0 (length x)) (image_from (runs_in words) y 0 (length x))
      → t ≡ same_words (key_at (keys_by words c) j) (key_at (keys_by words c) k)
  keys-compared j k {x = x} {y = y} t hj hk rx ry e =
      let l : length x ≡ length y = rx.long ∙ sym ry.long in
      let q : image_from (runs_in words) y 0 (length x) ≡ key_at (keys_by words c) k = rw l (key_by k hk ry) in
      e ∙ rw (key_by j hj rx, q)

  pub in_bucket : (k h : ℕ) {x : List ℕ} → k < length (keys_by words c) → 0 < c.buckets → IsRecord (both c.records) c.records.size k x
      → h ≡ hash_by words c (image_from (runs_in words) x 0 (length x)) → InBucket words c k (h % c.buckets)
  in_bucket k h l p r e =
      record {
        is = bucket_is (hash_by words c) (keys_by words c) c.buckets k h (e ∙ ap (hash_by words c) (key_by k l r));
        below = bucket_below c.buckets h p;
      }

-- ---- a search down a chain

pub record Walks (keys : List (List ℕ)) (buckets k : ℕ) (w : List ℕ) (bucket p : ℕ) : Type 0 where
  pub seeks : Seeks keys buckets k w bucket
  pub at : Seeking seeks.hash keys buckets bucket k p

module _ (keys : List (List ℕ)) (buckets k : ℕ) (w : List ℕ) (bucket : ℕ) where
  pub walk_begins : Seeks keys buckets k w bucket → Walks keys buckets k w bucket (get_or w bucket 0)
  walk_begins s = record { seeks = s; at = find_begins s.hash keys buckets bucket k w s.number s.is s.chains s.below }

  module _ (p : ℕ) (v : Walks keys buckets k w bucket p) where
    pub walk_fails : p ≡ 0 → Sought keys k 0
    walk_fails z = let s = v.seeks in find_fails s.hash keys buckets bucket k w s.number s.is s.chains p v.at z

    module _ (z : p ≡ 0 → ⊥) where
      pub walk_inside : p - 1 < length keys
      walk_inside = let s = v.seeks in find_inside s.hash keys buckets bucket k w s.number s.is s.chains p v.at z

      pub walk_place : buckets + (p - 1) < length w
      walk_place = let s = v.seeks in find_place s.hash keys buckets bucket k w s.number s.is s.chains p v.at z (length w) s.room

      pub walk_falls : get_or w (buckets + (p - 1)) 0 < p
      walk_falls = let s = v.seeks in find_falls s.hash keys buckets bucket k w s.number s.is s.chains p v.at z

      module _ (t : Bool) (f : t ≡ same_words (key_at keys (p - 1)) (key_at keys k)) where
        pub walk_hit : t ≡ true → Sought keys k (p - 1 + 1)
        walk_hit y =
            let s = v.seeks in
            let e : p - 1 + 1 ≡ p = omega arith in
            rw e (find_hit s.hash keys buckets bucket k w s.number s.is s.chains p v.at z t f y)

        pub walk_on : t ≡ false → Walks keys buckets k w bucket (get_or w (buckets + (p - 1)) 0)
        walk_on y = let s = v.seeks in record { seeks = s; at = find_on s.hash keys buckets bucket k w s.number s.is s.chains p v.at z t f y }

-- ---- a record looked up, by runs that stand behind the chains

module _ (c : Chains) (k : ℕ) (w : List ℕ) (g : Placed (words_behind c w) c k w) (l : k < c.n) {runs : List ℕ} (e : runs ≡ words_behind c w) where
  pub looked_by : ByRuns runs c
  looked_by = rw e g.by_runs

  pub looked-number : k < length (keys_by runs c)
  looked-number = rw e (omega (arith, g.count))

  module _ (bucket : ℕ) (i : InBucket runs c k bucket) where
    pub looked-seeks : Seeks (keys_by runs c) c.buckets k w bucket
    looked-seeks =
        record {
          hash = hash_by runs c;
          number = looked-number;
          is = i.is;
          below = i.below;
          room = omega (arith, g.built.room);
          chains = rw e g.built.chains;
        }

    pub looked : (p : Option ℕ) → Sought (keys_by runs c) k (link_of p) → SpotIs (words_behind c w) c k (record { bucket = bucket; first = p })
    looked p s = record { in_bucket = rw e at i; sought = rw e at s }

-- ---- a record placed

module _ (words : List ℕ) (c : Chains) (k : ℕ) (w : List ℕ) (g : Placed words c k w) (l : k < c.n) where
  more : (w' : List ℕ) → words_behind c w' ≡ words_behind c w → Built (hash_by words c) (keys_by words c) c.n c.buckets (k + 1) w'
      → Placed words c (k + 1) w'
  more w' e v = record { by_runs = g.by_runs; count = g.count; some = g.some; kept = e ∙ g.kept; built = v }

  module _ (s : Spot) (i : SpotIs words c k s) where
    pub placed_first : s.first ≡ None → Placed words c (k + 1) (set (set (set w (c.buckets + k) (get_or w s.bucket 0)) s.bucket (k + 1)) (c.buckets + c.n + k) k)
    placed_first e =
        let w₁ = set w (c.buckets + k) (get_or w s.bucket 0) in
        let w₂ = set w₁ s.bucket (k + 1) in
        let z : link_of s.first ≡ 0 = ap link_of e in
        more
        (set w₂ (c.buckets + c.n + k) k)
        (drop-set-lt (runs_at c) w₂ (c.buckets + c.n + k) k (omega arith)
        ∙ drop-set-lt (runs_at c) w₁ s.bucket (k + 1) (omega (arith, i.in_bucket.below))
        ∙ drop-set-lt (runs_at c) w (c.buckets + k) (get_or w s.bucket 0) (omega arith))
        (place-first (hash_by words c) (keys_by words c) c.n c.buckets k w s.bucket (link_of s.first) g.built l i.in_bucket.is i.in_bucket.below i.sought z)

    pub placed-later : (f : ℕ) → s.first ≡ Some f → Placed words c (k + 1) (set (set w (c.buckets + k) (get_or w s.bucket 0)) (c.buckets + c.n + k) f)
    placed-later f e =
        let w₁ = set w (c.buckets + k) (get_or w s.bucket 0) in
        let q : link_of s.first ≡ f + 1 = ap link_of e in
        let z : link_of s.first ≡ 0 → ⊥ = λ h. omega arith in
        let r : link_of s.first - 1 ≡ f = omega arith in
        more
        (set w₁ (c.buckets + c.n + k) f)
        (drop-set-lt (runs_at c) w₁ (c.buckets + c.n + k) f (omega arith)
        ∙ drop-set-lt (runs_at c) w (c.buckets + k) (get_or w s.bucket 0) (omega arith))
        (rw r at (place-later (hash_by words c) (keys_by words c) c.n c.buckets k w s.bucket (link_of s.first) g.built l i.in_bucket.is i.in_bucket.below i.sought z))

-- a record that is the same as the one before it
module _ (c : Chains) (k : ℕ) (w : List ℕ) (g : Placed (words_behind c w) c k w) (l : k < c.n) where
  pub repeats-first : k ≡ 0 → Repeats (keys_by (words_behind c w) c) k false
  repeats-first z = record { later = λ e. absurd (false≢true e); equal = λ e. absurd (false≢true e) }

  module _ (z : k ≡ 0 → ⊥) {runs : List ℕ} (e : runs ≡ words_behind c w) where
    pub repeats-before : k - 1 < length (keys_by runs c)
    repeats-before = rw e (omega (arith, g.count))

    pub repeats-told : {t : Bool} → t ≡ same_words (key_at (keys_by runs c) (k - 1)) (key_at (keys_by runs c) k) → Repeats (keys_by (words_behind c w) c) k t
    repeats-told q = record { later = λ y. omega arith; equal = λ y. same_words_true _ _ (sym (rw e at q) ∙ y) }

  module _ {t : Bool} (r : Repeats (keys_by (words_behind c w) c) k t) (y : t ≡ true) where
    pub placed_repeat : Placed (words_behind c w) c (k + 1) (set w (c.buckets + c.n + k) (get_or w (c.buckets + c.n + k - 1) 0))
    placed_repeat =
        more (words_behind c w) c k w g l (set w (c.buckets + c.n + k) (get_or w (c.buckets + c.n + k - 1) 0))
        (drop-set-lt (runs_at c) w (c.buckets + c.n + k) (get_or w (c.buckets + c.n + k - 1) 0) (omega arith))
        (built_repeat (hash_by (words_behind c w) c) (keys_by (words_behind c w) c) c.n c.buckets k w g.built l g.count (r.later y) (r.equal y))

-- ---- all records placed

-- the first k words zeroed
pub zeroed : (k : ℕ) (w z : List ℕ) → k ≤ length w → z ≡ replicate (length (take k w)) 0 → z ++ drop k w ≡ replicate k 0 ++ drop k w
zeroed k w z h e = let l : length (take k w) ≡ k = length-take-le k w h in rw (e, l)

-- the words behind them stay
kept : (n : ℕ) (l r : List ℕ) → r ≡ replicate n 0 ++ drop n l → drop n r ≡ drop n l
kept n l r e = ap (drop n) e ∙ rw (length-replicate n zero) at (drop-append_seam (replicate n 0) (drop n l))

module _ (c : Chains) (w : List ℕ) (g : Compiled c w) {w' : List ℕ} (e : w' ≡ replicate (runs_at c) 0 ++ words_behind c w) where
  same-words : words_behind c w' ≡ words_behind c w
  same-words = kept (runs_at c) w w' e

  pub none-placed : Placed (words_behind c w') c 0 w'
  none-placed =
      rw same-words (record {
        by_runs = g.by_runs;
        count = g.count;
        some = g.some;
        kept = same-words;
        built = built-clear _ _ c.n c.buckets (runs_at c) w' (words_behind c w) (omega arith) (rw e (omega (arith, length-append (replicate {A = ℕ} (runs_at c) 0) (words_behind c w), length-replicate (runs_at c) zero))) e;
      })

  pub all_placed : {w'' : List ℕ} → Placed (words_behind c w') c c.n w'' → Placed (words_behind c w) c c.n w''
  all_placed p = rw same-words at p

-- the runs that a loop over the records began with are those that stand in the workspace
pub placed-next : (words : List ℕ) (c : Chains) (k : ℕ) (w : List ℕ) → Placed words c k w → (j : ℕ) (w' : List ℕ) → Placed (words_behind c w) c j w' → Placed words c j w'
placed-next words c k w p j w' q = rw p.kept at q

-- ---- counted

module _ (words : List ℕ) (c : Chains) (w : List ℕ) (g : Placed words c c.n w) where
  pub placed_tally : Tallied (names_in c.n c.buckets w) c.n c.buckets 0 w
  placed_tally = tally_begins (hash_by words c) (keys_by words c) c.n c.buckets w g.count g.built

  pub placed-counted : (d : ℕ) (w' : List ℕ) → d ≡ length (firsts_to (names_in c.n c.buckets w) c.n) → Tallied (names_in c.n c.buckets w) c.n c.buckets c.n w' → Counted words c d w'
  placed-counted d w' e t =
      record {
        distinct = distinct-is (hash_by words c) (keys_by words c) c.n c.buckets w g.count g.built d e;
        tallied = tallied-is (hash_by words c) (keys_by words c) c.n c.buckets w g.count g.built w' t;
      }
