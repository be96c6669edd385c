-- A type's runs in a workspace, and the records by them.
use Prim.Native.Nat.{ℕ, zero, suc, ◌+◌, ◌-◌, ◌*◌, ◌/◌, ◌<◌, ◌≤◌}
use mathlib.Core.Path.{◌≡◌, refl, sym, ap, ◌∙◌}
use mathlib.Core.List.{List}
use native.Mathlib.Omega.{arith}
use lib.ListN.{length, get_or, replicate}
use Rattle.format.specs.Bytes.{zeros}
use Rattle.format.specs.Image.{Field}
use Rattle.groups.specs.Chains.{names_in, Named}
use Rattle.groups.specs.Groups.{listed, first_of, numbers_of, distinct_of}
use Rattle.groups.specs.Duplicates.{record_at_of, key_of, keys_of, fields_in_of}
use Rattle.groups.specs.Runs.{runs_of, words_of, runs_in, Inside}
use Rattle.groups.proofs.Firsts.{number_at}
use Rattle.groups.proofs.Runs.{runs_image, runs_in_words, runs_inside, fields-inside}
use Rattle.runs.specs.Listing.{RunsListed}
use Rattle.firsts.specs.Finding.{Heads, Known, FirstsAre}
use Rattle.firsts.specs.declared.chains.Chains.{Chains}
use Rattle.firsts.specs.Chaining.{words_behind, keys_by, Compiled, Counted}
use Rattle.firsts.specs.Records.{both, keys_in, Comparable}
use Rattle.firsts.proofs.KeyLaws.{fields_in}
use Rattle.std.specs.Prelude.{Option, Some, None}
use Rattle.std.proofs.lemmas.Option.{same_Some, none-some}

-- ---- the runs of a list of fields stand at the end

module _ (rs : List Field) (n : ℕ) where
  pub heads-none : (w : List ℕ) → Heads rs n None w
  heads-none w = record { some = λ k e. absurd (cc); room = λ k e. absurd (cc); words = λ k e. absurd (cc) }

  module _ (k : ℕ) (w w' : List ℕ) (g : RunsListed ((length w - 2 * n - 1) / 2 + 1) rs k w w') (h : n < length w / 2) (f : k < (length w - 2 * n - 1) / 2 + 1) (low : length w * 8 < 9223372036854775808) where
    all-counted : k ≡ length rs
    all-counted = omega (arith, g.count f)

    behind : length w - 2 * n - 2 * k + n + n ≡ length w - 2 * length rs
    behind = omega (arith, all-counted)

    pub heads-some : Heads rs n (Some (length w - 2 * n - 2 * k)) w'
    heads-some =
        record {
          some = λ r e. let q : length w - 2 * n - 2 * k ≡ r = cc in rw (← q) (omega arith);
          room = λ r e. let q : length w - 2 * n - 2 * k ≡ r = cc in rw (← q) (omega (arith, behind, g.long));
          words = λ r e. let q : length w - 2 * n - 2 * k ≡ r = cc in rw (← q, behind) ((g.stored f).words (omega (arith, all-counted)));
        }

-- ---- keys by runs are keys by fields

listed_same : {A : Type 0} (f g : ℕ → A) → ((k : ℕ) → f k ≡ g k) → (n : ℕ) → listed f n ≡ listed g n
unfolding listed
listed_same f g h zero = refl
listed_same f g h (suc n) = rw (listed_same f g h n, h n)

keys_runs : (fs : List Field) (block : List ℕ) (size : ℕ) → keys_of (runs_of fs) block size ≡ keys_of fs block size
unfolding keys_of
keys_runs fs block size = listed_same (key_of (runs_of fs) block size) (key_of fs block size) (λ k. unfold key_of in runs_image fs (record_at_of block size k) 0 size) (length block / size)

module _ (table pool : List ℕ) (c : Chains) (w : List ℕ) (g : Comparable table pool c.records) (r : Option ℕ) (h : Heads (runs_of (fields_in_of table pool)) c.n r w) (q : r ≡ Some c.buckets) where
  words_are : words_behind c w ≡ words_of (runs_of (fields_in_of table pool))
  words_are = h.words c.buckets q

  runs_are : runs_in (words_behind c w) ≡ runs_of (fields_in_of table pool)
  runs_are = rw words_are (runs_in_words (runs_of (fields_in_of table pool)))

  keys-are : keys_by (words_behind c w) c ≡ keys_in table pool c.records
  unfolding keys_by keys_in
  keys-are = rw runs_are (keys_runs (fields_in_of table pool) (both c.records) c.records.size)

  all-inside : Inside c.records.size (runs_of (fields_in_of table pool))
  all-inside =
      let d = g.admits.admitted in
      runs_inside c.records.size (fields_in_of table pool) (rw (fields_in table pool c.records.size g.admits, g.admits.size_is) (fields-inside g.admits.type d.inside d.sized))

  pub compiled : c.n ≡ length (keys_in table pool c.records) → Compiled c w
  compiled e =
      record {
        by_runs = record { whole = g.whole; inside = rw runs_are all-inside };
        count = rw keys-are e;
        some = h.some c.buckets q;
        room = h.room c.buckets q;
      }

  -- the firsts by the runs are those by the fields
  pub compiled-firsts : c.n ≡ length (keys_in table pool c.records) → (d : ℕ) (w' : List ℕ) → Counted (words_behind c w) c d w'
      → FirstsAre (keys_in table pool c.records) (length (keys_in table pool c.records)) (record { buckets = Some c.buckets; distinct = d }) w'
  compiled-firsts e d w' v = rw (← e)
      record {
        distinct = rw keys-are at v.distinct;
        known = record { tallied = λ k e. let f : c.buckets ≡ k = same_Some c.buckets k e in rw (← f) (rw keys-are at v.tallied) };
      }

-- without heads
pub plain-firsts : (keys : List (List ℕ)) (n d : ℕ) (w : List ℕ) (r : Option ℕ) → r ≡ None → d ≡ distinct_of keys → FirstsAre keys n (record { buckets = r; distinct = d }) w
plain-firsts keys n d w r q e = record { distinct = e; known = record { tallied = λ k f. absurd (none-some k (sym q ∙ f)) } }

-- ---- the first of one record

pub first-sought : (keys : List (List ℕ)) (n k r : ℕ) → r ≡ first_of keys k → n ≡ length keys → k < n → r ≡ get_or (numbers_of keys) k 0
first-sought keys n k r e l h = e ∙ sym (number_at keys k (omega arith))

module _ (ns : List ℕ) (n : ℕ) (r : Option ℕ) (w : List ℕ) (g : Known ns n r w) (buckets : ℕ) (q : r ≡ Some buckets) where
  pub tallied-room : buckets + n + n ≤ length w
  tallied-room = (g.tallied buckets q).room

  pub tallied-first : (k f : ℕ) → Named (names_in n buckets w) k f → f ≡ get_or ns k 0
  tallied-first k f e = let v = g.tallied buckets q in e.name ∙ ap (λ (l : List ℕ). get_or l k 0) v.names

-- a workspace zeroed
pub all_cleared : (w w' w'' : List ℕ) → length w' ≡ length w → w'' ≡ replicate (length w') 0 → w'' ≡ zeros (length w)
unfolding zeros
all_cleared w w' w'' l z = z ∙ rw l
