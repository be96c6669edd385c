-- Demand 3, first half, in document 01's words: what is written reads back.
use Prim.Native.Nat.{ℕ, ◌+◌, ◌-◌, ◌*◌, ◌/◌, ◌<◌, ◌≤◌, min}
use mathlib.Core.Path.{◌≡◌, refl, ap, ◌∙◌}
use mathlib.Core.Bool.{Bool, true, false, cond}
use mathlib.Core.List.{List, [], ◌∷◌, ◌++◌}
use mathlib.Core.Option.{Option, none, some}
use native.Mathlib.Omega.{arith}
use native.Mathlib.Nat.{zero-add}
use lib.ListN.{length}
use lib.Dec.{leb}
use borrow.Author.Tests.{le-leb}
use Rattle.refusal.specs.declared.Refusal.TheVariants.{TooNew}
use Rattle.format.specs.Datatype.{Datatype, leaf, compound, enumeration, variable_length, array, Members, no_members, member, depth, pool_bytes, row_count}
use Rattle.format.specs.Message.{message, versions, member_versions, storable, carried, first_above}
use Rattle.format.specs.Outcome.{gives}
use Rattle.format.specs.Reading.{Answer, got, refused, read_outcome_of, reading_into, reading, reads_back, table_after, pool_after}
use Rattle.format.specs.Table.{WithinLimits, max_rows, max_pool, table_of, pool_of}
use Rattle.format.proofs.RoundTrip.{reads}
use Rattle.format.proofs.Steps.{held}
use Rattle.format.proofs.Storable.{storable_fact}

outcome-cond : (b : Bool) (x : Answer Datatype) (v : ℕ) (o : Option ℕ) (t : Datatype) (n : ℕ) → read_outcome_of x ≡ reads_back o t n
    → read_outcome_of (cond b x (refused (TooNew v))) ≡ reads_back (cond b o (some v)) t n
unfolding read_outcome_of reads_back
outcome-cond true x v o t n h = h
outcome-cond false x v o t n h = refl

outcome-held : (l : ℕ) (vs : List ℕ) (t : Datatype) (n : ℕ) (s : List ℕ) (r p : ℕ) → read_outcome_of (held l vs (got t n s r p)) ≡ reads_back (first_above l vs) t n
unfolding read_outcome_of held first_above reads_back
outcome-held l [] t n s r p = refl
outcome-held l (v ∷ vs) t n s r p = outcome-cond (leb v l) _ v (first_above l vs) t n (outcome-held l vs t n s r p)

-- in any rows and pool bytes that hold the type
into : (e l r p : ℕ) (t : Datatype) (s : List ℕ) → 0 < e → e ≤ 3 → storable t ≡ true → carried e t ≡ true → depth t ≤ 32 → row_count t ≤ r → length (pool_bytes t) ≤ p
    → reading_into l r p (message e t ++ s) ≡ reads_back (first_above l (versions e t)) t (length (message e t))
unfolding reading_into
into e l r p t s lo hi h c d hr hp =
    let er : row_count t + (r - row_count t) ≡ r = omega arith in
    let ep : length (pool_bytes t) + (p - length (pool_bytes t)) ≡ p = omega arith in
    let law = reads l e lo hi 32 t d (storable_fact e t h c) (length (message e t ++ s)) 0 s (r - row_count t) (p - length (pool_bytes t)) in
    ap read_outcome_of (rw (er, ep, zero-add) at law) ∙ outcome-held l (versions e t) t _ s _ _

-- The round trip. The message that edition e writes for a storable type that it carries, with any bytes behind, under any limit,
-- read into any table of n words and pool of m bytes that hold the type, is TooNew of the first header version above the limit, or
-- the type with the message's length.
pub round_trip : (e l n m : ℕ) (t : Datatype) (s : List ℕ) → 0 < e → e ≤ 3 → storable t ≡ true → carried e t ≡ true → WithinLimits t
    → 16 * row_count t ≤ n → length (pool_bytes t) ≤ m
    → reading l n m (message e t ++ s) ≡ reads_back (first_above l (versions e t)) t (length (message e t))
unfolding reading
round_trip e l n m t s lo hi h c w hn hm =
    into e l (min (n / 16) max_rows) (min m max_pool) t s lo hi h c w.levels (omega (arith, w.rows_fit)) (omega (arith, w.pool-fits))

-- no header is above the edition
above_append : (l : ℕ) (vs ws : List ℕ) → first_above l vs ≡ none → first_above l ws ≡ none → first_above l (vs ++ ws) ≡ none
unfolding first_above
above_append l [] ws h k = k
above_append l (v ∷ vs) ws h k = go (leb v l) h (above_append l vs ws)
  where
    go : (b : Bool) → cond b (first_above l vs) (some v) ≡ none → (first_above l vs ≡ none → first_above l ws ≡ none → first_above l (vs ++ ws) ≡ none)
        → cond b (first_above l (vs ++ ws)) (some v) ≡ none
    go true q f = f q k
    go false q f = cc

module _ (e l : ℕ) (one : 1 ≤ l) (le : e ≤ l) where
  mutual
    unfolding versions first_above

    pub none_above : (t : Datatype) → first_above l (versions e t) ≡ none
    none_above (leaf n x) = rw (le-leb 1 l one)
    none_above (compound n ms) = rw (le-leb e l le) (members-below ms)
    none_above (enumeration n t ms) = rw (le-leb e l le) (none_above t)
    none_above (variable_length i a c t) = rw (le-leb 1 l one) (none_above t)
    none_above (array ds t) = rw (le-leb e l le) (none_above t)

    members-below : (ms : Members) → first_above l (member_versions e ms) ≡ none
    members-below no_members = refl
    members-below (member b o t ms) = above_append l (versions e t) (member_versions e ms) (none_above t) (members-below ms)

-- "No header written is above 3, so each limit from 3 up gives the type back", row for row and pool byte for pool byte, zeros after
pub record ReadsBack (l n m : ℕ) (t : Datatype) (message : List ℕ) (consumed : ℕ) : Type 0 where
  pub answer : reading l n m message ≡ gives (record { type = t; consumed = consumed })
  pub table : table_after n (reading l n m message) ≡ table_of n t
  pub pool : pool_after m (reading l n m message) ≡ pool_of m t

pub reads-back : (e l n m : ℕ) (t : Datatype) (s : List ℕ) → 0 < e → e ≤ 3 → 1 ≤ l → e ≤ l → storable t ≡ true → carried e t ≡ true → WithinLimits t
    → 16 * row_count t ≤ n → length (pool_bytes t) ≤ m
    → ReadsBack l n m t (message e t ++ s) (length (message e t))
unfolding reads_back table_after pool_after
reads-back e l n m t s lo hi one le h c w hn hm =
    let law : reading l n m (message e t ++ s) ≡ gives (record { type = t; consumed = length (message e t) })
    = round_trip e l n m t s lo hi h c w hn hm ∙ rw (none_above e l one le t) in
    record { answer = law; table = rw law; pool = rw law }
