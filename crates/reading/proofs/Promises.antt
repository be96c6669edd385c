-- What `Reads` says of `read`, in document 01's words.
use Rattle.std.specs.Prelude.{Err, Ok, Result}
use Prim.Native.Nat.{ℕ, ◌+◌, ◌*◌, ◌/◌, ◌<◌, ◌≤◌, min}
use mathlib.Core.Path.{◌≡◌, refl, sym, ap, ◌∙◌}
use mathlib.Core.Bool.{true}
use mathlib.Core.List.Memᴰ
use mathlib.Core.List.{List, [], ◌∷◌, ◌++◌, Memᴰ}
use mathlib.Core.Logic.{⊎_elim}
use mathlib.Core.Option.{none, some}
use native.Mathlib.Omega.{arith}
use lib.ListN.{length}
use Rattle.refusal.specs.declared.Refusal.{Refusal}
use Rattle.refusal.specs.declared.Refusal.TheVariants.{Short, TooNew, BadClass, BadVersion, BadPadding, BadCharset, ZeroSize}
use Rattle.format.specs.Bytes.{AllBytes, zeros, padded}
use Rattle.format.specs.Datatype.{fixed_point, opaque, reference, Datatype, leaf, array, depth, row_count, pool_bytes}
use Rattle.format.specs.Message.{message, versions, storable, carried, first_above}
use Rattle.refusal.specs.Refusal.{answer_number, answer_values}
use Rattle.format.specs.Outcome.{Outcome, gives, refuses, outcome_number, outcome_values, answer_of}
use Rattle.format.specs.Reading.{Answer, got, refused, Read, read_outcome_of, reading_into, reading, reads_back, table_after, pool_after}
use Rattle.format.specs.Table.{WithinLimits, SetsOut, type_of, rows, max_rows, max_pool, table_of, pool_of}
use Rattle.format.proofs.Cases.{U1, P, type_p, two_r, seven_zeros, computing}
use Rattle.format.proofs.Counts.{counts}
use Rattle.format.proofs.Demand3.{round_trip, none_above}
use Rattle.format.proofs.Faithful.{Faithful, reading-faithful}
use Rattle.format.proofs.Limits.{limit-from_15}
use Rattle.format.proofs.Rows.{length-rows}
use Rattle.format.proofs.Sure.{Sure, met}
use Rattle.format.proofs.Table.{sets_out_of, type_of_complete}
use Rattle.format.proofs.Bytes.{length-padded}
use Rattle.reading.specs.Reads.{Reads}

-- a refusal, with table and pool all zero
pub record Refuses (e : Refusal) (table pool : List ℕ) (r : Result ℕ Refusal) (table' pool' : List ℕ) : Type 0 where
  pub answer : r ≡ Err e
  pub table_is : table' ≡ zeros (length table)
  pub pool-is : pool' ≡ zeros (length pool)

-- "The same type is the same rows and pool bytes, in number and order, with zeros after; its length is the count consumed"
pub record GivesBack (t : Datatype) (consumed : ℕ) (table pool : List ℕ) (r : Result ℕ Refusal) (table' pool' : List ℕ) : Type 0 where
  pub answer : r ≡ Ok consumed
  pub table_is : table' ≡ table_of (length table) t
  pub pool-is : pool' ≡ pool_of (length pool) t

nothing-padded : (n : ℕ) → padded n [] ≡ zeros n
unfolding padded
nothing-padded n = ap zeros (omega arith)

-- rows and pool bytes of a type that was read fit what was lent
fits-answer : (n m : ℕ) (x : Answer Datatype) (y : Read)
    → Sure (λ t at' s' r' p'. (min (n / 16) max_rows ≡ row_count t + r') × (min m max_pool ≡ length (pool_bytes t) + p') × (depth t ≤ 32)) x
    → read_outcome_of x ≡ gives y → (length (rows 0 y.type) ≤ n) × (length (pool_bytes y.type) ≤ m)
unfolding read_outcome_of
fits-answer n m (refused e) y h q = let z : ◌≡◌ {A = ℕ} 0 1 = cc in absurd (omega arith)
fits-answer n m (got t at s r p) y (met h) q =
    let e : t ≡ y.type = cc in
    rw (← e) (omega (arith, length-rows t 0), omega arith)

reading-fits : (l n m : ℕ) (s : List ℕ) (y : Read) → reading l n m s ≡ gives y → (length (rows 0 y.type) ≤ n) × (length (pool_bytes y.type) ≤ m)
unfolding reading reading_into
reading-fits l n m s y e = fits-answer n m _ y (counts l 32 (length s) 0 s (min (n / 16) max_rows) (min m max_pool)) e

-- whatever the bytes, a type that was read is sound, within the limits, and the one that table and pool set out afterwards
pub record GivesType (limit : ℕ) (d table pool table' pool' : List ℕ) (n : ℕ) : Type 0 where
  pub type : Datatype
  pub is : reading limit (length table) (length pool) d ≡ gives (record { type = type; consumed = n })
  pub faithful : Faithful (length table) (length pool) type
  pub table_is : table' ≡ table_of (length table) type
  pub pool-is : pool' ≡ pool_of (length pool) type
  pub sets-out : SetsOut type table' pool'
  pub type-of : type_of table' pool' ≡ gives type

module _ {limit : ℕ} {d table pool : List ℕ} {r : Result ℕ Refusal} {table' pool' : List ℕ} (h : Reads limit d table pool r table' pool') where
  -- "15 or more is the Rust's reading": such a limit gives what 15 gives
  pub reads_as_at_15 : AllBytes d → 15 ≤ limit → Reads 15 d table pool r table' pool'
  reads_as_at_15 b l =
      let e : reading 15 (length table) (length pool) d ≡ reading limit (length table) (length pool) d = sym (limit-from_15 limit (length table) (length pool) d b l) in
      record {
        answer = rw e h.answer;
        number = rw e h.number;
        values = rw e h.values;
        table_is = rw e h.table_is;
        pool-is = rw e h.pool-is;
      }

  refuses_as : (e : Refusal) → reading limit (length table) (length pool) d ≡ refuses e → Refuses e table pool r table' pool'
  unfolding answer_of table_after pool_after
  refuses_as e q =
      record {
        answer = rw q at h.answer;
        table_is = (rw q at h.table_is) ∙ nothing-padded (length table);
        pool-is = (rw q at h.pool-is) ∙ nothing-padded (length pool);
      }

  gives_as : (y : Read) → reading limit (length table) (length pool) d ≡ gives y → GivesBack y.type y.consumed table pool r table' pool'
  unfolding answer_of table_after pool_after
  gives_as y q = record { answer = rw q at h.answer; table_is = rw q at h.table_is; pool-is = rw q at h.pool-is }

  -- "A refused reading leaves table and pool all zero"
  pub refused-leaves-zeros : (e : Refusal) → r ≡ Err e → (table' ≡ zeros (length table)) × (pool' ≡ zeros (length pool))
  refused-leaves-zeros e q = go (reading limit (length table) (length pool) d) refl
    where
      go : (x : Outcome Read) → reading limit (length table) (length pool) d ≡ x → (table' ≡ zeros (length table)) × (pool' ≡ zeros (length pool))
      go (gives y) k =
          let a = (gives_as y k).answer in
          let z : ◌≡◌ {A = ℕ} 0 1 = cc in
          absurd (omega arith)
      go (refuses f) k = ((refuses_as f k).table_is, (refuses_as f k).pool-is)

  pub lengths_stay : (length table' ≡ length table) × (length pool' ≡ length pool)
  unfolding table_of pool_of table_after pool_after
  lengths_stay = go (reading limit (length table) (length pool) d) refl
    where
      go : (x : Outcome Read) → reading limit (length table) (length pool) d ≡ x → (length table' ≡ length table) × (length pool' ≡ length pool)
      go (gives y) k =
          let f = reading-fits limit (length table) (length pool) d y k in
          (ap length (rw k at h.table_is) ∙ length-padded _ _ f.0, ap length (rw k at h.pool-is) ∙ length-padded _ _ f.1)
      go (refuses f) k = (ap length (rw k at h.table_is) ∙ length-padded _ [] (omega arith), ap length (rw k at h.pool-is) ∙ length-padded _ [] (omega arith))

  pub read_gives-type : (n : ℕ) → AllBytes d → r ≡ Ok n → GivesType limit d table pool table' pool' n
  read_gives-type n b q = go (reading limit (length table) (length pool) d) refl
    where
      go : (x : Outcome Read) → reading limit (length table) (length pool) d ≡ x → GivesType limit d table pool table' pool' n
      go (refuses f) k =
          let a = (refuses_as f k).answer in
          let z : ◌≡◌ {A = ℕ} 0 1 = cc in
          absurd (omega arith)
      go (gives y) k =
          let a = gives_as y k in
          let f = reading-faithful limit (length table) (length pool) d y b k in
          let g = reading-fits limit (length table) (length pool) d y k in
          let e : y.consumed ≡ n = cc in
          let s : SetsOut y.type table' pool' = rw (a.table_is, a.pool-is) (sets_out_of y.type (length table) (length pool) f.within f.sound.codes g.0 g.1) in
          record { type = y.type; is = rw (← e) k; faithful = f; table_is = a.table_is; pool-is = a.pool-is; sets-out = s; type-of = type_of_complete table' pool' y.type s }

-- Demand 3, first half. What it supposes: d is the message that edition e writes for a storable type that it carries, with any bytes
-- behind, and table and pool hold the type
pub record Written (e : ℕ) (t : Datatype) (d behind table pool : List ℕ) : Type 0 where
  pub is : d ≡ message e t ++ behind
  pub edition : (0 < e) × (e ≤ 3)
  pub may_be_stored : storable t ≡ true
  pub may_be_carried : carried e t ≡ true
  pub within : WithinLimits t
  pub rows_fit : 16 * row_count t ≤ length table
  pub pool-fits : length (pool_bytes t) ≤ length pool

module _ {limit : ℕ} {d table pool : List ℕ} {r : Result ℕ Refusal} {table' pool' : List ℕ} (h : Reads limit d table pool r table' pool') {e : ℕ} {t : Datatype} {behind : List ℕ} (w : Written e t d behind table pool) where
  back : reading limit (length table) (length pool) d ≡ reads_back (first_above limit (versions e t)) t (length (message e t))
  back = rw w.is (round_trip e limit (length table) (length pool) t behind w.edition.0 w.edition.1 w.may_be_stored w.may_be_carried w.within w.rows_fit w.pool-fits)

  -- "TooNew bears the version of the first that does, in message order"
  pub written_too_new : (v : ℕ) → first_above limit (versions e t) ≡ some v → Refuses (TooNew v) table pool r table' pool'
  unfolding reads_back
  written_too_new v q = refuses_as h (TooNew v) (rw q at back)

  pub written-reads-back : first_above limit (versions e t) ≡ none → GivesBack t (length (message e t)) table pool r table' pool'
  unfolding reads_back
  written-reads-back q = gives_as h (record { type = t; consumed = length (message e t) }) (rw q at back)

  -- "No header written is above 3, so each limit from 3 up gives the type back"
  pub written-reads-back-from_3 : 3 ≤ limit → GivesBack t (length (message e t)) table pool r table' pool'
  written-reads-back-from_3 q = written-reads-back (none_above e limit (omega arith) (omega (arith, w.edition.1)) t)

-- Document 01's starred cases of reading. The law is for any table of 64 rows and pool of 256 bytes, whatever they hold before
pub record ReadCase : Type 0 where
  pub limit : ℕ
  pub message : List ℕ
  pub outcome : Outcome Read
  -- 0 and the count consumed, or the refusal's number and values
  pub says : List ℕ

pub record Answers (c : ReadCase) (r : Result ℕ Refusal) (table' pool' : List ℕ) : Type 0 where
  pub answer : r ≡ answer_of (λ x. x.consumed) c.outcome
  pub says_so : answer_number r ∷ answer_values (λ n. n ∷ []) r ≡ c.says
  pub table_is : table' ≡ table_after 1024 c.outcome
  pub pool-is : pool' ≡ pool_after 256 c.outcome

unfoldable pub starred_readings : List ReadCase
starred_readings =
    record { limit = 15; message = []; outcome = refuses (Short 8 0); says = 4 ∷ 8 ∷ 0 ∷ [] }
    ∷ record { limit = 15; message = U1; outcome = gives (record { type = leaf 1 (fixed_point 0 0 0 8); consumed = 12 }); says = 0 ∷ 12 ∷ [] }
    ∷ record { limit = 15; message = 0x15 ∷ 3 ∷ 0 ∷ 0 ∷ 5 ∷ 0 ∷ 0 ∷ 0 ∷ 0x61 ∷ 0x62 ∷ 0x63 ∷ []; outcome = gives (record { type = leaf 5 (opaque (0x61 ∷ 0x62 ∷ 0x63 ∷ [])); consumed = 16 }); says = 0 ∷ 16 ∷ [] }
    ∷ record { limit = 15; message = 0x1c ∷ seven_zeros; outcome = refuses (BadClass 12); says = 6 ∷ 12 ∷ [] }
    ∷ record { limit = 15; message = 0x06 ∷ seven_zeros; outcome = refuses (BadVersion 6 0); says = 7 ∷ 6 ∷ 0 ∷ [] }
    ∷ record { limit = 15; message = 0x13 ∷ 0x23 ∷ 0 ∷ 0 ∷ 1 ∷ 0 ∷ 0 ∷ 0 ∷ []; outcome = refuses (BadPadding 3); says = 8 ∷ 3 ∷ [] }
    ∷ record { limit = 15; message = 0x13 ∷ 0x20 ∷ 0 ∷ 0 ∷ 1 ∷ 0 ∷ 0 ∷ 0 ∷ []; outcome = refuses (BadCharset 2); says = 9 ∷ 2 ∷ [] }
    ∷ record { limit = 15; message = P; outcome = gives (record { type = type_p; consumed = 38 }); says = 0 ∷ 38 ∷ [] }
    ∷ record { limit = 2; message = P; outcome = refuses (TooNew 3); says = 5 ∷ 3 ∷ [] }
    ∷ record { limit = 15; message = 0x3a ∷ (seven_zeros ++ (1 ∷ 0 ∷ 0 ∷ 0 ∷ 0 ∷ U1)); outcome = refuses (ZeroSize 10); says = 12 ∷ 10 ∷ [] }
    ∷ record { limit = 15; message = two_r; outcome = gives (record { type = array (2 ∷ []) (leaf 8 (reference 0)); consumed = 21 }); says = 0 ∷ 21 ∷ [] }
    ∷ []

-- what is computed of a list of cases, and what is expected
unfoldable outcomes : List ReadCase → List (Outcome Read)
outcomes [] = []
outcomes (c ∷ cs) = reading c.limit 1024 256 c.message ∷ outcomes cs

unfoldable expected : List ReadCase → List (Outcome Read)
expected [] = []
expected (c ∷ cs) = c.outcome ∷ expected cs

unfoldable spoken : List ReadCase → List (List ℕ)
spoken [] = []
spoken (c ∷ cs) = (outcome_number c.outcome ∷ outcome_values (λ x. x.consumed ∷ []) c.outcome) ∷ spoken cs

unfoldable said : List ReadCase → List (List ℕ)
said [] = []
said (c ∷ cs) = c.says ∷ said cs

outcomes_computed : outcomes starred_readings ≡ expected starred_readings
unfolding starred_readings outcomes expected computing
outcomes_computed = refl

spoken_computed : spoken starred_readings ≡ said starred_readings
unfolding starred_readings spoken said outcome_number outcome_values computing
spoken_computed = refl

abbrev Computed : ReadCase → Type 0
Computed c = (reading c.limit 1024 256 c.message ≡ c.outcome) × (outcome_number c.outcome ∷ outcome_values (λ x. x.consumed ∷ []) c.outcome ≡ c.says)

of-each : {c : ReadCase} (cs : List ReadCase) → outcomes cs ≡ expected cs → spoken cs ≡ said cs → Memᴰ c cs → Computed c
unfolding outcomes expected spoken said
of-each [] k l m = absurd (Memᴰ.not-nil m)
of-each {c} (d ∷ cs) k l m =
    ⊎_elim (λ (e : c ≡ d). rw e (cc, cc)) (λ (n : Memᴰ c cs). of-each cs (cc) (cc) n) (Memᴰ.cases_cons m)

pub starred_readings_lem : {c : ReadCase} {table pool : List ℕ} {r : Result ℕ Refusal} {table' pool' : List ℕ} → Memᴰ c starred_readings
    → Reads c.limit c.message table pool r table' pool' → length table ≡ 1024 → length pool ≡ 256 → Answers c r table' pool'
starred_readings_lem m h lt lp =
    let k = of-each starred_readings outcomes_computed spoken_computed m in
    let e = k.0 in
    record {
      answer = rw (lt, lp, e) at h.answer;
      says_so = rw (h.number, h.values, lt, lp, e) k.1;
      table_is = rw (lt, lp, e) at h.table_is;
      pool-is = rw (lt, lp, e) at h.pool-is;
    }
