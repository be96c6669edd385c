-- Laws of the answer, by what the calls answer.
use Prim.Native.Nat.{ℕ, ◌*◌, ◌/◌, ◌<◌, ◌≤◌, max}
use mathlib.Core.Path.{◌≡◌, refl, sym, ap, ◌∙◌}
use mathlib.Core.Bool.{Bool}
use mathlib.Core.List.{List}
use native.Mathlib.Nat.{le_trans, mul-le-mul_left, div-mul-le_self}
use native.Mathlib.Omega.{arith}
use lib.ListN.{length}
use borrow.Author.Tests.{lt-ltb, le-ltb, eq-eqb, ne_eqb}
use Rattle.refusal.specs.declared.Refusal.{Refusal}
use Rattle.std.specs.Prelude.{Result, Ok, Err}
use Rattle.format.specs.Outcome.{Outcome, gives, refuses}
use Rattle.format.specs.Outcome.{answer_of as outcome_answer}
use Rattle.format.specs.Ownership.{comparing}
use Rattle.format.specs.Reading.{Read, reading, table_after, pool_after}
use Rattle.format.specs.Sizes.{element_sizing}
use Rattle.format.specs.Slots.{record_size_of, record_count_of}
use Rattle.reading.specs.Reads.{Reads}
use Rattle.table.specs.Survey.{SizedAs}
use Rattle.compare.specs.Agreeing.{Compares}
use Rattle.blocks.specs.Blocks.{record_of_lem}
use Rattle.same.specs.Answers.{answer_of, answer_sized, when_sized, answering, when_read, Answered}
use Rattle.same.specs.declared.answers.Wrong.{Wrong}
use Rattle.same.specs.declared.answers.Wrong.TheVariants.{Refused, Remainder, Past}

-- ---- two records of a size

-- the answer, from that of the comparison
unfoldable from : Result Bool Refusal → Result Bool Wrong
from (Ok x) = Ok x
from (Err e) = Err (Refused e)

from-outcome : (o : Outcome Bool) → from (outcome_answer (λ x. x) o) ≡ answer_of o
unfolding from outcome_answer answer_of
from-outcome (gives x) = refl
from-outcome (refuses e) = refl

-- the whole records are no longer than the block
pub records-within : (block : List ℕ) (n c : ℕ) → c ≡ record_count_of block n → c * n ≤ length block
unfolding record_count_of record_size_of
records-within block n c e =
    let m : n ≤ max n 1 = omega arith in
    rw e (le_trans (mul-le-mul_left (length block / max n 1) m) (div-mul-le_self (length block) (max n 1)))

module _ (table pool block : List ℕ) (n i j c : ℕ) (e : c ≡ record_count_of block n) where
  pub remains : (c * n ≡ length block → ⊥) → Err (Remainder (length block) c n) ≡ answer_sized table pool block n i j
  unfolding answer_sized
  remains q = rw (e, ne_eqb (record_count_of block n * n) (length block) (rw e at q))

  pub past_first : c * n ≡ length block → c ≤ i → Err (Past i c n) ≡ answer_sized table pool block n i j
  unfolding answer_sized
  past_first q h = rw (e, eq-eqb (record_count_of block n * n) (length block) (rw e at q), le-ltb i (record_count_of block n) (rw e at h))

  module _ (q : c * n ≡ length block) (h : i < c) where
    pub past-second : c ≤ j → Err (Past j c n) ≡ answer_sized table pool block n i j
    unfolding answer_sized
    past-second k = rw (e, eq-eqb (record_count_of block n * n) (length block) (rw e at q), lt-ltb i (record_count_of block n) (rw e at h), le-ltb j (record_count_of block n) (rw e at k))

    module _ (k : j < c) (w : Result Bool Refusal) (f : Compares (comparing table pool (record_of_lem block n i) (record_of_lem block n j)) w) where
      from-compared : from w ≡ answer_sized table pool block n i j
      unfolding answer_sized
      from-compared =
          ap from f.answer ∙ (from-outcome (comparing table pool (record_of_lem block n i) (record_of_lem block n j))
          ∙ sym (rw (eq-eqb (record_count_of block n * n) (length block) (rw e at q), lt-ltb i (record_count_of block n) (rw e at h), lt-ltb j (record_count_of block n) (rw e at k))))

      pub compared : {x : Bool} → w ≡ Ok x → Ok x ≡ answer_sized table pool block n i j
      unfolding from
      compared g = sym (ap from g) ∙ from-compared

      pub not-compared : {x : Refusal} → w ≡ Err x → Err (Refused x) ≡ answer_sized table pool block n i j
      unfolding from
      not-compared g = sym (ap from g) ∙ from-compared

-- ---- of the type that a table and pool set out

unfoldable sized : (table pool block : List ℕ) (i j : ℕ) → Result ℕ Refusal → Result Bool Wrong
sized table pool block i j (Ok n) = answer_sized table pool block n i j
sized table pool block i j (Err e) = Err (Refused e)

sized-outcome : (table pool block : List ℕ) (i j : ℕ) (o : Outcome ℕ) → sized table pool block i j (outcome_answer (λ n. n) o) ≡ when_sized table pool block i j o
unfolding sized outcome_answer when_sized
sized-outcome table pool block i j (gives n) = refl
sized-outcome table pool block i j (refuses e) = refl

module _ (table pool block : List ℕ) (i j : ℕ) (w : Result ℕ Refusal) (f : SizedAs (element_sizing table pool) w) where
  by_size : sized table pool block i j w ≡ answering table pool block i j
  unfolding answering
  by_size = ap (sized table pool block i j) f.answer ∙ sized-outcome table pool block i j (element_sizing table pool)

  pub not-sized : {x : Refusal} → w ≡ Err x → Err (Refused x) ≡ answering table pool block i j
  unfolding sized
  not-sized g = sym (ap (sized table pool block i j) g) ∙ by_size

  pub is-sized : {n : ℕ} {r : Result Bool Wrong} → w ≡ Ok n → r ≡ answer_sized table pool block n i j → r ≡ answering table pool block i j
  unfolding sized
  is-sized g k = k ∙ (sym (ap (sized table pool block i j) g) ∙ by_size)

-- ---- of the type of a message

module _ (message block : List ℕ) (i j : ℕ) (table pool : List ℕ) (w : Result ℕ Refusal) (table' pool' : List ℕ) (f : Reads 5 message table pool w table' pool') where
  abbrev outcome : Outcome Read
  outcome = reading 5 (length table) (length pool) message

  refused_so : {x : Refusal} (o : Outcome Read) → outcome_answer (λ y. y.consumed) o ≡ Err x → Err (Refused x) ≡ when_read block i j (length table) (length pool) o
  unfolding outcome_answer when_read
  refused_so (gives y) g = absurd cc
  refused_so (refuses y) g = cc

  pub not_read : {x : Refusal} → w ≡ Err x → Answered message block i j table pool (Err (Refused x)) table' pool'
  not_read g = record { answer = refused_so outcome (sym f.answer ∙ g); table_is = f.table_is; pool-is = f.pool-is }

  read_so : {m : ℕ} (o : Outcome Read) → outcome_answer (λ y. y.consumed) o ≡ Ok m → answering (table_after (length table) o) (pool_after (length pool) o) block i j ≡ when_read block i j (length table) (length pool) o
  unfolding outcome_answer when_read
  read_so (gives y) g = refl
  read_so (refuses y) g = absurd cc

  pub is_read : {m : ℕ} {r : Result Bool Wrong} → w ≡ Ok m → r ≡ answering table' pool' block i j → Answered message block i j table pool r table' pool'
  is_read {m = m} g k = record {
    answer = k ∙ (ap (λ (x : List ℕ). answering x pool' block i j) f.table_is ∙ (ap (λ (x : List ℕ). answering (table_after (length table) outcome) x block i j) f.pool-is ∙ read_so {m = m} outcome (sym f.answer ∙ g)));
    table_is = f.table_is;
    pool-is = f.pool-is;
  }
