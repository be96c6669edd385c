-- `duplicates` and `duplicates_words`: one law for each way out.
use Rattle.firsts.specs.declared.records.Records.{Records}
use Prim.Native.Nat.{ℕ, ◌*◌, ◌/◌, ◌%◌, ◌<◌, ◌≤◌, min}
use mathlib.Core.Path.{◌≡◌, refl, sym, ap, ◌∙◌}
use mathlib.Core.Logic.{⊎_elim}
use mathlib.Core.Bool.{true, false}
use mathlib.Core.List.{List, [], ◌++◌, append-nil}
use native.Mathlib.Omega.{arith}
use native.Mathlib.Nat.{zero-mod, div-le_self}
use lib.ListN.{length, take, drop, replicate, drop_of_length-le}
use lib.Seq.{length-take-le}
use Rattle.std.proofs.lemmas.List.{take-append-drop}
use lib.Dec.{ltb}
use borrow.Author.Tests.{ltb-true, ltb-false}
use Rattle.refusal.specs.declared.Refusal.{Refusal}
use Rattle.refusal.specs.declared.Refusal.TheVariants.{WrongLength, NoRoom}
use Rattle.format.specs.Outcome.{Outcome, gives, refuses, when_given, needed, output_after, answer_of}
use Rattle.format.specs.Ownership.{admission}
use Rattle.format.proofs.Booleans.{true_or_false}
use Rattle.format.proofs.Outcomes.{answers}
use Rattle.compare.specs.Agreeing.{Admits}
use Rattle.compare.proofs.Comparing.{refused-admission}
use Rattle.groups.specs.Groups.{numbers_of, firsts_of, distinct_of, sizes_of}
use Rattle.groups.specs.Duplicates.{Groups as GroupLists, keys_of, fields_in_of, groups_of, duplicating}
use Rattle.groups.proofs.Outcomes.{duplicating-refused, duplicating-length, duplicating-numbers, duplicating-sizes, duplicating-given}
use Rattle.groups.proofs.Firsts.{length-numbers}
use Rattle.groups.proofs.Keys.{length-keys}
use Rattle.groups.proofs.Counts.{length-sizes, firsts_le}
use Rattle.duplicates.specs.Answers.{groups_told, groups_values, numbers_given, sizes_given, fitting_answer, written, Listed, Answered, DuplicatesAre}
use Rattle.firsts.specs.Records.{both, keys_in, Comparable}
use Rattle.duplicates.specs.declared.Groups.{Groups}
use Rattle.std.specs.Prelude.{Result, Ok, Err}
use Rattle.firsts.proofs.Compiling.{all_cleared}
use Rattle.firsts.proofs.KeyLaws.{admits-some, admits-admission}

-- ---- a refusal leaves both lists as they are

pub record_refused : (o : Outcome GroupLists) (e : Refusal) (m s : List ℕ) → o ≡ refuses e → Answered o (Err e) m m s s
unfolding answer_of groups_told numbers_given sizes_given when_given output_after
record_refused o e m s h = rw h (record { answer = refl; numbers-are = refl; sizes-are = refl })

pub answer-refused : (table pool block m s : List ℕ) {x : Result ℕ Refusal} → x ≡ answer_of (λ (n : ℕ). n) (admission table pool) → (e : Refusal) → x ≡ Err e
    → Answered (duplicating table pool block (length m) (length s)) (Err e) m m s s
answer-refused table pool block m s h e q =
    record_refused (duplicating table pool block (length m) (length s)) e m s (duplicating-refused table pool e (refused-admission table pool h e q) block (length m) (length s))

-- ---- what is written, by the answer

written-refused : (r : Result Groups Refusal) (e : Refusal) (x y : List ℕ) → r ≡ Err e → written r x y ≡ y
unfolding written
written-refused r e x y h = rw h

written-found : (r : Result Groups Refusal) (n d : ℕ) (x y : List ℕ) → r ≡ Ok (record { records = n; distinct = d }) → written r x y ≡ x ++ drop (length x) y
unfolding written
written-found r n d x y h = rw h

fits_not : (n d places : ℕ) → ltb places d ≡ true → fitting_answer n d places ≡ Err (NoRoom d)
unfolding fitting_answer
fits_not n d places q = rw q

fits_all : (n d places : ℕ) → ltb places d ≡ false → fitting_answer n d places ≡ Ok (record { records = n; distinct = d })
unfolding fitting_answer
fits_all n d places q = rw q

-- ---- an admitted type

module _ (table pool block : List ℕ) (size : ℕ) (g : Admits table pool size) (m s : List ℕ) where
  pub sized-length : (length block % size ≡ 0 → ⊥) → Answered (duplicating table pool block (length m) (length s)) (Err WrongLength) m m s s
  sized-length d = record_refused _ WrongLength m s (duplicating-length table pool block (length m) (length s) size (admits-admission table pool size g) d)

  module _ (h : length block % size ≡ 0) (n : ℕ) (e : n ≡ length block / size) (low : length block * 1 < 9223372036854775808) where
    low-number : n < 9223372036854775808
    low-number = omega (arith, div-le_self (length block) size)

    pub sized-room : length m < n → Answered (duplicating table pool block (length m) (length s)) (Err (NoRoom n)) m m s s
    unfolding needed
    sized-room l =
        let c : min (length block / size) 18446744073709551615 ≡ n = omega (arith, low-number) in
        record_refused _ (NoRoom n) m s (duplicating-numbers table pool block (length m) (length s) size (admits-admission table pool size g) h (omega arith) ∙ rw c)

-- the block's records, with a second block that is empty
module _ (table pool : List ℕ) (rs : Records) (g : Admits table pool rs.size) (z : rs.b.now ≡ []) where
  abbrev block : List ℕ
  block = rs.a.now

  abbrev size : ℕ
  size = rs.size

  abbrev keys : List (List ℕ)
  keys = keys_in table pool rs

  alone : both rs ≡ block
  alone = ap (λ (x : List ℕ). rs.a.now ++ x) z ∙ append-nil rs.a.now

  keys-are : keys_of (fields_in_of table pool) block size ≡ keys
  unfolding keys_in
  keys-are = ap (λ (x : List ℕ). keys_of (fields_in_of table pool) x rs.size) (sym alone)

  keys-count : (n : ℕ) → n ≡ length block / size → n ≡ length keys
  unfolding keys_in
  keys-count n e = e ∙ sym (length-keys (fields_in_of table pool) (both rs) size ∙ ap (λ (x : List ℕ). length x / size) alone)

  pub places-count : (n : ℕ) (m : List ℕ) → n ≡ length block / size → n ≤ length m → length (take n m) ≡ length keys
  places-count n m e l = length-take-le n m l ∙ keys-count n e

  pub keys_comparable : length block % size ≡ 0 → Comparable table pool rs
  keys_comparable h = record { admits = g; whole = record { some = admits-some table pool size g; first = h; second = rw z (zero-mod size) } }

  module _ (m s : List ℕ) where
    module _ (h : length block % size ≡ 0) (n : ℕ) (e : n ≡ length block / size) (low : length block * 1 < 9223372036854775808) where
      module _ (l : n ≤ length m) where
        few : distinct_of keys ≤ n
        unfolding distinct_of firsts_of
        few = omega (arith, firsts_le (numbers_of keys) (length keys), keys-count n e)

        full : distinct_of keys ≤ length s → duplicating table pool block (length m) (length s) ≡ gives (groups_of keys)
        full q = duplicating-given table pool block (length m) (length s) size (admits-admission table pool size g) h (omega arith) (rw keys-are q) ∙ rw keys-are

        short : length s < distinct_of keys → duplicating table pool block (length m) (length s) ≡ refuses (NoRoom (distinct_of keys))
        unfolding needed
        short q =
            let c : min (distinct_of keys) 18446744073709551615 ≡ distinct_of keys = omega (arith, few, low-number table pool block size g m s h n e low) in
            duplicating-sizes table pool block (length m) (length s) size (admits-admission table pool size g) h (omega arith) (rw keys-are q) ∙ rw (keys-are, c)

        -- p' stands in the first n places
        module _ (r : Result Groups Refusal) (p' s' : List ℕ) (v : Listed (numbers_of keys) r (take n m) p' s s') where
          abbrev m' : List ℕ
          m' = p' ++ drop n m

          answer-is : r ≡ fitting_answer (length keys) (distinct_of keys) (length s)
          unfolding distinct_of firsts_of
          answer-is = rw (length-numbers keys) at v.answer

          sizes-is : s' ≡ written r (sizes_of keys) s
          unfolding sizes_of
          sizes-is = rw (length-numbers keys) at v.sizes-are

          sizes-long : length (sizes_of keys) ≡ distinct_of keys
          unfolding sizes_of distinct_of firsts_of
          sizes-long = length-sizes (numbers_of keys) (length keys)

          numbers-long : length (numbers_of keys) ≡ n
          numbers-long = length-numbers keys ∙ sym (keys-count n e)

          listed-short : ltb (length s) (distinct_of keys) ≡ true → Answered (duplicating table pool block (length m) (length s)) r m m' s s'
          listed-short q =
              let a : r ≡ Err (NoRoom (distinct_of keys)) = answer-is ∙ fits_not (length keys) (distinct_of keys) (length s) q in
              let p : p' ≡ take n m = v.numbers-are ∙ written-refused r (NoRoom (distinct_of keys)) (numbers_of keys) (take n m) a in
              let u : p' ++ drop n m ≡ m = rw p (take-append-drop n m) in
              let x : s' ≡ s = sizes-is ∙ written-refused r (NoRoom (distinct_of keys)) (sizes_of keys) s a in
              rw (a, u, x) (record_refused _ (NoRoom (distinct_of keys)) m s (short (ltb-true (length s) (distinct_of keys) q)))

          listed-full : ltb (length s) (distinct_of keys) ≡ false → Answered (duplicating table pool block (length m) (length s)) r m m' s s'
          unfolding answer_of groups_told numbers_given sizes_given when_given output_after groups_of
          listed-full q =
              let a : r ≡ Ok (record { records = length keys; distinct = distinct_of keys }) = answer-is ∙ fits_all (length keys) (distinct_of keys) (length s) q in
              let z : drop (length (numbers_of keys)) (take n m) ≡ [] = drop_of_length-le (take n m) {i = length (numbers_of keys)} (omega (arith, numbers-long, length-take-le n m l)) in
              let p : p' ≡ numbers_of keys = v.numbers-are ∙ written-found r (length keys) (distinct_of keys) (numbers_of keys) (take n m) a ∙ rw z (append-nil (numbers_of keys)) in
              let u : p' ++ drop n m ≡ numbers_of keys ++ drop (length (numbers_of keys)) m = rw (p, numbers-long) in
              let x : s' ≡ sizes_of keys ++ drop (length (sizes_of keys)) s = sizes-is ∙ written-found r (length keys) (distinct_of keys) (sizes_of keys) s a in
              rw (full (ltb-false (length s) (distinct_of keys) q))
              (record { answer = a ∙ rw (length-numbers keys, sizes-long); numbers-are = u; sizes-are = x })

          pub sized-listed : Answered (duplicating table pool block (length m) (length s)) r m m' s s'
          sized-listed = ⊎_elim listed-short listed-full (true_or_false (ltb (length s) (distinct_of keys)))

-- ---- the whole call

pub all_told : (o : Outcome GroupLists) (r : Result Groups Refusal) (m m' s s' w w' w'' : List ℕ) → Answered o r m m' s s' → length w' ≡ length w
    → w'' ≡ replicate (length w') 0 → DuplicatesAre o r m m' s s' w w''
all_told o r m m' s s' w w' w'' a l z =
    record {
      answers = answers groups_told groups_values o r a.answer;
      numbers-are = a.numbers-are;
      sizes-are = a.sizes-are;
      work_is = all_cleared w w' w'' l z;
    }
