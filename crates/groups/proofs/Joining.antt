-- What the result of N6 says, in the words of document 02.
use Prim.Native.Nat.{ℕ, ◌+◌, ◌-◌, ◌*◌, ◌/◌, ◌%◌, ◌<◌, ◌≤◌}
use mathlib.Core.Path.{◌≡◌, refl, sym, ap, ◌∙◌}
use mathlib.Core.Logic.{◌↔◌, ⊎_elim}
use mathlib.Core.Bool.{true, false}
use mathlib.Core.List.{List, [], ◌∷◌, ◌++◌, map, append-nil}
use mathlib.Core.Option.{none}
use native.Mathlib.Nat.{zero-div, div-add-mod', mul-div_cancel, mul-mod_left}
use native.Mathlib.Omega.{arith}
use lib.ListN.{length, get_or, length-append, length-map}
use lib.Seq.{ext_get_or}
use Rattle.format.specs.Datatype.{Datatype, type_size_of}
use Rattle.format.specs.Image.{agree}
use Rattle.format.specs.Outcome.{gives}
use Rattle.format.specs.Ownership.{outside, heap_held, admission, comparing}
use Rattle.format.specs.Slots.{first_zero}
use Rattle.format.specs.Table.{same_words, type_of}
use Rattle.format.proofs.Admission.{admission-given}
use Rattle.format.proofs.Booleans.{not-true-false}
use Rattle.format.proofs.Ownership.{comparing-records}
use Rattle.format.proofs.Same.{agree_transitive}
use Rattle.format.proofs.Slots.{first-zero-size}
use Rattle.groups.specs.Groups.{key_at, listed, numbers_of, firsts_to, firsts_of, distinct_of, sizes_of}
use Rattle.groups.specs.Duplicates.{record_at_of, keys_of, fields_in_of, Groups, groups_of, duplicating}
use Rattle.groups.specs.Join.{records_at, Joint, joint_of, joining}
use Rattle.groups.proofs.Cases.{less_or_not, not_both}
use Rattle.groups.proofs.Firsts.{length-listed, get_d_listed}
use Rattle.groups.proofs.Counts.{firsts_le}
use Rattle.groups.proofs.Keys.{length-keys, record_long}
use Rattle.groups.proofs.Records.{length-records, record_of-records, record_first, record_second, records_split, both_whole, records-of_both, behind, behind_if, behind-then, firsts_split}
use Rattle.groups.proofs.Rising.{first-at, PlaceOf, first-place, firsts-rise}
use Rattle.groups.proofs.Outcomes.{duplicating-given}
use Rattle.groups.proofs.JoinOutcomes.{joining_gave}
use Rattle.groups.proofs.Duplicates.{SameAt, DifferAt, NumbersExactly, GroupsExactly, compared, numbers-exactly, groups-exactly, of_fields}

-- record k of a block differs from each record of the block before it and from each earlier one of its own
pub record NoTwin (table pool before block : List ℕ) (size k : ℕ) : Type 0 where
  pub among_before : (j : ℕ) → j < length before / size → comparing table pool (record_at_of before size j) (record_at_of block size k) ≡ gives false
  pub earlier : (j : ℕ) → j < k → DifferAt table pool block size j k

-- "records that have no earlier twin there, in order"; "that have no twin among all records before them"
pub record KeptExactly (table pool before block : List ℕ) (size : ℕ) (ks : List ℕ) : Type 0 where
  pub rising : (i j : ℕ) → i < j → j < length ks → get_or ks i 0 < get_or ks j 0
  pub inside : (i : ℕ) → i < length ks → get_or ks i 0 < length block / size
  pub without_twin : (i : ℕ) → i < length ks → NoTwin table pool before block size (get_or ks i 0)
  pub all : (k : ℕ) → k < length block / size → NoTwin table pool before block size k → PlaceOf ks k

-- "Both blocks have the same type": the type that the table and pool set out, admitted to comparison
pub record JoinedExactly (table pool a b : List ℕ) (j : Joint) : Type 0 where
  pub type : Datatype
  pub is : type_of table pool ≡ gives type
  pub admitted : admission table pool ≡ gives (type_size_of type)
  pub sized : 0 < type_size_of type
  pub first-whole : length a / type_size_of type * type_size_of type ≡ length a
  pub second-whole : length b / type_size_of type * type_size_of type ≡ length b
  -- "the first block's records that have no earlier twin there, in order, then the second's that have no twin among all records before them", byte for byte
  pub first : List ℕ
  pub second : List ℕ
  pub first-kept : KeptExactly table pool [] a (type_size_of type) first
  pub second-kept : KeptExactly table pool a b (type_size_of type) second
  pub bytes-are : j.bytes ≡ records_at a (type_size_of type) first ++ records_at b (type_size_of type) second
  pub records-are : j.records ≡ length first + length second
  pub long : length j.bytes ≡ j.records * type_size_of type
  -- "It holds no two that are the same"
  pub distinct : (i k : ℕ) → i < j.records → k < j.records → (i ≡ k → ⊥) → DifferAt table pool j.bytes (type_size_of type) i k
  -- "each input record has a twin in it"
  pub first-covered : (k : ℕ) → k < length a / type_size_of type
      → (i : ℕ) × (i < j.records) × (comparing table pool (record_at_of j.bytes (type_size_of type) i) (record_at_of a (type_size_of type) k) ≡ gives true)
  pub second-covered : (k : ℕ) → k < length b / type_size_of type
      → (i : ℕ) × (i < j.records) × (comparing table pool (record_at_of j.bytes (type_size_of type) i) (record_at_of b (type_size_of type) k) ≡ gives true)
  -- "its count is N3's distinct count of the two blocks laid end to end"
  pub counted : (room places : ℕ) → length a / type_size_of type + length b / type_size_of type ≤ room → j.records ≤ places
      → (g : Groups) × (duplicating table pool (a ++ b) room places ≡ gives g) × (length g.sizes ≡ j.records)
  -- its own records are all firsts: N3 numbers them 0, 1, 2 and so on
  pub own-numbers : (room places : ℕ) → j.records ≤ room → j.records ≤ places
      → (g : Groups) × (duplicating table pool j.bytes room places ≡ gives g) × (g.numbers ≡ listed (λ k. k) j.records)

-- ---- the numbers and groups of a block of an admitted type

module _ (table pool block : List ℕ) (size : ℕ) where
  compared-of : (t : Datatype) → type_of table pool ≡ gives t → first_zero t ≡ none → outside t ≡ false → heap_held t ≡ false → size ≡ type_size_of t
      → (i j : ℕ) → i < length block / size → j < length block / size
      → comparing table pool (record_at_of block size i) (record_at_of block size j)
      ≡ gives (same_words (key_at (keys_of (fields_in_of table pool) block size) i) (key_at (keys_of (fields_in_of table pool) block size) j))
  compared-of t g z o p s i j h k =
      rw (of_fields table pool block size t g s, s)
      (compared table pool block t g z o p i j (rw s at h) (rw s at k))

  module _ (d : admission table pool ≡ gives size) where
    compared_in : (i j : ℕ) → i < length (keys_of (fields_in_of table pool) block size) → j < length (keys_of (fields_in_of table pool) block size)
        → comparing table pool (record_at_of block size i) (record_at_of block size j)
        ≡ gives (same_words (key_at (keys_of (fields_in_of table pool) block size) i) (key_at (keys_of (fields_in_of table pool) block size) j))
    compared_in i j h k =
        let a = admission-given table pool size d in
        let n : length (keys_of (fields_in_of table pool) block size) ≡ length block / size = length-keys (fields_in_of table pool) block size in
        compared-of a.type a.is a.sized a.inside a.plain a.size_is i j (omega arith) (omega arith)

    numbers_in : NumbersExactly table pool block size (length block / size) (numbers_of (keys_of (fields_in_of table pool) block size))
    numbers_in = rw (length-keys (fields_in_of table pool) block size) at (numbers-exactly table pool block size (keys_of (fields_in_of table pool) block size) compared_in)

    groups_in : GroupsExactly table pool block size (length block / size) (numbers_of (keys_of (fields_in_of table pool) block size)) (firsts_of (keys_of (fields_in_of table pool) block size)) (sizes_of (keys_of (fields_in_of table pool) block size))
    groups_in = rw (length-keys (fields_in_of table pool) block size) at (groups-exactly table pool block size (keys_of (fields_in_of table pool) block size) compared_in)

-- ---- what is kept, by the numbers of the two blocks laid end to end

module _ (table pool a b : List ℕ) (size : ℕ) (ns : List ℕ) (w : length a % size ≡ 0)
    (q : NumbersExactly table pool (a ++ b) size (length a / size + length b / size) ns) where
  -- which records differ, by their numbers in a block of their own
  module _ (i j : ℕ) where
    both_first : i < length a / size → j < length a / size → DifferAt table pool (a ++ b) size i j ↔ DifferAt table pool a size i j
    unfolding DifferAt
    both_first h k = rw (record_first a b size i h, record_first a b size j k) ((λ e. e), (λ e. e))

    one-of-each : i < length a / size
        → DifferAt table pool (a ++ b) size i (length a / size + j) ↔ comparing table pool (record_at_of a size i) (record_at_of b size j) ≡ gives false
    unfolding DifferAt
    one-of-each h = rw (record_first a b size i h, record_second a b size w j) ((λ e. e), (λ e. e))

    both_second : DifferAt table pool (a ++ b) size (length a / size + i) (length a / size + j) ↔ DifferAt table pool b size i j
    unfolding DifferAt
    both_second = rw (record_second a b size w i, record_second a b size w j) ((λ e. e), (λ e. e))

  first_alone : (k : ℕ) → k < length a / size → get_or ns k 0 ≡ k → NoTwin table pool [] a size k
  first_alone k h e =
      record {
        among_before = λ j l. absurd (omega (arith, zero-div size));
        earlier = λ j l. (both_first j k (omega arith) h).0 (q.earliest k j (omega arith) (omega arith));
      }

  first-own : (k : ℕ) → k < length a / size → NoTwin table pool [] a size k → get_or ns k 0 ≡ k
  first-own k h t = q.itself k (omega arith) (λ j l. (both_first j k (omega arith) h).1 (t.earlier j l))

  second_alone : (k : ℕ) → k < length b / size → get_or ns (length a / size + k) 0 ≡ length a / size + k → NoTwin table pool a b size k
  second_alone k h e =
      record {
        among_before = λ j l. (one-of-each j k l).0 (q.earliest (length a / size + k) j (omega arith) (omega arith));
        earlier = λ j l. (both_second j k).0 (q.earliest (length a / size + k) (length a / size + j) (omega arith) (omega arith));
      }

  second-own : (k : ℕ) → k < length b / size → NoTwin table pool a b size k → get_or ns (length a / size + k) 0 ≡ length a / size + k
  second-own k h t =
      q.itself (length a / size + k) (omega arith)
      (λ j l.
      ⊎_elim
      (λ (f : j < length a / size). (one-of-each j k f).1 (t.among_before j f))
      (λ (f : length a / size ≤ j).
      let e : length a / size + (j - length a / size) ≡ j = omega arith in
      rw e at ((both_second (j - length a / size) k).1 (t.earlier (j - length a / size) (omega arith))))
      (less_or_not j (length a / size)))

  first-numbers : KeptExactly table pool [] a size (firsts_to ns (length a / size))
  first-numbers =
      record {
        rising = firsts-rise ns (length a / size);
        inside = λ i h. (first-at ns (length a / size) i h).below;
        without_twin = λ i h. let f = first-at ns (length a / size) i h in first_alone (get_or (firsts_to ns (length a / size)) i 0) f.below f.own;
        all = λ k h t. first-place ns (length a / size) k h (first-own k h t);
      }

  second-numbers : KeptExactly table pool a b size (firsts_to (behind ns (length a / size) (length b / size)) (length b / size))
  second-numbers =
      let bs = behind ns (length a / size) (length b / size) in
      record {
        rising = firsts-rise bs (length b / size);
        inside = λ i h. (first-at bs (length b / size) i h).below;
        without_twin = λ i h.
            let f = first-at bs (length b / size) i h in
            second_alone (get_or (firsts_to bs (length b / size)) i 0) f.below (behind-then ns (length a / size) (length b / size) (get_or (firsts_to bs (length b / size)) i 0) f.below f.own);
        all = λ k h t. first-place bs (length b / size) k h (behind_if ns (length a / size) (length b / size) k h (second-own k h t));
      }

-- ---- the first records of a block's groups, one behind the other

module _ (table pool block : List ℕ) (size : ℕ) (d : admission table pool ≡ gives size) where
  -- the numbers of the firsts, and their bytes
  firsts : List ℕ
  firsts = firsts_of (keys_of (fields_in_of table pool) block size)

  kept : List ℕ
  kept = records_at block size firsts

  firsts-groups : GroupsExactly table pool block size (length block / size) (numbers_of (keys_of (fields_in_of table pool) block size)) firsts (sizes_of (keys_of (fields_in_of table pool) block size))
  unfolding firsts
  firsts-groups = groups_in table pool block size d

  firsts-inside : (i : ℕ) → i < length firsts → get_or firsts i 0 < length block / size
  firsts-inside i h = (firsts-groups.firsts-only i h).below

  kept-long : length kept ≡ length firsts * size
  unfolding kept
  kept-long = length-records block size firsts firsts-inside

  kept_at : (i : ℕ) → i < length firsts → record_at_of kept size i ≡ record_at_of block size (get_or firsts i 0)
  unfolding kept
  kept_at i h = record_of-records block size firsts firsts-inside i h

  kept-distinct : (i k : ℕ) → i < length firsts → k < length firsts → (i ≡ k → ⊥) → DifferAt table pool kept size i k
  unfolding DifferAt
  kept-distinct i k h l n = rw (kept_at i h, kept_at k l) (firsts-groups.distinct i k h l n)

  kept_covers : (k : ℕ) → k < length block / size → (i : ℕ) × (i < length firsts) × (comparing table pool (record_at_of kept size i) (record_at_of block size k) ≡ gives true)
  unfolding SameAt
  kept_covers k h =
      let c = firsts-groups.covered k h in
      (c.0, c.1, rw (kept_at c.0 c.1) c.2)

-- records that all differ are numbered 0, 1, 2 and so on
themselves : (ns : List ℕ) (n : ℕ) → length ns ≡ n → ((i : ℕ) → i < n → get_or ns i 0 ≡ i) → ns ≡ listed (λ k. k) n
themselves ns n e f =
    ext_get_or 0 ns (listed (λ k. k) n) (e ∙ sym (length-listed (λ k. k) n)) (λ i h. f i (omega arith) ∙ sym (get_d_listed (λ k. k) n i 0 (omega arith)))

module _ (table pool block : List ℕ) (size n : ℕ) (d : admission table pool ≡ gives size) (p : 0 < size) (long : length block ≡ n * size)
    (f : (i k : ℕ) → i < n → k < n → (i ≡ k → ⊥) → DifferAt table pool block size i k) where
  count_of_lem : length block / size ≡ n
  count_of_lem = rw long (mul-div_cancel n p)

  all_listed : numbers_of (keys_of (fields_in_of table pool) block size) ≡ listed (λ k. k) n
  all_listed =
      let q : NumbersExactly table pool block size n (numbers_of (keys_of (fields_in_of table pool) block size)) = rw count_of_lem at (numbers_in table pool block size d) in
      themselves (numbers_of (keys_of (fields_in_of table pool) block size)) n q.for_each (λ i h. q.itself i h (λ j l. f j i (omega arith) h (λ e. omega arith)))

  few-groups : distinct_of (keys_of (fields_in_of table pool) block size) ≤ n
  unfolding distinct_of firsts_of
  few-groups =
      let keys = keys_of (fields_in_of table pool) block size in
      omega (arith, firsts_le (numbers_of keys) (length keys), length-keys (fields_in_of table pool) block size, count_of_lem)

  numbered : (room places : ℕ) → n ≤ room → n ≤ places → (g : Groups) × (duplicating table pool block room places ≡ gives g) × (g.numbers ≡ listed (λ k. k) n)
  unfolding groups_of
  numbered room places r s = (
    groups_of (keys_of (fields_in_of table pool) block size),
    duplicating-given table pool block room places size d (rw long (mul-mod_left n size)) (omega (arith, count_of_lem)) (omega (arith, few-groups)),
    all_listed,
  )

-- ---- the result

module _ (table pool a b : List ℕ) (t : Datatype) (i : type_of table pool ≡ gives t) (d : admission table pool ≡ gives (type_size_of t)) (p : 0 < type_size_of t)
    (w : length a % type_size_of t ≡ 0) (v : length b % type_size_of t ≡ 0) where
  all-keys : List (List ℕ)
  all-keys = keys_of (fields_in_of table pool) (a ++ b) (type_size_of t)

  kept-first : List ℕ
  kept-first = firsts_to (numbers_of all-keys) (length a / type_size_of t)

  kept_second : List ℕ
  kept_second = firsts_to (behind (numbers_of all-keys) (length a / type_size_of t) (length b / type_size_of t)) (length b / type_size_of t)

  of_both : length (a ++ b) / type_size_of t ≡ length a / type_size_of t + length b / type_size_of t
  of_both = records-of_both a b (type_size_of t) w p

  both_numbers : NumbersExactly table pool (a ++ b) (type_size_of t) (length a / type_size_of t + length b / type_size_of t) (numbers_of all-keys)
  unfolding all-keys
  both_numbers = rw of_both at (numbers_in table pool (a ++ b) (type_size_of t) d)

  in_two : firsts table pool (a ++ b) (type_size_of t) d ≡ kept-first ++ map (λ (k : ℕ). length a / type_size_of t + k) kept_second
  unfolding firsts firsts_of all-keys kept-first kept_second
  in_two =
      ap (firsts_to (numbers_of all-keys)) (length-keys (fields_in_of table pool) (a ++ b) (type_size_of t) ∙ of_both)
      ∙ firsts_split (numbers_of all-keys) (length a / type_size_of t) (length b / type_size_of t)

  first-is : KeptExactly table pool [] a (type_size_of t) kept-first
  unfolding kept-first
  first-is = first-numbers table pool a b (type_size_of t) (numbers_of all-keys) w both_numbers

  second_is : KeptExactly table pool a b (type_size_of t) kept_second
  unfolding kept_second
  second_is = second-numbers table pool a b (type_size_of t) (numbers_of all-keys) w both_numbers

  bytes_in_two : kept table pool (a ++ b) (type_size_of t) d ≡ records_at a (type_size_of t) kept-first ++ records_at b (type_size_of t) kept_second
  unfolding kept
  bytes_in_two = ap (records_at (a ++ b) (type_size_of t)) in_two ∙ records_split a b (type_size_of t) w kept-first kept_second first-is.inside

  records_in_two : length (firsts table pool (a ++ b) (type_size_of t) d) ≡ length kept-first + length kept_second
  records_in_two =
      ap length in_two
      ∙ length-append kept-first (map (λ (k : ℕ). length a / type_size_of t + k) kept_second)
      ∙ ap (λ (n : ℕ). length kept-first + n) (length-map kept_second (λ (k : ℕ). length a / type_size_of t + k))

  counted_so : (room places : ℕ) → length a / type_size_of t + length b / type_size_of t ≤ room → length (firsts table pool (a ++ b) (type_size_of t) d) ≤ places
      → (g : Groups) × (duplicating table pool (a ++ b) room places ≡ gives g) × (length g.sizes ≡ length (firsts table pool (a ++ b) (type_size_of t) d))
  unfolding firsts groups_of all-keys
  counted_so room places r s = (
    groups_of all-keys,
    duplicating-given table pool (a ++ b) room places (type_size_of t) d (both_whole a b (type_size_of t) w v) (omega (arith, of_both)) (unfold distinct_of in s),
    (firsts-groups table pool (a ++ b) (type_size_of t) d).for_each,
  )

  joined_so : JoinedExactly table pool a b (joint_of (fields_in_of table pool) a b (type_size_of t))
  unfolding joint_of kept firsts distinct_of
  joined_so =
      record {
        type = t;
        is = i;
        admitted = d;
        sized = p;
        first-whole = omega (arith, div-add-mod' (length a) (type_size_of t));
        second-whole = omega (arith, div-add-mod' (length b) (type_size_of t));
        first = kept-first;
        second = kept_second;
        first-kept = first-is;
        second-kept = second_is;
        bytes-are = bytes_in_two;
        records-are = records_in_two;
        long = kept-long table pool (a ++ b) (type_size_of t) d;
        distinct = kept-distinct table pool (a ++ b) (type_size_of t) d;
        first-covered = λ k h. rw (record_first a b (type_size_of t) k h) at (kept_covers table pool (a ++ b) (type_size_of t) d k (omega (arith, of_both)));
        second-covered = λ k h. rw (record_second a b (type_size_of t) w k) at (kept_covers table pool (a ++ b) (type_size_of t) d (length a / type_size_of t + k) (omega (arith, of_both)));
        counted = counted_so;
        own-numbers =
            numbered table pool (kept table pool (a ++ b) (type_size_of t) d) (type_size_of t) (length (firsts table pool (a ++ b) (type_size_of t) d)) d p
            (kept-long table pool (a ++ b) (type_size_of t) d)
            (kept-distinct table pool (a ++ b) (type_size_of t) d);
      }

pub joined-exactly : (table pool a b : List ℕ) (room : ℕ) (j : Joint) → joining table pool a b room ≡ gives j → JoinedExactly table pool a b j
joined-exactly table pool a b room j h =
    let g = joining_gave table pool a b room j h in
    let t = admission-given table pool g.size g.admitted in
    rw (g.is, t.size_is)
    (joined_so table pool a b t.type t.is (g.admitted ∙ ap gives t.size_is) (first-zero-size t.type t.sized)
    (ap (λ (s : ℕ). length a % s) (sym t.size_is) ∙ g.first-whole)
    (ap (λ (s : ℕ). length b % s) (sym t.size_is) ∙ g.second-whole))

-- ---- an empty block

-- the first record of each group of a block, and no other
pub record FirstsExactly (table pool block : List ℕ) (j : Joint) : Type 0 where
  pub size : ℕ
  pub admitted : admission table pool ≡ gives size
  pub numbers : List ℕ
  pub kept : KeptExactly table pool [] block size numbers
  pub bytes-are : j.bytes ≡ records_at block size numbers
  pub records-are : j.records ≡ length numbers

none_kept : (table pool before : List ℕ) (size : ℕ) (ks : List ℕ) → KeptExactly table pool before [] size ks → ks ≡ []
none_kept table pool before size [] e = refl
none_kept table pool before size (k ∷ ks) e = absurd (omega (arith, e.inside 0 (omega arith), zero-div size))

module _ (table pool : List ℕ) (room : ℕ) (j : Joint) where
  pub join_empty_second : (a : List ℕ) → joining table pool a [] room ≡ gives j → FirstsExactly table pool a j
  unfolding records_at
  join_empty_second a h =
      let e = joined-exactly table pool a [] room j h in
      let n : e.second ≡ [] = none_kept table pool a (type_size_of e.type) e.second e.second-kept in
      record {
        size = type_size_of e.type;
        admitted = e.admitted;
        numbers = e.first;
        kept = e.first-kept;
        bytes-are = e.bytes-are ∙ rw n (append-nil (records_at a (type_size_of e.type) e.first));
        records-are = omega (arith, e.records-are, ap length n);
      }

  pub join_empty_first : (b : List ℕ) → joining table pool [] b room ≡ gives j → FirstsExactly table pool b j
  unfolding records_at
  join_empty_first b h =
      let e = joined-exactly table pool [] b room j h in
      let n : e.first ≡ [] = none_kept table pool [] (type_size_of e.type) e.first e.first-kept in
      record {
        size = type_size_of e.type;
        admitted = e.admitted;
        numbers = e.second;
        kept = e.second-kept;
        bytes-are = e.bytes-are ∙ rw n;
        records-are = omega (arith, e.records-are, ap length n);
      }

-- ---- a record that differs from all that were kept differs from all

-- records that are the same differ from the same ones
differs_alike : (table pool : List ℕ) (size : ℕ) → admission table pool ≡ gives size → (x y z : List ℕ) → length x ≡ size → length y ≡ size → length z ≡ size
    → comparing table pool x y ≡ gives true → comparing table pool x z ≡ gives false → comparing table pool y z ≡ gives false
differs_alike table pool size d x y z lx ly lz s n =
    let a = admission-given table pool size d in
    let xy = comparing-records table pool x y a.type a.is a.sized a.inside a.plain (lx ∙ a.size_is) (ly ∙ a.size_is) in
    let xz = comparing-records table pool x z a.type a.is a.sized a.inside a.plain (lx ∙ a.size_is) (lz ∙ a.size_is) in
    let e : agree a.type x y ≡ true = cc in
    let f : agree a.type x z ≡ false = cc in
    comparing-records table pool y z a.type a.is a.sized a.inside a.plain (ly ∙ a.size_is) (lz ∙ a.size_is)
    ∙ ap gives (not-true-false (agree a.type y z) (λ g. not_both (agree a.type x z) (agree_transitive a.type x y z e g) f))

module _ (table pool a b : List ℕ) (size : ℕ) (d : admission table pool ≡ gives size) (ks : List ℕ) (kept : KeptExactly table pool [] a size ks) (k : ℕ) (h : k < length b / size) where
  -- each record is the same as one that was kept
  same_kept : (j : ℕ) → j < length a / size → (i : ℕ) × (i < length ks) × SameAt table pool a size (get_or ks i 0) j
  same_kept j l =
      let q = numbers_in table pool a size d in
      let ns = numbers_of (keys_of (fields_in_of table pool) a size) in
      let g : get_or ns j 0 < length a / size = omega (arith, q.not-later j l) in
      let own : get_or ns (get_or ns j 0) 0 ≡ get_or ns j 0 = q.equal_if (get_or ns j 0) j g l (q.same j l) in
      let w =
      kept.all (get_or ns j 0) g
      (record {
        among_before = λ i m. absurd (omega (arith, zero-div size));
        earlier = λ i m. q.earliest (get_or ns j 0) i g (omega arith);
      }) in
      (w.place, w.inside, rw w.is (q.same j l))

  pub kept-enough : ((j : ℕ) → j < length a / size → comparing table pool (record_at_of a size j) (record_at_of b size k) ≡ gives false)
      ↔ ((i : ℕ) → i < length ks → comparing table pool (record_at_of a size (get_or ks i 0)) (record_at_of b size k) ≡ gives false)
  unfolding SameAt
  kept-enough = (
    (λ f i l. f (get_or ks i 0) (kept.inside i l)),
    (λ f j l.
        let s = same_kept j l in
        differs_alike table pool size d (record_at_of a size (get_or ks s.0 0)) (record_at_of a size j) (record_at_of b size k)
        (record_long a size (get_or ks s.0 0) (kept.inside s.0 s.1))
        (record_long a size j l)
        (record_long b size k h)
        s.2
        (f s.0 s.1)),
  )

-- the same of a record of the second block and all records before it: those that were kept of both blocks are enough
pub record KeptDiffer (table pool a b : List ℕ) (size : ℕ) (ks ls : List ℕ) (k : ℕ) : Type 0 where
  pub from_first : (i : ℕ) → i < length ks → comparing table pool (record_at_of a size (get_or ks i 0)) (record_at_of b size k) ≡ gives false
  pub from_second : (i : ℕ) → i < length ls → get_or ls i 0 < k → DifferAt table pool b size (get_or ls i 0) k

module _ (table pool a b : List ℕ) (size : ℕ) (d : admission table pool ≡ gives size) (p : 0 < size) (w : length a % size ≡ 0) (ks ls : List ℕ)
    (first : KeptExactly table pool [] a size ks) (second : KeptExactly table pool a b size ls) (k : ℕ) (h : k < length b / size) where
  all-numbers : List ℕ
  all-numbers = numbers_of (keys_of (fields_in_of table pool) (a ++ b) size)

  both_in : NumbersExactly table pool (a ++ b) size (length a / size + length b / size) all-numbers
  unfolding all-numbers
  both_in = rw (records-of_both a b size w p) at (numbers_in table pool (a ++ b) size d)

  module _ (e : KeptDiffer table pool a b size ks ls k) where
    before_differ : (j : ℕ) → j < length a / size → comparing table pool (record_at_of a size j) (record_at_of b size k) ≡ gives false
    before_differ = (kept-enough table pool a b size d ks first k h).1 e.from_first

    -- an earlier record of the second block, by its first: in the first block, or in the second
    module _ (j : ℕ) (l : j < k) (f : ℕ) (i : get_or all-numbers (length a / size + j) 0 ≡ f) where
      by_first : f < length a / size → DifferAt table pool b size j k
      unfolding DifferAt SameAt
      by_first m =
          let s = both_in.same (length a / size + j) (omega arith) in
          let t : comparing table pool (record_at_of a size f) (record_at_of b size j) ≡ gives true =
          rw (i, record_first a b size f m, record_second a b size w j) at s in
          differs_alike table pool size d (record_at_of a size f) (record_at_of b size j) (record_at_of b size k)
          (record_long a size f m) (record_long b size j (omega arith)) (record_long b size k h) t (before_differ f m)

      by_second : length a / size ≤ f → DifferAt table pool b size j k
      unfolding DifferAt SameAt
      by_second m =
          let g = f - length a / size in
          let o : length a / size + (f - length a / size) ≡ f = omega arith in
          let n : f ≤ length a / size + j = omega (arith, both_in.not-later (length a / size + j) (omega arith)) in
          let s = both_in.same (length a / size + j) (omega arith) in
          let own : get_or all-numbers f 0 ≡ f =
          rw i at (both_in.equal_if (get_or all-numbers (length a / size + j) 0) (length a / size + j) (omega arith) (omega arith) s) in
          let alone = second_alone table pool a b size all-numbers w both_in g (omega arith) (rw o own) in
          let c = second.all g (omega arith) alone in
          let t : comparing table pool (record_at_of b size g) (record_at_of b size j) ≡ gives true =
          rw (i, ← o, record_second a b size w g, record_second a b size w j) at s in
          differs_alike table pool size d (record_at_of b size g) (record_at_of b size j) (record_at_of b size k)
          (record_long b size g (omega arith)) (record_long b size j (omega arith)) (record_long b size k h) t
          (rw c.is at (e.from_second c.place c.inside (omega (arith, c.is))))

    earlier_differ : (j : ℕ) → j < k → DifferAt table pool b size j k
    earlier_differ j l =
        let f = get_or all-numbers (length a / size + j) 0 in
        ⊎_elim (by_first j l f refl) (by_second j l f refl) (less_or_not f (length a / size))

  pub kept-enough-of_both : NoTwin table pool a b size k ↔ KeptDiffer table pool a b size ks ls k
  kept-enough-of_both = (
    (λ (t : NoTwin table pool a b size k).
        record { from_first = λ i l. t.among_before (get_or ks i 0) (first.inside i l); from_second = λ i l m. t.earlier (get_or ls i 0) m }),
    (λ (e : KeptDiffer table pool a b size ks ls k). record { among_before = before_differ e; earlier = earlier_differ e }),
  )
