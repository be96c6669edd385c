-- What the result of N3 says, in the words of document 02.
use Prim.Native.Nat.{ℕ, ◌*◌, ◌/◌, ◌%◌, ◌<◌, ◌≤◌}
use mathlib.Core.Path.{◌≡◌, sym, ap, ◌∙◌}
use mathlib.Core.Logic.{⊎_elim}
use mathlib.Core.Bool.{true, false}
use mathlib.Core.List.{List}
use mathlib.Core.Option.{none}
use native.Mathlib.Nat.{div-add-mod'}
use native.Mathlib.Omega.{arith}
use lib.ListN.{length, get_or}
use Rattle.format.specs.Datatype.{Datatype, type_size_of}
use Rattle.format.specs.Image.{fields_of, image, agree}
use Rattle.format.specs.Outcome.{gives}
use Rattle.format.specs.Ownership.{outside, heap_held, admission, comparing}
use Rattle.format.specs.Slots.{first_zero}
use Rattle.format.specs.Table.{same_words, type_of}
use Rattle.format.proofs.Admission.{admission-given}
use Rattle.format.proofs.Booleans.{not-true-false}
use Rattle.format.proofs.Ownership.{comparing-records}
use Rattle.format.proofs.Rows.{same_words_refl, same_words_true}
use Rattle.format.proofs.Slots.{first-zero-size}
use Rattle.groups.specs.Groups.{key_at, first_of, numbers_of, count, firsts_of, distinct_of, sizes_of}
use Rattle.groups.specs.Duplicates.{record_at_of, keys_of, fields_given, fields_in_of, Groups, groups_of, duplicating}
use Rattle.groups.proofs.Cases.{less_or_not}
use Rattle.groups.proofs.Firsts.{first_below, first_le, first_key, first-first, first-of-equal, equal-of-first, length-numbers, number_at}
use Rattle.groups.proofs.Counts.{size-at, length-sizes, sum, sizes_add_up}
use Rattle.groups.proofs.Keys.{length-keys, key_at_lem, record_long}
use Rattle.groups.proofs.Rising.{count-some, FirstAt, first-at, PlaceOf, first-place, firsts-rise}
use Rattle.groups.proofs.Outcomes.{duplicating_gave}

-- records i and j of a block, lent to a comparison, are the same; or they differ
unfoldable pub SameAt : (table pool block : List ℕ) (size i j : ℕ) → Type 0
SameAt table pool block size i j = comparing table pool (record_at_of block size i) (record_at_of block size j) ≡ gives true

unfoldable pub DifferAt : (table pool block : List ℕ) (size i j : ℕ) → Type 0
DifferAt table pool block size i j = comparing table pool (record_at_of block size i) (record_at_of block size j) ≡ gives false

-- "list for each the number, from 0, of the earliest record that is the same; a record without an earlier twin lists itself"
pub record NumbersExactly (table pool block : List ℕ) (size n : ℕ) (numbers : List ℕ) : Type 0 where
  pub for_each : length numbers ≡ n
  pub not-later : (k : ℕ) → k < n → get_or numbers k 0 ≤ k
  pub same : (k : ℕ) → k < n → SameAt table pool block size (get_or numbers k 0) k
  pub earliest : (k j : ℕ) → k < n → j < get_or numbers k 0 → DifferAt table pool block size j k
  pub itself : (k : ℕ) → k < n → ((j : ℕ) → j < k → DifferAt table pool block size j k) → get_or numbers k 0 ≡ k
  -- two records list one number exactly when they are the same
  pub equal_if : (i j : ℕ) → i < n → j < n → SameAt table pool block size i j → get_or numbers i 0 ≡ get_or numbers j 0
  pub equal-then : (i j : ℕ) → i < n → j < n → get_or numbers i 0 ≡ get_or numbers j 0 → SameAt table pool block size i j

-- "how many distinct registrations there are and the size of each group, groups by first record"
pub record GroupsExactly (table pool block : List ℕ) (size n : ℕ) (numbers firsts sizes : List ℕ) : Type 0 where
  -- the first records of the groups are those that list themselves, in their order
  pub rising : (i j : ℕ) → i < j → j < length firsts → get_or firsts i 0 < get_or firsts j 0
  pub firsts-only : (i : ℕ) → i < length firsts → FirstAt numbers n (get_or firsts i 0)
  pub firsts-all : (k : ℕ) → k < n → get_or numbers k 0 ≡ k → PlaceOf firsts k
  -- no two of them are the same, and each record is the same as one of them: there are as many as distinct records
  pub distinct : (i j : ℕ) → i < length firsts → j < length firsts → (i ≡ j → ⊥) → DifferAt table pool block size (get_or firsts i 0) (get_or firsts j 0)
  pub covered : (k : ℕ) → k < n → (i : ℕ) × (i < length firsts) × SameAt table pool block size (get_or firsts i 0) k
  -- a size for each group
  pub for_each : length sizes ≡ length firsts
  -- "A group size is the number of list entries naming its first record"
  pub counted : (i : ℕ) → i < length sizes → get_or sizes i 0 ≡ count (get_or firsts i 0) numbers
  pub not_empty : (i : ℕ) → i < length sizes → 0 < get_or sizes i 0
  -- "and the sizes add up to the records in the block"
  pub add_up : sum sizes ≡ n

-- "For a block of records of one type": the type that the table and pool set out, admitted to comparison, and a whole number of records
pub record DuplicatesExactly (table pool block : List ℕ) (g : Groups) : Type 0 where
  pub type : Datatype
  pub is : type_of table pool ≡ gives type
  pub admitted : admission table pool ≡ gives (type_size_of type)
  pub sized : 0 < type_size_of type
  pub whole : length block / type_size_of type * type_size_of type ≡ length block
  pub list : NumbersExactly table pool block (type_size_of type) (length block / type_size_of type) g.numbers
  pub firsts : List ℕ
  pub groups : GroupsExactly table pool block (type_size_of type) (length block / type_size_of type) g.numbers firsts g.sizes

-- ---- records of the block are the same exactly when their keys are equal

module _ (table pool block : List ℕ) (t : Datatype) (given : type_of table pool ≡ gives t) (z : first_zero t ≡ none) (o : outside t ≡ false) (p : heap_held t ≡ false) where
  image_key : (i : ℕ) → i < length block / type_size_of t → image t (record_at_of block (type_size_of t) i) ≡ key_at (keys_of (fields_of t) block (type_size_of t)) i
  unfolding image
  image_key i h = sym (key_at_lem (fields_of t) block (type_size_of t) i (omega (arith, length-keys (fields_of t) block (type_size_of t))))

  pub compared : (i j : ℕ) → i < length block / type_size_of t → j < length block / type_size_of t
      → comparing table pool (record_at_of block (type_size_of t) i) (record_at_of block (type_size_of t) j)
      ≡ gives (same_words (key_at (keys_of (fields_of t) block (type_size_of t)) i) (key_at (keys_of (fields_of t) block (type_size_of t)) j))
  unfolding agree
  compared i j h k =
      comparing-records table pool (record_at_of block (type_size_of t) i) (record_at_of block (type_size_of t) j) t given z o p (record_long block (type_size_of t) i h) (record_long block (type_size_of t) j k)
      ∙ rw (image_key i h, image_key j k)

-- ---- the numbers and the sizes of keys that say which records are the same

module _ (table pool block : List ℕ) (size : ℕ) (keys : List (List ℕ))
    (c : (i j : ℕ) → i < length keys → j < length keys → comparing table pool (record_at_of block size i) (record_at_of block size j) ≡ gives (same_words (key_at keys i) (key_at keys j))) where
  module _ (i j : ℕ) (h : i < length keys) (k : j < length keys) where
    same_at : key_at keys i ≡ key_at keys j → SameAt table pool block size i j
    unfolding SameAt
    same_at e = c i j h k ∙ ap gives (rw e (same_words_refl (key_at keys j)))

    differ_at : (key_at keys i ≡ key_at keys j → ⊥) → DifferAt table pool block size i j
    unfolding DifferAt
    differ_at d = c i j h k ∙ ap gives (not-true-false (same_words (key_at keys i) (key_at keys j)) (λ e. d (same_words_true (key_at keys i) (key_at keys j) e)))

    same_keys : SameAt table pool block size i j → key_at keys i ≡ key_at keys j
    unfolding SameAt
    same_keys s = let q = c i j h k in same_words_true (key_at keys i) (key_at keys j) (cc)

    not_same : DifferAt table pool block size i j → key_at keys i ≡ key_at keys j → ⊥
    unfolding DifferAt
    not_same s e =
        let q = c i j h k in
        let r : same_words (key_at keys i) (key_at keys j) ≡ true = rw e (same_words_refl (key_at keys j)) in
        let z : ◌≡◌ {A = ℕ} 0 1 = cc in
        omega arith

  pub numbers-exactly : NumbersExactly table pool block size (length keys) (numbers_of keys)
  numbers-exactly =
      record {
        for_each = length-numbers keys;
        not-later = λ k h. rw (number_at keys k h) (first_below keys k h);
        same = λ k h. rw (number_at keys k h) (same_at (first_of keys k) k (omega (arith, first_below keys k h)) h (first_key keys k h));
        earliest = λ k j h l.
            let f : j < first_of keys k = omega (arith, number_at keys k h) in
            let b : j < length keys = omega (arith, first_below keys k h) in
            differ_at j k b h (λ (e : key_at keys j ≡ key_at keys k). omega (arith, first_le keys j k b (rw e (same_words_refl (key_at keys k)))));
        itself = λ k h d.
            ⊎_elim
            (λ (l : first_of keys k < k). absurd (not_same (first_of keys k) k (omega arith) h (d (first_of keys k) l) (first_key keys k h)))
            (λ (l : k ≤ first_of keys k). omega (arith, number_at keys k h, first_below keys k h))
            (less_or_not (first_of keys k) k);
        equal_if = λ i j h k s. number_at keys i h ∙ first-of-equal keys i j (same_keys i j h k s) ∙ sym (number_at keys j k);
        equal-then = λ i j h k e. same_at i j h k (equal-of-first keys i j h k (sym (number_at keys i h) ∙ e ∙ number_at keys j k));
      }

  first_in : (i : ℕ) → i < length (firsts_of keys) → FirstAt (numbers_of keys) (length keys) (get_or (firsts_of keys) i 0)
  unfolding firsts_of
  first_in i h = first-at (numbers_of keys) (length keys) i h

  in_firsts : (k : ℕ) → k < length keys → get_or (numbers_of keys) k 0 ≡ k → PlaceOf (firsts_of keys) k
  unfolding firsts_of
  in_firsts k h o = first-place (numbers_of keys) (length keys) k h o

  rise : (i j : ℕ) → i < j → j < length (firsts_of keys) → get_or (firsts_of keys) i 0 < get_or (firsts_of keys) j 0
  unfolding firsts_of
  rise i j l h = firsts-rise (numbers_of keys) (length keys) i j l h

  a_size-each : length (sizes_of keys) ≡ length (firsts_of keys)
  unfolding sizes_of firsts_of
  a_size-each = length-sizes (numbers_of keys) (length keys)

  size-counted : (i : ℕ) → i < length (sizes_of keys) → get_or (sizes_of keys) i 0 ≡ count (get_or (firsts_of keys) i 0) (numbers_of keys)
  size-counted i h = size-at keys i (unfold distinct_of in omega (arith, a_size-each))

  -- two firsts of one key are one number
  one-first : (x y : ℕ) → FirstAt (numbers_of keys) (length keys) x → FirstAt (numbers_of keys) (length keys) y → key_at keys x ≡ key_at keys y → x ≡ y
  one-first x y f g e = sym f.own ∙ number_at keys x f.below ∙ first-of-equal keys x y e ∙ sym (number_at keys y g.below) ∙ g.own

  pub groups-exactly : GroupsExactly table pool block size (length keys) (numbers_of keys) (firsts_of keys) (sizes_of keys)
  groups-exactly =
      record {
        rising = rise;
        firsts-only = first_in;
        firsts-all = in_firsts;
        distinct = λ i j h k d.
            let f = first_in i h in
            let g = first_in j k in
            differ_at (get_or (firsts_of keys) i 0) (get_or (firsts_of keys) j 0) f.below g.below
            (λ (e : key_at keys (get_or (firsts_of keys) i 0) ≡ key_at keys (get_or (firsts_of keys) j 0)).
            let q : get_or (firsts_of keys) i 0 ≡ get_or (firsts_of keys) j 0 = one-first (get_or (firsts_of keys) i 0) (get_or (firsts_of keys) j 0) f g e in
            ⊎_elim
            (λ (l : i < j). omega (arith, rise i j l k))
            (λ (l : j ≤ i). omega (arith, rise j i (omega arith) h))
            (less_or_not i j));
        covered = λ k h.
            let b : first_of keys k < length keys = omega (arith, first_below keys k h) in
            let w = in_firsts (first_of keys k) b (number_at keys (first_of keys k) b ∙ first-first keys k h) in
            (w.place, w.inside, rw w.is (same_at (first_of keys k) k b h (first_key keys k h)));
        for_each = a_size-each;
        counted = size-counted;
        not_empty = λ i h.
            let f = first_in i (omega (arith, a_size-each)) in
            rw (size-counted i h) (count-some (get_or (firsts_of keys) i 0) (numbers_of keys) (get_or (firsts_of keys) i 0) (omega (arith, length-numbers keys, f.below)) f.own);
        add_up = sizes_add_up keys;
      }

-- ---- the result

of-type : (table pool block : List ℕ) (t : Datatype) → type_of table pool ≡ gives t → first_zero t ≡ none → outside t ≡ false → heap_held t ≡ false
    → admission table pool ≡ gives (type_size_of t) → length block % type_size_of t ≡ 0 → DuplicatesExactly table pool block (groups_of (keys_of (fields_of t) block (type_size_of t)))
unfolding groups_of
of-type table pool block t i z o p d w =
    let keys = keys_of (fields_of t) block (type_size_of t) in
    let n : length keys ≡ length block / type_size_of t = length-keys (fields_of t) block (type_size_of t) in
    let c : (i j : ℕ) → i < length keys → j < length keys → comparing table pool (record_at_of block (type_size_of t) i) (record_at_of block (type_size_of t) j) ≡ gives (same_words (key_at keys i) (key_at keys j)) =
    λ a b h k. compared table pool block t i z o p a b (omega arith) (omega arith) in
    record {
      type = t;
      is = i;
      admitted = d;
      sized = first-zero-size t z;
      whole = omega (arith, div-add-mod' (length block) (type_size_of t));
      list = rw n at (numbers-exactly table pool block (type_size_of t) keys c);
      firsts = firsts_of keys;
      groups = rw n at (groups-exactly table pool block (type_size_of t) keys c);
    }

pub of_fields : (table pool block : List ℕ) (size : ℕ) (t : Datatype) → type_of table pool ≡ gives t → size ≡ type_size_of t
    → keys_of (fields_in_of table pool) block size ≡ keys_of (fields_of t) block (type_size_of t)
unfolding fields_in_of fields_given
of_fields table pool block size t i s = rw (i, s)

pub duplicates_exactly : (table pool block : List ℕ) (room places : ℕ) (g : Groups) → duplicating table pool block room places ≡ gives g → DuplicatesExactly table pool block g
duplicates_exactly table pool block room places g h =
    let w = duplicating_gave table pool block room places g h in
    let a = admission-given table pool w.size w.admitted in
    rw (w.is, of_fields table pool block w.size a.type a.is a.size_is)
    (of-type table pool block a.type a.is a.sized a.inside a.plain
    (w.admitted ∙ ap gives a.size_is)
    (ap (λ (s : ℕ). length block % s) (sym a.size_is) ∙ w.whole))
