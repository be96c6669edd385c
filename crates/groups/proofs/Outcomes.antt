-- What N3 answers, in the order of the refusals.
use Prim.Native.Nat.{ℕ, ◌/◌, ◌%◌, ◌<◌, ◌≤◌}
use mathlib.Core.Path.{◌≡◌, refl, ap, ◌∙◌}
use mathlib.Core.Logic.{◌↔◌, ⊎_elim}
use mathlib.Core.Bool.{Bool, true, false, not, ◌&&◌}
use mathlib.Core.List.{List, []}
use mathlib.Core.Option.{Option, none, some}
use native.Mathlib.Nat.{zero-div, zero-mod}
use native.Mathlib.Omega.{arith}
use lib.ListN.{length}
use lib.Dec.{eqb}
use borrow.Author.Tests.{eq-eqb, ne_eqb, le-leb, lt-leb}
use Rattle.refusal.specs.Refusal.{number_of}
use Rattle.refusal.specs.declared.Refusal.{Refusal}
use Rattle.refusal.specs.declared.Refusal.TheVariants.{BadTable, ZeroSize, OutsideRecord, HeapHeld, WrongLength, NoRoom}
use Rattle.format.specs.Datatype.{Datatype, type_size_of}
use Rattle.format.specs.Image.{Field, fields_of, agree}
use Rattle.format.specs.Outcome.{Outcome, gives, refuses, when_given, unless, needed}
use Rattle.format.specs.Ownership.{outside, heap_held, admitting, admission, comparing_records, comparing}
use Rattle.format.specs.Slots.{first_zero, unless_zero}
use Rattle.format.specs.Table.{type_of}
use Rattle.format.proofs.Admission.{admission-refused, admission-given}
use Rattle.format.proofs.Ownership.{admitting-given}
use Rattle.format.proofs.Table.{type_of_refuses}
use Rattle.groups.specs.Groups.{listed, numbers_of, numbers_to, firsts_to, firsts_of, distinct_of, sizes_of, sizes_to}
use Rattle.groups.specs.Duplicates.{keys_of, fields_given, fields_in_of, Groups, groups_of, fitting, duplicating_records, duplicating}
use Rattle.groups.proofs.Cases.{same_or_not, less_or_not}
use Rattle.groups.proofs.Firsts.{length-numbers}
use Rattle.groups.proofs.Counts.{length-sizes}
use Rattle.groups.proofs.Keys.{length-keys}

-- a list lent for n numbers, then one for the sizes
module _ (room places : ℕ) (keys : List (List ℕ)) where
  pub fitting-numbers : room < length keys → fitting room places keys ≡ refuses (NoRoom (needed (length keys)))
  unfolding fitting unless
  fitting-numbers h = rw (lt-leb (length keys) room h)

  pub fitting-sizes : length keys ≤ room → places < distinct_of keys → fitting room places keys ≡ refuses (NoRoom (needed (distinct_of keys)))
  unfolding fitting unless
  fitting-sizes h l = rw (le-leb (length keys) room h, lt-leb (distinct_of keys) places l)

  pub fitting-given : length keys ≤ room → distinct_of keys ≤ places → fitting room places keys ≡ gives (groups_of keys)
  unfolding fitting unless
  fitting-given h l = rw (le-leb (length keys) room h, le-leb (distinct_of keys) places l)

-- "Type checks come as for comparing two records": refusals 1, 12, 16 and 17 are met alike
module _ (table pool : List ℕ) (e : Refusal) (h : admission table pool ≡ refuses e) where
  pub duplicating-refused : (block : List ℕ) (room places : ℕ) → duplicating table pool block room places ≡ refuses e
  unfolding duplicating duplicating_records
  duplicating-refused block room places =
      admission-refused table pool (λ t. unless (eqb (length block % type_size_of t) 0) WrongLength (fitting room places (keys_of (fields_of t) block (type_size_of t)))) e h

  pub comparing-refused_alike : (a b : List ℕ) → comparing table pool a b ≡ refuses e
  unfolding comparing comparing_records
  comparing-refused_alike a b =
      admission-refused table pool (λ t. unless (eqb (length a) (type_size_of t) && eqb (length b) (type_size_of t)) WrongLength (gives (agree t a b))) e h

-- what waits behind the admission of a type is met with its fields and size
passes : {A : Type 0} (table pool : List ℕ) (size : ℕ) (t : Datatype) → type_of table pool ≡ gives t → first_zero t ≡ none → outside t ≡ false → heap_held t ≡ false → size ≡ type_size_of t
    → (f : List Field → ℕ → Outcome A) → when_given (type_of table pool) (λ u. admitting u (f (fields_of u) (type_size_of u))) ≡ f (fields_in_of table pool) size
unfolding fields_in_of fields_given when_given
passes table pool size t i z o p s f = rw (i, s) (admitting-given t (f (fields_of t) (type_size_of t)) z o p)

pub admission-passes : {A : Type 0} (table pool : List ℕ) (size : ℕ) → admission table pool ≡ gives size → (f : List Field → ℕ → Outcome A)
    → when_given (type_of table pool) (λ u. admitting u (f (fields_of u) (type_size_of u))) ≡ f (fields_in_of table pool) size
admission-passes table pool size h f =
    let a = admission-given table pool size h in
    passes table pool size a.type a.is a.sized a.inside a.plain a.size_is f

-- from here on the type is admitted and has the size `size`
module _ (table pool block : List ℕ) (room places size : ℕ) (h : admission table pool ≡ gives size) where
  admitted : duplicating table pool block room places ≡ unless (eqb (length block % size) 0) WrongLength (fitting room places (keys_of (fields_in_of table pool) block size))
  unfolding duplicating duplicating_records
  admitted = admission-passes table pool size h (λ fs n. unless (eqb (length block % n) 0) WrongLength (fitting room places (keys_of fs block n)))

  -- "A block that isn't a whole number of records is WrongLength"
  pub duplicating-length : (length block % size ≡ 0 → ⊥) → duplicating table pool block room places ≡ refuses WrongLength
  unfolding unless
  duplicating-length n = admitted ∙ rw (ne_eqb (length block % size) 0 n)

  module _ (w : length block % size ≡ 0) where
    whole : duplicating table pool block room places ≡ fitting room places (keys_of (fields_in_of table pool) block size)
    unfolding unless
    whole = admitted ∙ rw (eq-eqb (length block % size) 0 w)

    -- "a list lent too short is NoRoom, numbers before sizes"
    pub duplicating-numbers : room < length block / size → duplicating table pool block room places ≡ refuses (NoRoom (needed (length block / size)))
    duplicating-numbers l =
        let n = length-keys (fields_in_of table pool) block size in
        whole ∙ fitting-numbers room places (keys_of (fields_in_of table pool) block size) (omega arith) ∙ rw n

    module _ (r : length block / size ≤ room) where
      pub duplicating-sizes : places < distinct_of (keys_of (fields_in_of table pool) block size)
          → duplicating table pool block room places ≡ refuses (NoRoom (needed (distinct_of (keys_of (fields_in_of table pool) block size))))
      duplicating-sizes l = whole ∙ fitting-sizes room places (keys_of (fields_in_of table pool) block size) (omega (arith, length-keys (fields_in_of table pool) block size)) l

      pub duplicating-given : distinct_of (keys_of (fields_in_of table pool) block size) ≤ places
          → duplicating table pool block room places ≡ gives (groups_of (keys_of (fields_in_of table pool) block size))
      duplicating-given l = whole ∙ fitting-given room places (keys_of (fields_in_of table pool) block size) (omega (arith, length-keys (fields_in_of table pool) block size)) l

-- no keys have no groups
no_keys : groups_of [] ≡ record { numbers = []; sizes = [] }
unfolding groups_of numbers_of numbers_to listed sizes_of sizes_to firsts_to
no_keys = refl

no_distinct : (places : ℕ) → distinct_of [] ≤ places
unfolding distinct_of firsts_of firsts_to
no_distinct places = omega arith

no_records : (table pool : List ℕ) (size : ℕ) → keys_of (fields_in_of table pool) [] size ≡ []
unfolding keys_of listed
no_records table pool size = rw (zero-div size)

-- an empty block of an admitted type has empty lists, whatever room is lent
pub duplicating_empty : (table pool : List ℕ) (room places size : ℕ) → admission table pool ≡ gives size
    → duplicating table pool [] room places ≡ gives (record { numbers = []; sizes = [] })
duplicating_empty table pool room places size h =
    let e : keys_of (fields_in_of table pool) [] size ≡ [] = no_records table pool size in
    duplicating-given table pool [] room places size h (zero-mod size) (omega (arith, zero-div size)) (rw e (no_distinct places)) ∙ rw (e, no_keys)

-- ---- the other way: which refusals there are, and what a result says

-- the refusals of an admission are lower than those behind it
numbered : (x : ℕ) (e : Refusal) (z : Option ℕ) (o h : Bool) → unless_zero z (unless (not o) OutsideRecord (unless (not h) HeapHeld (gives x))) ≡ refuses e → number_of e < 18
unfolding unless_zero unless
numbered x e (some c) o h q = let k : ZeroSize c ≡ e = cc in rw (← k) (omega arith)
numbered x e none true h q = let k : OutsideRecord ≡ e = cc in rw (← k) (omega arith)
numbered x e none false true q = let k : HeapHeld ≡ e = cc in rw (← k) (omega arith)
numbered x e none false false q = absurd (let k : ◌≡◌ {A = ℕ} 0 1 = cc in omega arith)

pub admission-number : (table pool : List ℕ) (e : Refusal) → admission table pool ≡ refuses e → number_of e < 18
unfolding admission
admission-number table pool e = go (type_of table pool) refl
  where
    go : (o : Outcome Datatype) → type_of table pool ≡ o → when_given o (λ t. admitting t (gives (type_size_of t))) ≡ refuses e → number_of e < 18
    go (gives t) i h = numbered (type_size_of t) e (first_zero t) (outside t) (heap_held t) (unfold when_given admitting in h)
    go (refuses f) i h =
        let b : f ≡ BadTable = type_of_refuses table pool f i in
        let q : f ≡ e = unfold when_given in cc in
        let k : e ≡ BadTable = cc in
        rw k (omega arith)

-- a result: the type is admitted, the block is whole, and the lists have room
pub record Given (table pool block : List ℕ) (room places : ℕ) (g : Groups) : Type 0 where
  pub size : ℕ
  pub admitted : admission table pool ≡ gives size
  pub whole : length block % size ≡ 0
  pub numbers_fit : length block / size ≤ room
  pub sizes-fit : distinct_of (keys_of (fields_in_of table pool) block size) ≤ places
  pub is : g ≡ groups_of (keys_of (fields_in_of table pool) block size)

-- WrongLength: the type is admitted, and the block is not whole
pub record NotWhole (table pool block : List ℕ) : Type 0 where
  pub size : ℕ
  pub admitted : admission table pool ≡ gives size
  pub not-whole : length block % size ≡ 0 → ⊥

-- NoRoom: of an admitted type and a whole block, the list for the numbers is too short, or it is not and that for the sizes is
pub data TooShort (table pool block : List ℕ) (room places : ℕ) : (wanted : ℕ) → Type 0 where
  for_numbers : (size : ℕ) → admission table pool ≡ gives size → length block % size ≡ 0 → room < length block / size
      → TooShort table pool block room places (needed (length block / size))
  for_sizes : (size : ℕ) → admission table pool ≡ gives size → length block % size ≡ 0 → length block / size ≤ room → places < distinct_of (keys_of (fields_in_of table pool) block size)
      → TooShort table pool block room places (needed (distinct_of (keys_of (fields_in_of table pool) block size)))

-- a result is no refusal
pub not-given : {A B : Type 0} {o : Outcome A} {e : Refusal} {x : A} → o ≡ gives x → o ≡ refuses e → B
not-given g h = absurd (let k : ◌≡◌ {A = ℕ} 0 1 = cc in omega arith)

-- refusals behind the admission: of other numbers they are not equal
pub not_equal : {A B : Type 0} (e f : Refusal) → ◌≡◌ {A = Outcome A} (refuses e) (refuses f) → (number_of e ≡ number_of f → ⊥) → B
not_equal e f h n = absurd (let k : e ≡ f = cc in n (ap number_of k))

module _ (table pool block : List ℕ) (room places : ℕ) where
  -- the ways out, each with what is known there
  data Way : Outcome Groups → Type 0 where
    refused : (e : Refusal) → number_of e < 18 → Way (refuses e)
    not-whole : NotWhole table pool block → Way (refuses WrongLength)
    too_short : (n : ℕ) → TooShort table pool block room places n → Way (refuses (NoRoom n))
    given : (g : Groups) → Given table pool block room places g → Way (gives g)

  way_of : (o : Outcome ℕ) → admission table pool ≡ o → Way (duplicating table pool block room places)
  way_of (gives size) a =
      let keys = keys_of (fields_in_of table pool) block size in
      ⊎_elim
      (λ (w : length block % size ≡ 0).
      ⊎_elim
      (λ (r : room < length block / size). rw (duplicating-numbers table pool block room places size a w r) (too_short (needed (length block / size)) (for_numbers size a w r)))
      (λ (r : length block / size ≤ room).
      ⊎_elim
      (λ (p : places < distinct_of keys). rw (duplicating-sizes table pool block room places size a w r p) (too_short (needed (distinct_of keys)) (for_sizes size a w r p)))
      (λ (p : distinct_of keys ≤ places).
      rw (duplicating-given table pool block room places size a w r p)
      (given (groups_of keys) (record { size = size; admitted = a; whole = w; numbers_fit = r; sizes-fit = p; is = refl })))
      (less_or_not places (distinct_of keys)))
      (less_or_not room (length block / size)))
      (λ (n : length block % size ≡ 0 → ⊥). rw (duplicating-length table pool block room places size a n) (not-whole (record { size = size; admitted = a; not-whole = n })))
      (same_or_not (length block % size) 0)
  way_of (refuses e) a = rw (duplicating-refused table pool e a block room places) (refused e (admission-number table pool e a))

  pub duplicating_gave : (g : Groups) → duplicating table pool block room places ≡ gives g → Given table pool block room places g
  duplicating_gave g h = go (duplicating table pool block room places) h (way_of (admission table pool) refl)
    where
      go : (o : Outcome Groups) → o ≡ gives g → Way o → Given table pool block room places g
      go o q (refused e l) = not-given q refl
      go o q (not-whole w) = not-given q refl
      go o q (too_short n w) = not-given q refl
      go o q (given f w) = let s : f ≡ g = cc in rw (← s) w

  length-then : duplicating table pool block room places ≡ refuses WrongLength → NotWhole table pool block
  length-then h = go (duplicating table pool block room places) h (way_of (admission table pool) refl)
    where
      go : (o : Outcome Groups) → o ≡ refuses WrongLength → Way o → NotWhole table pool block
      go o q (refused e l) = not_equal e WrongLength q (λ k. omega arith)
      go o q (not-whole w) = w
      go o q (too_short n w) = not_equal (NoRoom n) WrongLength q (λ k. omega arith)
      go o q (given g w) = not-given refl q

  room-then : (n : ℕ) → duplicating table pool block room places ≡ refuses (NoRoom n) → TooShort table pool block room places n
  room-then n h = go (duplicating table pool block room places) h (way_of (admission table pool) refl)
    where
      go : (o : Outcome Groups) → o ≡ refuses (NoRoom n) → Way o → TooShort table pool block room places n
      go o q (refused e l) = not_equal e (NoRoom n) q (λ k. omega arith)
      go o q (not-whole w) = not_equal WrongLength (NoRoom n) q (λ k. omega arith)
      go o q (too_short m w) = let k : m ≡ n = cc in rw (← k) w
      go o q (given g w) = not-given refl q

  room_if : {n : ℕ} → TooShort table pool block room places n → duplicating table pool block room places ≡ refuses (NoRoom n)
  room_if (for_numbers size a w r) = duplicating-numbers table pool block room places size a w r
  room_if (for_sizes size a w r p) = duplicating-sizes table pool block room places size a w r p

  -- 18 exactly where the type is admitted and the block is not whole
  pub duplicating-length-exactly : duplicating table pool block room places ≡ refuses WrongLength ↔ NotWhole table pool block
  duplicating-length-exactly =
      (length-then, (λ (n : NotWhole table pool block). duplicating-length table pool block room places n.size n.admitted n.not-whole))

  -- 21 exactly where a list is too short
  pub duplicating-room-exactly : (n : ℕ) → duplicating table pool block room places ≡ refuses (NoRoom n) ↔ TooShort table pool block room places n
  duplicating-room-exactly n = (room-then n, (λ (w : TooShort table pool block room places n). room_if w))

-- ---- what is wanted is the whole result: the lists that enough room gives

numbers-listed : (keys : List (List ℕ)) → length (groups_of keys).numbers ≡ length keys
unfolding groups_of
numbers-listed keys = length-numbers keys

sizes-listed : (keys : List (List ℕ)) → length (groups_of keys).sizes ≡ distinct_of keys
unfolding groups_of sizes_of distinct_of firsts_of
sizes-listed keys = length-sizes (numbers_of keys) (length keys)

module _ (table pool block : List ℕ) (room places : ℕ) (g : Groups) (h : duplicating table pool block room places ≡ gives g) (room' places' : ℕ) where
  pub duplicating-wants-numbers : room' < length g.numbers → duplicating table pool block room' places' ≡ refuses (NoRoom (needed (length g.numbers)))
  duplicating-wants-numbers l =
      let w = duplicating_gave table pool block room places g h in
      let n : length g.numbers ≡ length block / w.size =
      ap (λ (x : Groups). length x.numbers) w.is ∙ numbers-listed (keys_of (fields_in_of table pool) block w.size) ∙ length-keys (fields_in_of table pool) block w.size in
      rw n (duplicating-numbers table pool block room' places' w.size w.admitted w.whole (omega arith))

  pub duplicating-wants-sizes : length g.numbers ≤ room' → places' < length g.sizes → duplicating table pool block room' places' ≡ refuses (NoRoom (needed (length g.sizes)))
  duplicating-wants-sizes r l =
      let w = duplicating_gave table pool block room places g h in
      let keys = keys_of (fields_in_of table pool) block w.size in
      let n : length g.numbers ≡ length block / w.size = ap (λ (x : Groups). length x.numbers) w.is ∙ numbers-listed keys ∙ length-keys (fields_in_of table pool) block w.size in
      let d : length g.sizes ≡ distinct_of keys = ap (λ (x : Groups). length x.sizes) w.is ∙ sizes-listed keys in
      rw d (duplicating-sizes table pool block room' places' w.size w.admitted w.whole (omega arith) (omega arith))
