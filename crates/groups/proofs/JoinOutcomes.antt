-- What N6 answers, in the order of the refusals.
use Prim.Native.Nat.{ℕ, ◌+◌, ◌*◌, ◌/◌, ◌%◌, ◌<◌, ◌≤◌}
use mathlib.Core.Path.{◌≡◌, refl, ap, ◌∙◌}
use mathlib.Core.Logic.{◌⊎◌, inl, inr, ◌↔◌, ⊎_elim}
use mathlib.Core.List.{List, ◌++◌}
use native.Mathlib.Nat.{mul-le-mul_right, div-mul-le_self}
use native.Mathlib.Omega.{arith}
use lib.ListN.{length, length-append}
use lib.Dec.{eqb}
use borrow.Author.Tests.{eq-eqb, ne_eqb, le-leb, lt-leb}
use Rattle.refusal.specs.Refusal.{number_of}
use Rattle.refusal.specs.declared.Refusal.{Refusal}
use Rattle.refusal.specs.declared.Refusal.TheVariants.{WrongLength, NoRoom}
use Rattle.format.specs.Datatype.{type_size_of}
use Rattle.format.specs.Image.{Field, fields_of}
use Rattle.format.specs.Outcome.{Outcome, gives, refuses, unless, needed}
use Rattle.format.specs.Ownership.{admission}
use Rattle.format.proofs.Admission.{admission-refused}
use Rattle.groups.specs.Groups.{numbers_of, firsts_of, distinct_of}
use Rattle.groups.specs.Duplicates.{keys_of, fields_in_of}
use Rattle.groups.specs.Join.{Joint, joint_of, fitting_joint, joining_records, joining}
use Rattle.groups.proofs.Cases.{same_or_not, less_or_not}
use Rattle.groups.proofs.Counts.{firsts_le}
use Rattle.groups.proofs.Keys.{length-keys}
use Rattle.groups.proofs.Records.{length-records-firsts}
use Rattle.groups.proofs.Outcomes.{admission-passes, admission-number, not-given, not_equal}

-- each record kept is whole
module _ (fs : List Field) (a b : List ℕ) (size : ℕ) where
  pub length-joint : length (joint_of fs a b size).bytes ≡ distinct_of (keys_of fs (a ++ b) size) * size
  unfolding joint_of firsts_of distinct_of
  length-joint =
      let keys = keys_of fs (a ++ b) size in
      length-records-firsts (a ++ b) size (numbers_of keys) (length keys) (omega (arith, length-keys fs (a ++ b) size))

  -- no more is kept than there is
  pub joint_le : distinct_of (keys_of fs (a ++ b) size) * size ≤ length a + length b
  unfolding distinct_of firsts_of
  joint_le =
      let keys = keys_of fs (a ++ b) size in
      let l : distinct_of keys * size ≤ length (a ++ b) / size * size = mul-le-mul_right size (omega (arith, firsts_le (numbers_of keys) (length keys), length-keys fs (a ++ b) size)) in
      omega (arith, div-mul-le_self (length (a ++ b)) size, length-append a b)

module _ (room : ℕ) (j : Joint) where
  pub joint-short : room < length j.bytes → fitting_joint room j ≡ refuses (NoRoom (needed (length j.bytes)))
  unfolding fitting_joint unless
  joint-short h = rw (lt-leb (length j.bytes) room h)

  pub joint-given : length j.bytes ≤ room → fitting_joint room j ≡ gives j
  unfolding fitting_joint unless
  joint-given h = rw (le-leb (length j.bytes) room h)

-- "Checks and refusals are N3's": refusals 1, 12, 16 and 17 are met alike
pub joining-refused : (table pool : List ℕ) (e : Refusal) → admission table pool ≡ refuses e → (a b : List ℕ) (room : ℕ) → joining table pool a b room ≡ refuses e
unfolding joining joining_records
joining-refused table pool e h a b room =
    admission-refused table pool
    (λ t. unless (eqb (length a % type_size_of t) 0) WrongLength (unless (eqb (length b % type_size_of t) 0) WrongLength (fitting_joint room (joint_of (fields_of t) a b (type_size_of t)))))
    e h

-- from here on the type is admitted and has the size `size`
module _ (table pool a b : List ℕ) (room size : ℕ) (h : admission table pool ≡ gives size) where
  admitted : joining table pool a b room
      ≡ unless (eqb (length a % size) 0) WrongLength (unless (eqb (length b % size) 0) WrongLength (fitting_joint room (joint_of (fields_in_of table pool) a b size)))
  unfolding joining joining_records
  admitted =
      admission-passes table pool size h
      (λ fs n. unless (eqb (length a % n) 0) WrongLength (unless (eqb (length b % n) 0) WrongLength (fitting_joint room (joint_of fs a b n))))

  -- "first block before second"
  pub joining-first-length : (length a % size ≡ 0 → ⊥) → joining table pool a b room ≡ refuses WrongLength
  unfolding unless
  joining-first-length n = admitted ∙ rw (ne_eqb (length a % size) 0 n)

  module _ (w : length a % size ≡ 0) where
    pub joining-second-length : (length b % size ≡ 0 → ⊥) → joining table pool a b room ≡ refuses WrongLength
    unfolding unless
    joining-second-length n = admitted ∙ rw (eq-eqb (length a % size) 0 w, ne_eqb (length b % size) 0 n)

    module _ (v : length b % size ≡ 0) where
      pub joining-whole : joining table pool a b room ≡ fitting_joint room (joint_of (fields_in_of table pool) a b size)
      unfolding unless
      joining-whole = admitted ∙ rw (eq-eqb (length a % size) 0 w, eq-eqb (length b % size) 0 v)

      -- the needed bytes are those of the distinct records
      pub joining-room : room < distinct_of (keys_of (fields_in_of table pool) (a ++ b) size) * size
          → joining table pool a b room ≡ refuses (NoRoom (needed (distinct_of (keys_of (fields_in_of table pool) (a ++ b) size) * size)))
      joining-room l =
          let e = length-joint (fields_in_of table pool) a b size in
          joining-whole ∙ joint-short room (joint_of (fields_in_of table pool) a b size) (omega arith) ∙ rw e

      pub joining-given : distinct_of (keys_of (fields_in_of table pool) (a ++ b) size) * size ≤ room → joining table pool a b room ≡ gives (joint_of (fields_in_of table pool) a b size)
      joining-given l = joining-whole ∙ joint-given room (joint_of (fields_in_of table pool) a b size) (omega (arith, length-joint (fields_in_of table pool) a b size))

      -- room for both blocks is enough
      pub joining-enough-room : length a + length b ≤ room → joining table pool a b room ≡ gives (joint_of (fields_in_of table pool) a b size)
      joining-enough-room l = joining-given (omega (arith, joint_le (fields_in_of table pool) a b size))

-- ---- the other way: which refusals there are, and what a result says

-- a result: the type is admitted, both blocks are whole, and the joined bytes have room
pub record JoinGiven (table pool a b : List ℕ) (room : ℕ) (j : Joint) : Type 0 where
  pub size : ℕ
  pub admitted : admission table pool ≡ gives size
  pub first-whole : length a % size ≡ 0
  pub second-whole : length b % size ≡ 0
  pub fits : distinct_of (keys_of (fields_in_of table pool) (a ++ b) size) * size ≤ room
  pub is : j ≡ joint_of (fields_in_of table pool) a b size

-- WrongLength: the type is admitted, and one of the blocks is not whole
pub record JoinNotWhole (table pool a b : List ℕ) : Type 0 where
  pub size : ℕ
  pub admitted : admission table pool ≡ gives size
  pub not-whole : (length a % size ≡ 0 → ⊥) ⊎ (length b % size ≡ 0 → ⊥)

-- NoRoom: of an admitted type and two whole blocks, the room is less than the joined bytes
pub record JoinTooShort (table pool a b : List ℕ) (room wanted : ℕ) : Type 0 where
  pub size : ℕ
  pub admitted : admission table pool ≡ gives size
  pub first-whole : length a % size ≡ 0
  pub second-whole : length b % size ≡ 0
  pub short : room < length (joint_of (fields_in_of table pool) a b size).bytes
  pub wants : wanted ≡ needed (length (joint_of (fields_in_of table pool) a b size).bytes)

module _ (table pool a b : List ℕ) (room : ℕ) where
  -- the ways out, each with what is known there
  data Way : Outcome Joint → Type 0 where
    refused : (e : Refusal) → number_of e < 18 → Way (refuses e)
    not-whole : JoinNotWhole table pool a b → Way (refuses WrongLength)
    too_short : (n : ℕ) → JoinTooShort table pool a b room n → Way (refuses (NoRoom n))
    given : (j : Joint) → JoinGiven table pool a b room j → Way (gives j)

  length_if : JoinNotWhole table pool a b → joining table pool a b room ≡ refuses WrongLength
  length_if n =
      ⊎_elim
      (joining-first-length table pool a b room n.size n.admitted)
      (λ (d : length b % n.size ≡ 0 → ⊥).
      ⊎_elim
      (λ (w : length a % n.size ≡ 0). joining-second-length table pool a b room n.size n.admitted w d)
      (joining-first-length table pool a b room n.size n.admitted)
      (same_or_not (length a % n.size) 0))
      n.not-whole

  room_if : (n : ℕ) → JoinTooShort table pool a b room n → joining table pool a b room ≡ refuses (NoRoom n)
  room_if n w =
      let e = length-joint (fields_in_of table pool) a b w.size in
      joining-room table pool a b room w.size w.admitted w.first-whole w.second-whole (omega (arith, w.short)) ∙ rw (w.wants, e)

  way_of : (o : Outcome ℕ) → admission table pool ≡ o → Way (joining table pool a b room)
  way_of (gives size) h =
      let d = distinct_of (keys_of (fields_in_of table pool) (a ++ b) size) * size in
      let e = length-joint (fields_in_of table pool) a b size in
      ⊎_elim
      (λ (w : length a % size ≡ 0).
      ⊎_elim
      (λ (v : length b % size ≡ 0).
      ⊎_elim
      (λ (l : room < d).
      let s : JoinTooShort table pool a b room (needed d) = record { size = size; admitted = h; first-whole = w; second-whole = v; short = omega arith; wants = rw e } in
      rw (room_if (needed d) s) (too_short (needed d) s))
      (λ (l : d ≤ room).
      rw (joining-given table pool a b room size h w v l)
      (given (joint_of (fields_in_of table pool) a b size) (record { size = size; admitted = h; first-whole = w; second-whole = v; fits = l; is = refl })))
      (less_or_not room d))
      (λ (n : length b % size ≡ 0 → ⊥). rw (joining-second-length table pool a b room size h w n) (not-whole (record { size = size; admitted = h; not-whole = inr n })))
      (same_or_not (length b % size) 0))
      (λ (n : length a % size ≡ 0 → ⊥). rw (joining-first-length table pool a b room size h n) (not-whole (record { size = size; admitted = h; not-whole = inl n })))
      (same_or_not (length a % size) 0)
  way_of (refuses e) h = rw (joining-refused table pool e h a b room) (refused e (admission-number table pool e h))

  pub joining_gave : (j : Joint) → joining table pool a b room ≡ gives j → JoinGiven table pool a b room j
  joining_gave j h = go (joining table pool a b room) h (way_of (admission table pool) refl)
    where
      go : (o : Outcome Joint) → o ≡ gives j → Way o → JoinGiven table pool a b room j
      go o q (refused e l) = not-given q refl
      go o q (not-whole w) = not-given q refl
      go o q (too_short n w) = not-given q refl
      go o q (given f w) = let s : f ≡ j = cc in rw (← s) w

  length-then : joining table pool a b room ≡ refuses WrongLength → JoinNotWhole table pool a b
  length-then h = go (joining table pool a b room) h (way_of (admission table pool) refl)
    where
      go : (o : Outcome Joint) → o ≡ refuses WrongLength → Way o → JoinNotWhole table pool a b
      go o q (refused e l) = not_equal e WrongLength q (λ k. omega arith)
      go o q (not-whole w) = w
      go o q (too_short n w) = not_equal (NoRoom n) WrongLength q (λ k. omega arith)
      go o q (given j w) = not-given refl q

  room-then : (n : ℕ) → joining table pool a b room ≡ refuses (NoRoom n) → JoinTooShort table pool a b room n
  room-then n h = go (joining table pool a b room) h (way_of (admission table pool) refl)
    where
      go : (o : Outcome Joint) → o ≡ refuses (NoRoom n) → Way o → JoinTooShort table pool a b room n
      go o q (refused e l) = not_equal e (NoRoom n) q (λ k. omega arith)
      go o q (not-whole w) = not_equal WrongLength (NoRoom n) q (λ k. omega arith)
      go o q (too_short m w) = let k : m ≡ n = cc in rw (← k) w
      go o q (given j w) = not-given refl q

  -- 18 exactly where the type is admitted and one of the blocks is not whole
  pub joining-length-exactly : joining table pool a b room ≡ refuses WrongLength ↔ JoinNotWhole table pool a b
  joining-length-exactly = (length-then, length_if)

  -- 21 exactly where the joined bytes have no room
  pub joining-room-exactly : (n : ℕ) → joining table pool a b room ≡ refuses (NoRoom n) ↔ JoinTooShort table pool a b room n
  joining-room-exactly n = (room-then n, room_if n)

-- what is wanted is the whole result: the bytes that enough room gives
pub joining-wants : (table pool a b : List ℕ) (room : ℕ) (j : Joint) → joining table pool a b room ≡ gives j → (room' : ℕ) → room' < length j.bytes
    → joining table pool a b room' ≡ refuses (NoRoom (needed (length j.bytes)))
joining-wants table pool a b room j h room' l =
    let w = joining_gave table pool a b room j h in
    let e : length j.bytes ≡ distinct_of (keys_of (fields_in_of table pool) (a ++ b) w.size) * w.size =
    ap (λ (x : Joint). length x.bytes) w.is ∙ length-joint (fields_in_of table pool) a b w.size in
    rw e (joining-room table pool a b room' w.size w.admitted w.first-whole w.second-whole (omega arith))
