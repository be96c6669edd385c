-- Which places a field owns, and the comparison of two records, refusal by refusal.
use Prim.Native.Nat.{ℕ, zero, suc, ◌+◌, ◌-◌, ◌*◌, ◌/◌, ◌%◌, ◌<◌, ◌≤◌}
use mathlib.Core.Path.{◌≡◌, refl, ap, subst, ◌∙◌}
use mathlib.Core.Logic.{inl, inr, ⊎_elim}
use mathlib.Core.Bool.{Bool, true, false, ◌&&◌, ◌||◌, false≢true}
use mathlib.Core.List.{List}
use mathlib.Core.Option.{none, some}
use native.Mathlib.Nat.{mul_comm, suc-mul, mul-le-mul_right, mul-add-mod_self_right, mod-eq_of_lt, div-add-mod', lt_of_mul-lt-mul_right, eq-or-lt_of_le}
use native.Mathlib.Omega.{arith}
use lib.ListN.{length}
use lib.Dec.{leb, ltb, eqb}
use borrow.Author.Tests.{ltb-true, ltb-false, lt-ltb, leb-true, le-leb, eqb-true, eq-eqb}
use Rattle.refusal.specs.declared.Refusal.{Refusal}
use Rattle.refusal.specs.declared.Refusal.TheVariants.{ZeroSize, OutsideRecord, HeapHeld, WrongLength}
use Rattle.format.specs.Datatype.{Datatype, leaf, compound, enumeration, variable_length, array, Members, no_members, member, type_size_of, product, max_size}
use Rattle.format.specs.Image.{agree}
use Rattle.format.specs.Outcome.{Outcome, gives, refuses, when_given, unless}
use Rattle.format.specs.Slots.{first_zero, unless_zero}
use Rattle.format.specs.Table.{type_of}
use Rattle.format.specs.Ownership.{FieldAt, MemberFieldAt, Owned, in_entries, owned, member_owned, outside, member_outside, heap_held, admitting, comparing_records, comparing}
use Rattle.format.proofs.Booleans.{and_both, or_either, or_neither, or_second, not-true-false, same_test}

-- an entry in which a test holds
pub record Entry (f : ℕ → Bool) (stride n i : ℕ) : Type 0 where
  pub number : ℕ
  pub below : number < n
  pub from : number * stride ≤ i
  pub holds : f (i - number * stride) ≡ true

pub entry-sound : (f : ℕ → Bool) (stride n i : ℕ) → in_entries f stride n i ≡ true → Entry f stride n i
unfolding in_entries
entry-sound f stride zero i h = absurd (false≢true h)
entry-sound f stride (suc n) i h =
    ⊎_elim
    (λ p. let q = and_both (leb (n * stride) i) (f (i - n * stride)) p in record { number = n; below = omega arith; from = leb-true (n * stride) i q.0; holds = q.1 })
    (λ p. let e = entry-sound f stride n i p in record { number = e.number; below = omega arith; from = e.from; holds = e.holds })
    (or_either (leb (n * stride) i && f (i - n * stride)) (in_entries f stride n i) h)

pub entry_complete : (f : ℕ → Bool) (stride n i k : ℕ) → k < n → k * stride ≤ i → f (i - k * stride) ≡ true → in_entries f stride n i ≡ true
unfolding in_entries
entry_complete f stride zero i k l m h = absurd (omega arith)
entry_complete f stride (suc n) i k l m h =
    ⊎_elim
    (λ e. subst (λ (j : ℕ). ((leb (j * stride) i && f (i - j * stride)) || in_entries f stride n i) ≡ true) e (rw (le-leb (k * stride) i m, h)))
    (λ g. or_second (leb (n * stride) i && f (i - n * stride)) (in_entries f stride n i) (entry_complete f stride n i k (omega arith) m h))
    (eq-or-lt_of_le {n = k} {m = n} (omega arith))

-- a field owns all its bytes
whole : (t : Datatype) (i : ℕ) → FieldAt t t 0 → ltb i (type_size_of t) ≡ true → Owned t i
whole t i r h = record { field = t; place = 0; reached = r; from = omega arith; below = omega (arith, ltb-true i (type_size_of t) h) }

in_entry : (ds : List ℕ) (t : Datatype) (i k : ℕ) → k < product ds → k * type_size_of t ≤ i → Owned t (i - k * type_size_of t) → Owned (array ds t) i
unfolding FieldAt
in_entry ds t i k l m w =
    record {
      field = w.field;
      place = k * type_size_of t + w.place;
      reached = (k, w.place, l, refl, w.reached);
      from = omega (arith, w.from);
      below = omega (arith, w.below);
    }

in_member : (n : ℕ) (b : List ℕ) (o : ℕ) (t : Datatype) (ms : Members) (i : ℕ) → o ≤ i → Owned t (i - o) → Owned (compound n (member b o t ms)) i
unfolding FieldAt
in_member n b o t ms i m w =
    record {
      field = w.field;
      place = o + w.place;
      reached = inl (w.place, refl, w.reached);
      from = omega (arith, w.from);
      below = omega (arith, w.below);
    }

in_others : (n : ℕ) (b : List ℕ) (o : ℕ) (t : Datatype) (ms : Members) (i : ℕ) → Owned (compound n ms) i → Owned (compound n (member b o t ms)) i
unfolding FieldAt
in_others n b o t ms i w = record { field = w.field; place = w.place; reached = inr w.reached; from = w.from; below = w.below }

mutual
  unfolding FieldAt owned type_size_of

  pub owned-sound : (t : Datatype) (i : ℕ) → owned t i ≡ true → Owned t i
  owned-sound (leaf n x) i h = whole (leaf n x) i (refl, refl) h
  owned-sound (compound n ms) i h = member-owned-sound n ms i h
  owned-sound (enumeration n t ms) i h = whole (enumeration n t ms) i (refl, refl) h
  owned-sound (variable_length x a c t) i h = whole (variable_length x a c t) i (refl, refl) h
  owned-sound (array ds t) i h =
      let e = entry-sound (owned t) (type_size_of t) (product ds) i h in
      in_entry ds t i e.number e.below e.from (owned-sound t (i - e.number * type_size_of t) e.holds)

  member-owned-sound : (n : ℕ) (ms : Members) (i : ℕ) → member_owned ms i ≡ true → Owned (compound n ms) i
  member-owned-sound n no_members i h = absurd (false≢true h)
  member-owned-sound n (member b o t ms) i h =
      ⊎_elim
      (λ p. let q = and_both (leb o i) (owned t (i - o)) p in in_member n b o t ms i (leb-true o i q.0) (owned-sound t (i - o) q.1))
      (λ p. in_others n b o t ms i (member-owned-sound n ms i p))
      (or_either (leb o i && owned t (i - o)) (member_owned ms i) h)

-- the bytes of a field that a type reaches are owned
within : (t x : Datatype) (p i : ℕ) → (x ≡ t) × (p ≡ 0) → p ≤ i → i < p + type_size_of x → ltb i (type_size_of t) ≡ true
within t x p i h l m = lt-ltb i (type_size_of t) (omega (arith, h.1, ap type_size_of h.0))

mutual
  unfolding FieldAt owned type_size_of

  field-owned : (t x : Datatype) (p i : ℕ) → FieldAt t x p → p ≤ i → i < p + type_size_of x → owned t i ≡ true
  field-owned (leaf n y) x p i h l m = within (leaf n y) x p i h l m
  field-owned (compound n ms) x p i h l m = member-field-owned ms x p i h l m
  field-owned (enumeration n t ms) x p i h l m = within (enumeration n t ms) x p i h l m
  field-owned (variable_length y a c t) x p i h l m = within (variable_length y a c t) x p i h l m
  field-owned (array ds t) x p i (k, q, g, e, r) l m =
      entry_complete (owned t) (type_size_of t) (product ds) i k g (omega arith) (field-owned t x q (i - k * type_size_of t) r (omega arith) (omega arith))

  member-field-owned : (ms : Members) (x : Datatype) (p i : ℕ) → MemberFieldAt ms x p → p ≤ i → i < p + type_size_of x → member_owned ms i ≡ true
  member-field-owned no_members x p i h l m = absurd h
  member-field-owned (member b o t ms) x p i (inl (q, e, r)) l m =
      rw (le-leb o i (omega arith), field-owned t x q (i - o) r (omega arith) (omega arith))
  member-field-owned (member b o t ms) x p i (inr r) l m =
      or_second (leb o i && owned t (i - o)) (member_owned ms i) (member-field-owned ms x p i r l m)

pub owned_complete : (t : Datatype) (i : ℕ) → Owned t i → owned t i ≡ true
owned_complete t i w = field-owned t w.field w.place i w.reached w.from w.below

-- an array that is not outside has its true size
pub array_size : (ds : List ℕ) (t : Datatype) → outside (array ds t) ≡ false → type_size_of (array ds t) ≡ product ds * type_size_of t
unfolding outside type_size_of
array_size ds t h =
    omega (arith, ltb-false max_size (type_size_of t * product ds) (or_neither (ltb max_size (type_size_of t * product ds)) (outside t) h).0, mul_comm (type_size_of t) (product ds))

array-base : (ds : List ℕ) (t : Datatype) → outside (array ds t) ≡ false → outside t ≡ false
unfolding outside
array-base ds t h = (or_neither (ltb max_size (type_size_of t * product ds)) (outside t) h).1

-- an admitted type owns nothing at its size or past it
mutual
  unfolding outside owned type_size_of

  pub owned_inside : (t : Datatype) (i : ℕ) → outside t ≡ false → owned t i ≡ true → i < type_size_of t
  owned_inside (leaf n x) i h w = ltb-true i n w
  owned_inside (compound n ms) i h w = member-owned-inside n ms i h w
  owned_inside (enumeration n t ms) i h w = ltb-true i n w
  owned_inside (variable_length x a c t) i h w = ltb-true i 16 w
  owned_inside (array ds t) i h w =
      let e = entry-sound (owned t) (type_size_of t) (product ds) i w in
      let inner = owned_inside t (i - e.number * type_size_of t) (array-base ds t h) e.holds in
      omega (arith, array_size ds t h, inner, e.from, mul-le-mul_right (type_size_of t) e.below, suc-mul e.number (type_size_of t))

  member-owned-inside : (n : ℕ) (ms : Members) (i : ℕ) → member_outside n ms ≡ false → member_owned ms i ≡ true → i < n
  member-owned-inside n no_members i h w = absurd (false≢true w)
  member-owned-inside n (member b o t ms) i h w =
      let g = or_neither (ltb n (o + type_size_of t)) (outside t || member_outside n ms) h in
      let g2 = or_neither (outside t) (member_outside n ms) g.1 in
      ⊎_elim
      (λ p. let q = and_both (leb o i) (owned t (i - o)) p in
      omega (arith, leb-true o i q.0, ltb-false n (o + type_size_of t) g.0, owned_inside t (i - o) g2.0 q.1))
      (λ p. member-owned-inside n ms i g2.1 p)
      (or_either (leb o i && owned t (i - o)) (member_owned ms i) w)

-- a place of an admitted array may be looked up by its remainder
module _ (ds : List ℕ) (t : Datatype) (h : outside (array ds t) ≡ false) (z : 0 < type_size_of t) (i : ℕ) where
  by_remainder : owned (array ds t) i ≡ true → (ltb i (type_size_of (array ds t)) && owned t (i % type_size_of t)) ≡ true
  unfolding owned
  by_remainder w =
      let e = entry-sound (owned t) (type_size_of t) (product ds) i w in
      let inner = owned_inside t (i - e.number * type_size_of t) (array-base ds t h) e.holds in
      let split : i ≡ e.number * type_size_of t + (i - e.number * type_size_of t) = omega (arith, e.from) in
      let r : i % type_size_of t ≡ i - e.number * type_size_of t =
      ap (λ (x : ℕ). x % type_size_of t) split ∙ mul-add-mod_self_right e.number (type_size_of t) (i - e.number * type_size_of t) ∙ mod-eq_of_lt inner in
      rw (lt-ltb i (type_size_of (array ds t)) (owned_inside (array ds t) i h w), r) e.holds

  from_remainder : (ltb i (type_size_of (array ds t)) && owned t (i % type_size_of t)) ≡ true → owned (array ds t) i ≡ true
  unfolding owned
  from_remainder w =
      let q = and_both (ltb i (type_size_of (array ds t))) (owned t (i % type_size_of t)) w in
      let l = ltb-true i (type_size_of (array ds t)) q.0 in
      let d = div-add-mod' i (type_size_of t) in
      let k : i / type_size_of t * type_size_of t < product ds * type_size_of t = omega (arith, array_size ds t h) in
      let r : i - i / type_size_of t * type_size_of t ≡ i % type_size_of t = omega arith in
      entry_complete (owned t) (type_size_of t) (product ds) i (i / type_size_of t) (lt_of_mul-lt-mul_right (type_size_of t) k) (omega arith) (rw r q.1)

  pub owned_remainder : owned (array ds t) i ≡ (ltb i (type_size_of (array ds t)) && owned t (i % type_size_of t))
  owned_remainder = same_test (owned (array ds t) i) (ltb i (type_size_of (array ds t)) && owned t (i % type_size_of t)) by_remainder from_remainder

-- the refusals of an admission in their order, for every answer that waits behind them
module _ {A : Type 0} (t : Datatype) (x : Outcome A) where
  pub admitting-zero : (c : ℕ) → first_zero t ≡ some c → admitting t x ≡ refuses (ZeroSize c)
  unfolding admitting unless_zero
  admitting-zero c z = rw z

  module _ (z : first_zero t ≡ none) where
    pub admitting-outside : outside t ≡ true → admitting t x ≡ refuses OutsideRecord
    unfolding admitting unless_zero unless
    admitting-outside o = rw (z, o)

    pub admitting_heap : outside t ≡ false → heap_held t ≡ true → admitting t x ≡ refuses HeapHeld
    unfolding admitting unless_zero unless
    admitting_heap o p = rw (z, o, p)

    pub admitting-given : outside t ≡ false → heap_held t ≡ false → admitting t x ≡ x
    unfolding admitting unless_zero unless
    admitting-given o p = rw (z, o, p)

pub wrong-lengths : (m n s : ℕ) → (m ≡ s → n ≡ s → ⊥) → (eqb m s && eqb n s) ≡ false
wrong-lengths m n s h =
    not-true-false (eqb m s && eqb n s) (λ e. let q = and_both (eqb m s) (eqb n s) e in h (eqb-true m s q.0) (eqb-true n s q.1))

pub records-given : (t : Datatype) (a b : List ℕ) → first_zero t ≡ none → outside t ≡ false → heap_held t ≡ false → length a ≡ type_size_of t → length b ≡ type_size_of t
    → comparing_records a b t ≡ gives (agree t a b)
unfolding comparing_records unless
records-given t a b z o p la lb = admitting-given t _ z o p ∙ rw (eq-eqb (length a) (type_size_of t) la, eq-eqb (length b) (type_size_of t) lb)

-- the comparison of a table's type, refusal by refusal
module _ (table pool a b : List ℕ) where
  pub comparing-refused : (e : Refusal) → type_of table pool ≡ refuses e → comparing table pool a b ≡ refuses e
  unfolding comparing when_given
  comparing-refused e h = rw h

  module _ (t : Datatype) (h : type_of table pool ≡ gives t) where
    pub comparing-given : comparing table pool a b ≡ comparing_records a b t
    unfolding comparing when_given
    comparing-given = rw h

    pub comparing-zero : (c : ℕ) → first_zero t ≡ some c → comparing table pool a b ≡ refuses (ZeroSize c)
    unfolding comparing_records
    comparing-zero c z = comparing-given ∙ admitting-zero t _ c z

    pub comparing-outside : first_zero t ≡ none → outside t ≡ true → comparing table pool a b ≡ refuses OutsideRecord
    unfolding comparing_records
    comparing-outside z o = comparing-given ∙ admitting-outside t _ z o

    pub comparing_heap : first_zero t ≡ none → outside t ≡ false → heap_held t ≡ true → comparing table pool a b ≡ refuses HeapHeld
    unfolding comparing_records
    comparing_heap z o p = comparing-given ∙ admitting_heap t _ z o p

    pub comparing-length : first_zero t ≡ none → outside t ≡ false → heap_held t ≡ false → (length a ≡ type_size_of t → length b ≡ type_size_of t → ⊥)
        → comparing table pool a b ≡ refuses WrongLength
    unfolding comparing_records unless
    comparing-length z o p l =
        comparing-given ∙ admitting-given t _ z o p ∙ rw (wrong-lengths (length a) (length b) (type_size_of t) l)

    pub comparing-records : first_zero t ≡ none → outside t ≡ false → heap_held t ≡ false → length a ≡ type_size_of t → length b ≡ type_size_of t
        → comparing table pool a b ≡ gives (agree t a b)
    comparing-records z o p la lb = comparing-given ∙ records-given t a b z o p la lb
