-- Which places of a record a field owns, and when two records are the same.
use Rattle.std.specs.Prelude.{ℕ, zero, suc, ◌+◌, ◌-◌, ◌*◌, ◌<◌, ◌≤◌, ◌≡◌, ◌⊎◌, Bool, true, false, not, ◌&&◌, ◌||◌, List, length, get_or, leb, ltb, eqb}
use Rattle.refusal.specs.declared.Refusal.TheVariants.{OutsideRecord, HeapHeld, WrongLength}
use Rattle.format.specs.Datatype.{string, refers, Datatype, leaf, compound, enumeration, variable_length, array, Members, no_members, member, type_size_of, product, max_size}
use Rattle.format.specs.Image.{agree}
use Rattle.format.specs.Outcome.{Outcome, gives, when_given, unless}
use Rattle.format.specs.Slots.{first_zero, unless_zero}
use Rattle.format.specs.Table.{type_of}

unfoldable mutual
  -- "A field is a type other than a compound or an array, reached through these only: the outermost type itself, a member's or an
  -- entry's." The field lies at a place of the record; entry k of an array at k base sizes.
  pub FieldAt : Datatype → (field : Datatype) (place : ℕ) → Type 0
  FieldAt (leaf n x) field place = (field ≡ leaf n x) × (place ≡ 0)
  FieldAt (compound n ms) field place = MemberFieldAt ms field place
  FieldAt (enumeration n t ms) field place = (field ≡ enumeration n t ms) × (place ≡ 0)
  FieldAt (variable_length i a c t) field place = (field ≡ variable_length i a c t) × (place ≡ 0)
  FieldAt (array ds t) field place = (k : ℕ) × (q : ℕ) × (k < product ds) × (place ≡ k * type_size_of t + q) × FieldAt t field q

  pub MemberFieldAt : Members → (field : Datatype) (place : ℕ) → Type 0
  MemberFieldAt no_members field place = ⊥
  MemberFieldAt (member b o t ms) field place = ((q : ℕ) × (place ≡ o + q) × FieldAt t field q) ⊎ MemberFieldAt ms field place

-- "all other types own all their bytes": place i is one of a field's bytes; overlaps are united
pub record Owned (t : Datatype) (i : ℕ) : Type 0 where
  pub field : Datatype
  pub place : ℕ
  pub reached : FieldAt t field place
  pub from : place ≤ i
  pub below : i < place + type_size_of field

-- the field at place p is "such a string and past its end" at place i of a record
pub record PastEnd (r : List ℕ) (field : Datatype) (p i : ℕ) : Type 0 where
  pub size : ℕ
  pub charset : ℕ
  pub is-string : field ≡ leaf size (string 0 charset)
  pub nul : ℕ
  pub from : p ≤ nul
  pub before : nul < i
  pub is-nul : get_or r nul 0 ≡ 0

-- "a byte is taken as zero only if every field that owns it is such a string and past its end there"
pub record TakenAsZero (t : Datatype) (r : List ℕ) (i : ℕ) : Type 0 where
  pub is-owned : Owned t i
  pub every : (x : Datatype) (p : ℕ) → FieldAt t x p → p ≤ i → i < p + type_size_of x → PastEnd r x p i

-- what an owned byte is taken as: 0 there, and what the record has elsewhere
unfoldable pub TakenAs : Datatype → List ℕ → ℕ → (byte : ℕ) → Type 0
TakenAs t r i x = (TakenAsZero t r i × (x ≡ 0)) ⊎ ((TakenAsZero t r i → ⊥) × (x ≡ get_or r i 0))

-- a test holds at a place behind the start of one of the first n entries
unfoldable pub in_entries : (ℕ → Bool) → (stride n i : ℕ) → Bool
in_entries f stride zero i = false
in_entries f stride (suc n) i = (leb (n * stride) i && f (i - n * stride)) || in_entries f stride n i

unfoldable mutual
  -- the same as a test: "A compound owns its members' bytes at their offsets, overlaps united; an array owns its base's at each stride"
  pub owned : Datatype → ℕ → Bool
  owned (leaf n x) place = ltb place n
  owned (compound n ms) place = member_owned ms place
  owned (enumeration n t ms) place = ltb place n
  owned (variable_length i a c t) place = ltb place 16
  owned (array ds t) place = in_entries (owned t) (type_size_of t) (product ds) place

  pub member_owned : Members → ℕ → Bool
  member_owned no_members place = false
  member_owned (member b o t ms) place = (leb o place && owned t (place - o)) || member_owned ms place

unfoldable mutual
  -- refusal 16: "a member ends past its compound, or an array's true size passes 4,294,967,295", in any row
  pub outside : Datatype → Bool
  outside (leaf n x) = false
  outside (compound n ms) = member_outside n ms
  outside (enumeration n t ms) = outside t
  outside (variable_length i a c t) = outside t
  outside (array ds t) = ltb max_size (type_size_of t * product ds) || outside t

  pub member_outside : (size : ℕ) → Members → Bool
  member_outside n no_members = false
  member_outside n (member b o t ms) = ltb n (o + type_size_of t) || (outside t || member_outside n ms)

unfoldable mutual
  -- refusal 17: "holding, at any level, a variable-length type or region reference"
  pub heap_held : Datatype → Bool
  heap_held (leaf n x) = refers (λ k. eqb k 1) x
  heap_held (compound n ms) = member_heap_held ms
  heap_held (enumeration n t ms) = heap_held t
  heap_held (variable_length i a c t) = true
  heap_held (array ds t) = heap_held t

  pub member_heap_held : Members → Bool
  member_heap_held no_members = false
  member_heap_held (member b o t ms) = heap_held t || member_heap_held ms

-- "A type is admitted to comparison if none of refusals 1, 12, 16 and 17 meets it"
unfoldable pub admitting : {A : Type 0} → Datatype → Outcome A → Outcome A
admitting t x = unless_zero (first_zero t) (unless (not (outside t)) OutsideRecord (unless (not (heap_held t)) HeapHeld x))

-- the size of the type that a table and pool set out, if it is admitted: refusals 1, 12, 16 and 17, in this order
unfoldable pub admission : (table pool : List ℕ) → Outcome ℕ
admission table pool = when_given (type_of table pool) (λ t. admitting t (gives (type_size_of t)))

-- "a whole record has exactly the type's size in bytes"; true is same
unfoldable pub comparing_records : (a b : List ℕ) → Datatype → Outcome Bool
comparing_records a b t =
    admitting t (unless (eqb (length a) (type_size_of t) && eqb (length b) (type_size_of t)) WrongLength (gives (agree t a b)))

-- refusals 1, 12, 16, 17 and 18, in this order, then same or not
unfoldable pub comparing : (table pool a b : List ℕ) → Outcome Bool
comparing table pool a b = when_given (type_of table pool) (comparing_records a b)
