-- `embedded_reference_slots` and `stored_object_references`; the first type of size 0, which comparing asks for too.
use Rattle.std.specs.Prelude.{ℕ, zero, suc, ◌+◌, ◌*◌, ◌/◌, max, Bool, false, cond, not, ◌&&◌, ◌||◌, List, [], ◌∷◌, ◌++◌, length, take, drop, leb, ltb, eqb}
use Rattle.std.proofs.Math.Option.{Option, none, some}
use Rattle.refusal.specs.declared.Refusal.TheVariants.{ZeroSize, Unmapped, SlotOutside, NoRoom}
use Rattle.format.specs.Bytes.{number_from}
use Rattle.format.specs.Datatype.{leaf_class, refers, Datatype, leaf, compound, enumeration, variable_length, array, Members, no_members, member, type_size_of, product}
use Rattle.format.specs.Outcome.{Outcome, gives, refuses, when_given, unless, needed}
use Rattle.format.specs.Sizes.{holds_object_address}
use Rattle.format.specs.Table.{type_of}

-- an "8-byte object reference"
unfoldable pub is_slot : (size kind : ℕ) → Bool
is_slot n k = eqb n 8 && eqb k 0

-- each number of a list, moved by an offset
unfoldable pub shifted : ℕ → List ℕ → List ℕ
shifted o [] = []
shifted o (s ∷ ss) = (o + s) ∷ shifted o ss

-- a list for each of n entries from the k-th on, "array entries a base size apart"
unfoldable pub entries : (stride : ℕ) → List ℕ → (k n : ℕ) → List ℕ
entries stride ss k zero = []
entries stride ss k (suc n) = shifted (k * stride) ss ++ entries stride ss (suc k) n

unfoldable mutual
  -- "Slots of a type are the offsets of its 8-byte object references reached through compounds and arrays only, in walking order"
  pub slots : Datatype → List ℕ
  slots (leaf n x) = cond (refers (is_slot n) x) (0 ∷ []) []
  slots (compound n ms) = member_slots ms
  slots (enumeration n t ms) = []
  slots (variable_length i a c t) = []
  slots (array ds t) = entries (type_size_of t) (slots t) 0 (product ds)

  pub member_slots : Members → List ℕ
  member_slots no_members = []
  member_slots (member b o t ms) = shifted o (slots t) ++ member_slots ms

unfoldable mutual
  -- how many slots there are, without listing them
  pub slot_count : Datatype → ℕ
  slot_count (leaf n x) = cond (refers (is_slot n) x) 1 0
  slot_count (compound n ms) = member_slot_count ms
  slot_count (enumeration n t ms) = 0
  slot_count (variable_length i a c t) = 0
  slot_count (array ds t) = product ds * slot_count t

  pub member_slot_count : Members → ℕ
  member_slot_count no_members = 0
  member_slot_count (member b o t ms) = slot_count t + member_slot_count ms

-- where the last of n entries ends, if an entry ends at a place; 0 where nothing ends
unfoldable pub last_end : (stride end n : ℕ) → ℕ
last_end stride zero n = 0
last_end stride (suc end) zero = 0
last_end stride (suc end) (suc n) = n * stride + suc end

-- moved by an offset; 0 where nothing ends
unfoldable pub moved_end_of : (offset end : ℕ) → ℕ
moved_end_of o zero = 0
moved_end_of o (suc end) = o + suc end

unfoldable mutual
  -- the greatest slot + 8, without listing them; 0 where there is none
  pub slot_end_of : Datatype → ℕ
  slot_end_of (leaf n x) = cond (refers (is_slot n) x) 8 0
  slot_end_of (compound n ms) = member_slot_end ms
  slot_end_of (enumeration n t ms) = 0
  slot_end_of (variable_length i a c t) = 0
  slot_end_of (array ds t) = last_end (type_size_of t) (slot_end_of t) (product ds)

  pub member_slot_end : Members → ℕ
  member_slot_end no_members = 0
  member_slot_end (member b o t ms) = max (moved_end_of o (slot_end_of t)) (member_slot_end ms)

unfoldable mutual
  -- refusal 19, first ground: "the type holds a reference that isn't an 8-byte object reference"
  pub holds_other_reference : Datatype → Bool
  holds_other_reference (leaf n x) = refers (λ k. not (is_slot n k)) x
  holds_other_reference (compound n ms) = member_holds_other_reference ms
  holds_other_reference (enumeration n t ms) = holds_other_reference t
  holds_other_reference (variable_length i a c t) = holds_other_reference t
  holds_other_reference (array ds t) = holds_other_reference t

  pub member_holds_other_reference : Members → Bool
  member_holds_other_reference no_members = false
  member_holds_other_reference (member b o t ms) = holds_other_reference t || member_holds_other_reference ms

unfoldable mutual
  -- second ground: it "holds one below an enumeration or variable length"
  pub holds_hidden_reference : Datatype → Bool
  holds_hidden_reference (leaf n x) = false
  holds_hidden_reference (compound n ms) = member_holds_hidden_reference ms
  holds_hidden_reference (enumeration n t ms) = holds_object_address t
  holds_hidden_reference (variable_length i a c t) = holds_object_address t
  holds_hidden_reference (array ds t) = holds_hidden_reference t

  pub member_holds_hidden_reference : Members → Bool
  member_holds_hidden_reference no_members = false
  member_holds_hidden_reference (member b o t ms) = holds_hidden_reference t || member_holds_hidden_reference ms

-- some slot + 8 exceeds a size
unfoldable pub some_outside_of : (size : ℕ) → List ℕ → Bool
some_outside_of n [] = false
some_outside_of n (s ∷ ss) = ltb n (s + 8) || some_outside_of n ss

-- refusal 19, its four grounds: "or it has more slots than its size / 8 rounded down; or a slot + 8 exceeds its size"
unfoldable pub unmapped : Datatype → Bool
unmapped t =
    holds_other_reference t || (holds_hidden_reference t || (ltb (type_size_of t / 8) (length (slots t)) || some_outside_of (type_size_of t) (slots t)))

-- the first of two, if there is one
unfoldable pub or_else : Option ℕ → Option ℕ → Option ℕ
or_else none y = y
or_else (some x) y = some x

unfoldable pub zero_class : (class size : ℕ) → Option ℕ
zero_class c n = cond (eqb n 0) (some c) none

unfoldable mutual
  -- refusal 12: the class of "the first such row" of size 0, in the table's order
  pub first_zero : Datatype → Option ℕ
  first_zero (leaf n x) = zero_class (leaf_class x) n
  first_zero (compound n ms) = or_else (zero_class 6 n) (member_first_zero ms)
  first_zero (enumeration n t ms) = or_else (zero_class 8 n) (first_zero t)
  first_zero (variable_length i a c t) = first_zero t
  first_zero (array ds t) = or_else (zero_class 10 (type_size_of (array ds t))) (first_zero t)

  pub member_first_zero : Members → Option ℕ
  member_first_zero no_members = none
  member_first_zero (member b o t ms) = or_else (first_zero t) (member_first_zero ms)

unfoldable pub unless_zero : {A : Type 0} → Option ℕ → Outcome A → Outcome A
unless_zero none x = x
unless_zero (some c) x = refuses (ZeroSize c)

-- the slots of a type in so much room: refusals 12, 19 and 21, in this order
unfoldable pub slotting : (room : ℕ) → Datatype → Outcome (List ℕ)
slotting room t =
    unless_zero (first_zero t)
    (unless (not (unmapped t)) Unmapped (unless (leb (length (slots t)) room) (NoRoom (needed (length (slots t)))) (gives (slots t))))

-- and of the type that a table and pool set out: refusal 1 first
unfoldable pub finding_slots : (table pool : List ℕ) (room : ℕ) → Outcome (List ℕ)
finding_slots table pool room = when_given (type_of table pool) (slotting room)

-- "record size 0 counts as 1"
unfoldable pub record_size_of : ℕ → ℕ
record_size_of n = max n 1

-- "each whole record in turn, a remainder is ignored"
unfoldable pub record_count_of : (block : List ℕ) (size : ℕ) → ℕ
record_count_of block n = length block / record_size_of n

-- "References (place in the block, 8-byte value)"
unfoldable pub values_at : (block places : List ℕ) → List ℕ
values_at block [] = []
values_at block (p ∷ ps) = number_from (take 8 (drop p block)) ∷ values_at block ps

-- places and values, in step
pub record References : Type 0 where
  pub places : List ℕ
  pub values : List ℕ

unfoldable pub reference_places : (block : List ℕ) (size : ℕ) (slots : List ℕ) → List ℕ
reference_places block n ss = entries (record_size_of n) ss 0 (record_count_of block n)

-- refusals 20 and 21, in this order; "needed is records x slots"
unfoldable pub referencing : (block : List ℕ) (size : ℕ) (slots : List ℕ) (room : ℕ) → Outcome References
referencing block n ss room =
    unless (not (some_outside_of (record_size_of n) ss)) SlotOutside
    (unless (leb (record_count_of block n * length ss) room) (NoRoom (needed (record_count_of block n * length ss)))
    (gives (record { places = reference_places block n ss; values = values_at block (reference_places block n ss) })))
