-- What the walks of slots answer of a type that is found; and what `embedded_reference_slots` promises.
use Rattle.std.specs.Prelude.{◌≡◌, ℕ, zero, suc, ◌+◌, ◌-◌, ◌*◌, ◌%◌, ◌^◌, ◌<◌, ◌≤◌, min, Bool, false, cond, not, ◌&&◌, ◌||◌, List, [], ◌∷◌, length, ◌==◌, ◌≢◌, nat_lt, slice_index, slice_set, Result}
use Rattle.std.proofs.Math.Option.{none}
use Rattle.std.proofs.lemmas.List.Edits.{sets}
use Rattle.refusal.specs.declared.Refusal.{Refusal}
use Rattle.format.specs.Datatype.{Datatype, Members}
use Rattle.format.specs.Outcome.{output_after, Answers}
use Rattle.format.specs.Slots.{is_slot, shifted, entries, slots, member_slots, last_end, slot_count, member_slot_count, slot_end_of, member_slot_end, holds_other_reference, member_holds_other_reference, holds_hidden_reference, member_holds_hidden_reference, first_zero, member_first_zero, finding_slots}
use Rattle.format.specs.Table.{Found, found, bad, type_at, members_at}
use Rattle.slots.specs.declared.Tally.{Tally}
use Rattle.slots.specs.declared.Put.{Put}
use Rattle.table.specs.Known.{PassesType, PassesMembers}

abbrev pub most_slots : ℕ → ℕ
most_slots n = min n 1073741824

abbrev pub most_end : ℕ → ℕ
most_end n = min n 4294967296

-- ---- counting

-- what is counted: whether a reference is unmapped, the number of slots and where the last ends
pub record Counted (unmapped : Bool) (count end : ℕ) (x : Tally) : Type 0 where
  pub unmapped-is : x.unmapped ≡ unmapped
  pub count-is : x.count ≡ most_slots count
  pub end_is : x.end ≡ most_end end

-- of a type without a type of size 0 in it; nothing is said of others
unfoldable pub CountedAs : Found Datatype → Tally → Type 0
CountedAs (found t r p) x = first_zero t ≡ none → Counted (holds_other_reference t || holds_hidden_reference t) (slot_count t) (slot_end_of t) x
CountedAs bad x = Unit {0}

unfoldable pub CountedIn : Found Members → Tally → Type 0
CountedIn (found ms r p) x =
    member_first_zero ms ≡ none → Counted (member_holds_other_reference ms || member_holds_hidden_reference ms) (member_slot_count ms) (member_slot_end ms) x
CountedIn bad x = Unit {0}

-- the type at a row, wherever its pool bytes begin: the row behind it, and what is counted
pub record TallyAt (levels : ℕ) (table pool : List ℕ) (row : ℕ) (x : Tally) : Type 0 where
  pub passes : PassesType levels table row x.row
  pub counts : (p : ℕ) → CountedAs (type_at levels table pool row p) x

-- so many members from a row on
pub record TallyIn (levels : ℕ) (table pool : List ℕ) (row count : ℕ) (x : Tally) : Type 0 where
  pub passes : PassesMembers levels table row count x.row
  pub counts : (p : ℕ) → CountedIn (members_at (type_at levels table pool) table pool count row p) x

-- what a leaf's row counts, the next row given
unfoldable pub leaf_tally_of : (class size code row : ℕ) → Tally
leaf_tally_of c n x r = record { row = r; unmapped = c == 7 && not (is_slot n x); count = cond (c == 7 && is_slot n x) 1 0; end = cond (c == 7 && is_slot n x) 8 0 }

-- what a type counts below which no slot is, by its base's count: every reference of the base is unmapped
unfoldable pub hidden_tally_of : (row : ℕ) → Tally → Tally
hidden_tally_of r b = record { row = r; unmapped = b.unmapped || nat_lt 0 b.count; count = 0; end = 0 }

-- n entries of a base that counts so much
unfoldable pub entries_tally_of : (stride n : ℕ) → Tally → Tally
entries_tally_of stride n b = record { row = b.row; unmapped = b.unmapped; count = most_slots (n * b.count); end = most_end (last_end stride b.end n) }

-- ---- listing

unfoldable pub AllBelow : (limit : ℕ) → List ℕ → Type 0
AllBelow m [] = Unit {0}
AllBelow m (v ∷ vs) = (v < m) × AllBelow m vs

-- numbers that 32 bits hold, and room for them from a place on
pub record Fits (vs out : List ℕ) (at : ℕ) : Type 0 where
  pub room : at + length vs ≤ length out
  pub low : AllBelow 4294967296 vs

-- they are listed from there on, the next would go behind them, and nothing else is written
pub record Listed (vs out : List ℕ) (at x : ℕ) (out' : List ℕ) : Type 0 where
  pub next : x ≡ at + length vs
  pub out-is : out' ≡ sets out at vs

-- a type that has no size 0 and no reference but slots
pub record Listable (t : Datatype) : Type 0 where
  pub sized : first_zero t ≡ none
  pub mapped : (holds_other_reference t || holds_hidden_reference t) ≡ false

pub record ListableIn (ms : Members) : Type 0 where
  pub sized : member_first_zero ms ≡ none
  pub mapped : (member_holds_other_reference ms || member_holds_hidden_reference ms) ≡ false

-- what listing does for a type that begins at a place of the record; nothing is said where the type is not listable or its slots do not fit
unfoldable pub PutAs : Found Datatype → (base : ℕ) (out : List ℕ) (at x : ℕ) (out' : List ℕ) → Type 0
PutAs (found t r p) base out at x out' = Listable t → Fits (shifted base (slots t)) out at → Listed (shifted base (slots t)) out at x out'
PutAs bad base out at x out' = Unit {0}

unfoldable pub PutIn : Found Members → (base : ℕ) (out : List ℕ) (at x : ℕ) (out' : List ℕ) → Type 0
PutIn (found ms r p) base out at x out' = ListableIn ms → Fits (shifted base (member_slots ms)) out at → Listed (shifted base (member_slots ms)) out at x out'
PutIn bad base out at x out' = Unit {0}

-- the type at a row, wherever its pool bytes begin: the row behind it, and what is listed
pub record PutAt (levels : ℕ) (table pool : List ℕ) (row base : ℕ) (out : List ℕ) (at : ℕ) (x : Put) (out' : List ℕ) : Type 0 where
  pub passes : PassesType levels table row x.row
  pub lists : (p : ℕ) → PutAs (type_at levels table pool row p) base out at x.next out'

-- so many members from a row on
pub record PutInside (levels : ℕ) (table pool : List ℕ) (row count base : ℕ) (out : List ℕ) (at : ℕ) (x : Put) (out' : List ℕ) : Type 0 where
  pub passes : PassesMembers levels table row count x.row
  pub lists : (p : ℕ) → PutIn (members_at (type_at levels table pool) table pool count row p) base out at x.next out'

-- a type is passed over, and nothing is listed
pub record Passed (levels : ℕ) (table : List ℕ) (row at : ℕ) (x : Put) : Type 0 where
  pub passes : PassesType levels table row x.row
  pub stays : x.next ≡ at

-- a leaf, the row behind it given: a reference is listed where there is room, any other leaf lists nothing
pub record PutLeaf (row class base : ℕ) (out : List ℕ) (at : ℕ) (x : Put) (out' : List ℕ) : Type 0 where
  pub behind : x.row ≡ row
  pub one : class ≡ 7 → at + 1 ≤ length out → Listed (base ∷ []) out at x.next out'
  pub none_else : (class ≢ 7) → Listed [] out at x.next out'

-- so many numbers from k on, each a stride more, in 64 bits, than the one n places before it
unfoldable pub moved_on : (stride n k left : ℕ) → List ℕ → List ℕ
moved_on stride n k zero out = out
moved_on stride n k (suc left) out = moved_on stride n (suc k) left (slice_set out k ((slice_index out (k - n) + stride) % 2 ^ 64))

-- where the numbers of an array's first entry stand, those of all its entries are listed
pub record Repeats (stride count at next : ℕ) (out : List ℕ) (x : ℕ) (out' : List ℕ) : Type 0 where
  pub repeats : (base : ℕ) (ss out₀ : List ℕ) → 0 < count → Fits (shifted base (entries stride ss 0 count)) out₀ at → Listed (shifted base ss) out₀ at next out
      → Listed (shifted base (entries stride ss 0 count)) out₀ at x out'

-- the values of an answer: the count
unfoldable pub slots_values : ℕ → List ℕ
slots_values n = n ∷ []

pub record SlotsAre (table pool : List ℕ) (r : Result ℕ Refusal) (out out' : List ℕ) : Type 0 where
  pub answers : Answers length slots_values (finding_slots table pool (length out)) r
  pub out-is : out' ≡ output_after out (finding_slots table pool (length out))
