-- What the walk over fields answers of a type that is found; and the answer of `same`.
use Rattle.std.specs.Prelude.{ℕ, zero, suc, ◌+◌, ◌*◌, ◌<◌, ◌≤◌, ◌≡◌, Bool, true, false, ◌&&◌, List, [], ◌∷◌, length, get_or, eqb, Option, Some, None, Result, Ok, Err}
use Rattle.std.proofs.Math.Option.{none}
use Rattle.refusal.specs.declared.Refusal.{Refusal}
use Rattle.format.specs.Datatype.{Datatype, Members, type_size_of}
use Rattle.format.specs.Outcome.{Outcome, gives, Answers}
use Rattle.format.specs.Image.{Field, move_fields, field_entries, fields_of, member_fields, FieldsAgree, FieldsDiffer}
use Rattle.format.specs.Ownership.{outside, member_outside, heap_held, member_heap_held}
use Rattle.format.specs.Slots.{first_zero, member_first_zero}
use Rattle.format.specs.Table.{Found, found, bad, type_at, type_of, members_at}
use Rattle.rows.specs.Entries.{entry_at, RowSays, from_entry}
use Rattle.rows.specs.declared.Entry.{Entry}
use Rattle.rows.specs.declared.Entry.TheVariants.{Leaf, Compound, Enumeration, VariableLength, Array}
use Rattle.table.specs.Known.{PassesType}
use Rattle.compare.specs.declared.Base.{Base}
use Rattle.compare.specs.declared.Disagreement.{Disagreement}
use Rattle.compare.specs.declared.Disagreement.TheVariants.{Apart, Lost}

-- a record begins within two of the same length
pub record Standing (a b : List ℕ) (at : ℕ) : Type 0 where
  pub begins : at ≤ length a
  pub lengths : length b ≡ length a

-- n bytes from at on are equal
unfoldable pub equal_range_of : (a b : List ℕ) (at n : ℕ) → Bool
equal_range_of a b at zero = true
equal_range_of a b at (suc n) = eqb (get_or a at 0) (get_or b at 0) && equal_range_of a b (suc at) n

-- k of n bytes from at on are equal
pub record Equal (a b : List ℕ) (at n k : ℕ) : Type 0 where
  pub within : k ≤ n
  pub equal : (j : ℕ) → at ≤ j → j < at + k → get_or a j 0 ≡ get_or b j 0

-- and the next one differs
pub record Common (a b : List ℕ) (at n k : ℕ) : Type 0 where
  pub so_far : Equal a b at n k
  pub differs : k < n → get_or a (at + k) 0 ≡ get_or b (at + k) 0 → ⊥

-- a NUL-terminated string is class 3 with padding 0, its row's column 5
unfoldable pub nul_terminated_of : (class code : ℕ) → Bool
nul_terminated_of c x = eqb c 3 && eqb x 0

-- the row's type is a field, and of its row's size
unfoldable pub is_field_of : Entry → Bool
is_field_of (Leaf c n l x) = true
is_field_of (Compound n k) = false
is_field_of (Enumeration n k) = true
is_field_of (VariableLength i p c) = false
is_field_of (Array k) = false

-- the row's type is a NUL-terminated string
unfoldable pub is_string_of : Entry → Bool
is_string_of (Leaf c n l x) = nul_terminated_of c x
is_string_of (Compound n k) = false
is_string_of (Enumeration n k) = false
is_string_of (VariableLength i p c) = false
is_string_of (Array k) = false

-- of a row that may be no type's
unfoldable pub is_field_in : Option Entry → Bool
is_field_in None = false
is_field_in (Some e) = is_field_of e

unfoldable pub is_string_in : Option Entry → Bool
is_string_in None = false
is_string_in (Some e) = is_string_of e

-- "A type is admitted to comparison": it has no size 0, nothing outside and nothing heap-held
pub record Admitted (t : Datatype) : Type 0 where
  pub sized : first_zero t ≡ none
  pub inside : outside t ≡ false
  pub plain : heap_held t ≡ false

-- and so the members of a compound of a size
pub record AdmittedIn (size : ℕ) (ms : Members) : Type 0 where
  pub sized : member_first_zero ms ≡ none
  pub inside : member_outside size ms ≡ false
  pub plain : member_heap_held ms ≡ false

-- what the check established of a type that is admitted and has a size
pub record Admits (table pool : List ℕ) (size : ℕ) : Type 0 where
  pub type : Datatype
  pub is : type_of table pool ≡ gives type
  pub admitted : Admitted type
  pub size_is : size ≡ type_size_of type

-- what a walk over fields answers: the next row where they agree, or why not
abbrev pub Agreed : Type 0
Agreed = Result ℕ Disagreement

-- by what is answered of fields, and the next row; never lost
pub record AnswersFields (fs : List Field) (a b : List ℕ) (next : ℕ) (x : Agreed) : Type 0 where
  pub together : (s : ℕ) → x ≡ Ok s → FieldsAgree fs a b × (s ≡ next)
  pub apart : x ≡ Err Apart → FieldsDiffer fs a b
  pub kept : x ≡ Err Lost → ⊥

-- of an admitted type whose record lies within both
unfoldable pub Agrees : Found Datatype → (a b : List ℕ) (at : ℕ) → Agreed → Type 0
Agrees (found t r p) a b at x = Admitted t → at + type_size_of t ≤ length a → AnswersFields (move_fields at (fields_of t)) a b r x
Agrees bad a b at x = Unit {0}

-- of the members of an admitted compound, whatever its size
unfoldable pub AgreesIn : Found Members → (a b : List ℕ) (at : ℕ) → Agreed → Type 0
AgreesIn (found ms r p) a b at x = (n : ℕ) → AdmittedIn n ms → at + n ≤ length a → AnswersFields (move_fields at (member_fields ms)) a b r x
AgreesIn bad a b at x = Unit {0}

-- of n entries of an admitted base, its size apart
unfoldable pub AgreesEach : Found Datatype → (stride n : ℕ) (a b : List ℕ) (at : ℕ) → Agreed → Type 0
AgreesEach (found t r p) stride n a b at x =
    Admitted t → stride ≡ type_size_of t → 0 < n → at + n * stride ≤ length a → AnswersFields (move_fields at (field_entries stride (fields_of t) 0 n)) a b r x
AgreesEach bad stride n a b at x = Unit {0}

-- The same of what is found at a row, wherever its pool bytes begin.
pub record AgreesAt (levels : ℕ) (table pool : List ℕ) (row : ℕ) (a b : List ℕ) (at : ℕ) (x : Agreed) : Type 0 where
  pub agrees : (p : ℕ) → Agrees (type_at levels table pool row p) a b at x

pub record AgreesMembers (levels : ℕ) (table pool : List ℕ) (count row : ℕ) (a b : List ℕ) (at : ℕ) (x : Agreed) : Type 0 where
  pub agrees : (p : ℕ) → AgreesIn (members_at (type_at levels table pool) table pool count row p) a b at x

pub record AgreesEntries (levels : ℕ) (table pool : List ℕ) (row stride n : ℕ) (a b : List ℕ) (at : ℕ) (x : Agreed) : Type 0 where
  pub agrees : (p : ℕ) → AgreesEach (type_at levels table pool row p) stride n a b at x

-- of an array's row, with so many levels left below it
pub record AgreesArray (levels : ℕ) (table pool : List ℕ) (row rank : ℕ) (a b : List ℕ) (at : ℕ) (x : Agreed) : Type 0 where
  pub agrees : (p : ℕ) → Some (Array rank) ≡ entry_at table pool row p → Agrees (from_entry (type_at levels table pool) table pool row p (Some (Array rank))) a b at x

-- a field of n bytes at a place
abbrev pub field_at : (at n : ℕ) (ended : Bool) → Field
field_at at n e = record { place = at; size = n; ended = e }

-- of one field
unfoldable pub AgreesField : (n : ℕ) (ended : Bool) (a b : List ℕ) (at next : ℕ) → Agreed → Type 0
AgreesField n e a b at next x = at + n ≤ length a → AnswersFields (field_at at n e ∷ []) a b next x

-- of so many strings of n bytes, one behind the other
unfoldable pub AgreesStrings : (n count : ℕ) (a b : List ℕ) (at next : ℕ) → Agreed → Type 0
AgreesStrings n count a b at next x = at + count * n ≤ length a → AnswersFields (move_fields at (field_entries n (field_at 0 n true ∷ []) 0 count)) a b next x

-- of a string of n bytes
pub record StringSame (a b : List ℕ) (at n : ℕ) (r : Bool) : Type 0 where
  pub same : r ≡ true → FieldsAgree (field_at at n true ∷ []) a b
  pub differs : r ≡ false → FieldsDiffer (field_at at n true ∷ []) a b

-- of an enumeration's row, with so many levels left: a field, with the row behind the enumeration
pub record AgreesEnumeration (levels : ℕ) (table : List ℕ) (row n : ℕ) (a b : List ℕ) (at : ℕ) (x : Agreed) : Type 0 where
  pub next : ℕ
  pub passes : PassesType levels table row next
  pub agrees : AgreesField n false a b at next x

-- of an array of a field, by its base: strings, or one range
unfoldable pub AgreesFields : (string : Bool) → Base → (a b : List ℕ) (at next : ℕ) → Agreed → Type 0
AgreesFields true v a b at next x = AgreesStrings v.stride v.count a b at next x
AgreesFields false v a b at next x = AgreesField v.bytes false a b at next x

-- what an array's base, with so many levels left below the array, gives for its fields: at once where it is a field, or entry by entry
pub record BaseIs (table pool : List ℕ) (row rank levels : ℕ) (v : Base) : Type 0 where
  pub fields : (e : Entry) → RowSays table (row + 1) (Some e) → is_field_of e ≡ true → (a b : List ℕ) (at next : ℕ) (x : Agreed) → PassesType levels table (row + 1) next → AgreesFields (is_string_of e) v a b at next x
      → AgreesArray levels table pool row rank a b at x
  pub each : (a b : List ℕ) (at : ℕ) (x : Agreed) → AgreesEntries levels table pool (row + 1) v.stride v.count a b at x → AgreesArray levels table pool row rank a b at x

unfoldable pub BaseIn : (table pool : List ℕ) (row rank levels : ℕ) → Option Base → Type 0
BaseIn table pool row rank levels (Some v) = BaseIs table pool row rank levels v
BaseIn table pool row rank levels None = (a b : List ℕ) (at : ℕ) (x : Agreed) → AgreesArray levels table pool row rank a b at x

-- 0 for same, 1 for differs
unfoldable pub same_or_differs : Bool → List ℕ
same_or_differs true = 0 ∷ []
same_or_differs false = 1 ∷ []

-- `same`: the answer by the definition's outcome, with Document 01's number and values: 0 and 0 for same, 0 and 1 for differs, or the refusal's
abbrev pub Compares : Outcome Bool → Result Bool Refusal → Type 0
Compares o r = Answers (λ x. x) same_or_differs o r
