-- What the walk over a table answers, as a function of the type that is found there; and the answers of the public calls.
use Rattle.std.specs.Prelude.{ℕ, ◌+◌, ◌*◌, min, ◌≡◌, Bool, true, false, ◌&&◌, ◌||◌, List, [], ◌∷◌, drop, eqb, leb, ltb, Option, Some, None, Result}
use Rattle.std.specs.Bool.{then_some}
use Rattle.std.specs.Option.{option_or}
use Rattle.std.proofs.Math.Option as maybe
use Rattle.refusal.specs.declared.Refusal.{Refusal}
use Rattle.refusal.specs.declared.Refusal.TheVariants.{BadTable}
use Rattle.format.specs.Bytes.{all_zero}
use Rattle.format.specs.Datatype.{Datatype, Members, EnumMember, type_size_of}
use Rattle.format.specs.Outcome.{Outcome, gives, refuses, Answers}
use Rattle.format.specs.Ownership.{outside, member_outside, heap_held, member_heap_held}
use Rattle.format.specs.Sizes.{holds_object_address, member_holds_object_address, holds_file_address, member_holds_file_address}
use Rattle.format.specs.Slots.{first_zero, member_first_zero, or_else, zero_class}
use Rattle.format.specs.Table.{Found, found, bad, and_then, type_at, type_of, max_rows, max_pool, enum_names_at, enum_values_at}
use Rattle.table.specs.declared.Survey.{Survey}
use Rattle.table.specs.declared.Spot.{Spot}

-- the definitions' option as the program's
unfoldable pub as_option : {A : Type 0} → maybe.Option A → Option A
as_option maybe.none = None
as_option (maybe.some x) = Some x

unfoldable pub survey_of : Found Datatype → Option Survey
survey_of (found t r p) =
    Some (record { row = r; place = p; size = type_size_of t; zero = as_option (first_zero t); outside = outside t; heap = heap_held t; object = holds_object_address t; file = holds_file_address t })
survey_of bad = None

-- of a leaf's row
unfoldable pub leaf_survey_of : (row place class size length code : ℕ) → Survey
leaf_survey_of r p k n l x =
    record { row = r + 1; place = p + l; size = n; zero = then_some (eqb n 0) k; outside = false; heap = eqb k 7 && eqb x 1; object = eqb k 7; file = eqb k 7 }

-- of an enumeration that ends at a spot, a variable-length type and an array of so many bytes, by the base's
unfoldable pub enumeration_survey_of : (size : ℕ) → Survey → Spot → Survey
enumeration_survey_of n s end =
    record { row = end.row; place = end.place; size = n; zero = option_or (then_some (eqb n 0) 8) s.zero; outside = s.outside; heap = s.heap; object = s.object; file = s.file }

unfoldable pub variable_survey_of : Survey → Survey
variable_survey_of s = record { row = s.row; place = s.place; size = 16; zero = s.zero; outside = s.outside; heap = true; object = s.object; file = true }

unfoldable pub array_survey_of : (total : ℕ) → Survey → Survey
array_survey_of total s =
    record { row = s.row; place = s.place; size = min total 4294967295; zero = option_or (then_some (eqb (min total 4294967295) 0) 10) s.zero; outside = ltb 4294967295 total || s.outside; heap = s.heap; object = s.object; file = s.file }

-- of the members of a compound of size n, with the compound's own size noted
unfoldable pub survey_in : (size : ℕ) → Found Members → Option Survey
survey_in n (found ms r p) =
    Some (record { row = r; place = p; size = n; zero = as_option (or_else (zero_class 6 n) (member_first_zero ms)); outside = member_outside n ms; heap = member_heap_held ms; object = member_holds_object_address ms; file = member_holds_file_address ms })
survey_in n bad = None

-- where an enumeration's names and values end
unfoldable pub spot_of : Found (List EnumMember) → Option Spot
spot_of (found ms r p) = Some (record { row = r; place = p })
spot_of bad = None

unfoldable pub enum_spot_of : (table pool : List ℕ) (count row place : ℕ) → Option Spot
enum_spot_of table pool k r p = spot_of (and_then (enum_names_at table pool k r p) (enum_values_at pool))

-- a type of r rows and p pool bytes keeps the limits, and all behind it is zero: the test of `whole_type`
unfoldable pub ends_at : (table pool : List ℕ) (r p : ℕ) → Bool
ends_at table pool r p = leb r max_rows && (leb p max_pool && (all_zero (drop (r * 16) table) && all_zero (drop p pool)))

-- the check: the type that the table and pool set out, and what a walk over it finds
pub record Sets (table pool : List ℕ) (s : Survey) : Type 0 where
  pub type : Datatype
  pub is : type_of table pool ≡ gives type
  pub stands : type_at 32 table pool 0 0 ≡ found type s.row s.place
  pub says : survey_of (found type s.row s.place) ≡ Some s

pub record Checks (table pool : List ℕ) (r : Option Survey) : Type 0 where
  pub good : (s : Survey) → r ≡ Some s → Sets table pool s
  pub bad-table : r ≡ None → type_of table pool ≡ refuses BadTable

-- the values of a size, and of a predicate: 1 for yes, 0 for no
unfoldable pub size_values : ℕ → List ℕ
size_values n = n ∷ []

unfoldable pub yes_or_no : Bool → ℕ
yes_or_no true = 1
yes_or_no false = 0

unfoldable pub held_values : Bool → List ℕ
held_values b = yes_or_no b ∷ []

-- an answer by the definition's outcome
abbrev pub SizedAs : Outcome ℕ → Result ℕ Refusal → Type 0
SizedAs o r = Answers (λ n. n) size_values o r

abbrev pub HeldAs : Outcome Bool → Result Bool Refusal → Type 0
HeldAs o r = Answers (λ b. b) held_values o r
