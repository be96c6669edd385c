-- "A member's name is answered as the part of the pool that holds it."
use Rattle.std.specs.Prelude.{ℕ, ◌+◌, ◌≤◌, ◌≡◌, List, [], ◌∷◌, ◌++◌, length, get_or, take, drop}
use Rattle.std.proofs.Math.Option.{Option, none, some}
use Rattle.format.specs.Bytes.{dimension_bytes}
use Rattle.format.specs.Datatype.{Datatype, leaf, compound, enumeration, variable_length, array, Members, no_members, member, EnumMember, pool_bytes}
use Rattle.format.specs.Outcome.{Outcome, gives, refuses}
use Rattle.format.specs.Table.{type_of}
use Rattle.table.specs.declared.NamePart.{NamePart}

-- a part of the pool: its place and length
pub record Part : Type 0 where
  pub place : ℕ
  pub long : ℕ

unfoldable pub enum_name_parts : (place : ℕ) → List EnumMember → List (Option Part)
enum_name_parts p [] = []
enum_name_parts p (m ∷ ms) = some (record { place = p; long = length m.name }) ∷ enum_name_parts (p + length m.name) ms

unfoldable mutual
  -- for each row of a type whose pool bytes begin at a place: where the name of a member's row lies, none for a type's row
  pub name_parts : (place : ℕ) → Datatype → List (Option Part)
  name_parts p (leaf n x) = none ∷ []
  name_parts p (compound n ms) = none ∷ member_name_parts p ms
  name_parts p (enumeration n t ms) = none ∷ (name_parts p t ++ enum_name_parts (p + length (pool_bytes t)) ms)
  name_parts p (variable_length i a c t) = none ∷ name_parts p t
  name_parts p (array ds t) = none ∷ name_parts (p + length (dimension_bytes ds)) t

  pub member_name_parts : (place : ℕ) → Members → List (Option Part)
  member_name_parts p no_members = []
  member_name_parts p (member b o t ms) =
      some (record { place = p; long = length b }) ∷ (name_parts (p + length b) t ++ member_name_parts (p + length b + length (pool_bytes t)) ms)

unfoldable pub part_of : List ℕ → Option Part → List ℕ
part_of pool none = []
part_of pool (some x) = take x.long (drop x.place pool)

unfoldable pub name_in_of : (pool : List ℕ) (row : ℕ) → Outcome Datatype → List ℕ
name_in_of pool r (gives t) = part_of pool (get_or (name_parts 0 t) r none)
name_in_of pool r (refuses e) = []

-- "for a bad table or a row that is no member's, the answer is the empty part at the pool's start"
unfoldable pub name_of : (table pool : List ℕ) (row : ℕ) → List ℕ
name_of table pool r = name_in_of pool r (type_of table pool)

-- where a name lies in the pool; 0 where there is none
unfoldable pub place_of : Option Part → ℕ
place_of none = 0
place_of (some x) = x.place

unfoldable pub place_in : (row : ℕ) → Outcome Datatype → ℕ
place_in r (gives t) = place_of (get_or (name_parts 0 t) r none)
place_in r (refuses e) = 0

unfoldable pub name_place : (table pool : List ℕ) (row : ℕ) → ℕ
name_place table pool r = place_in r (type_of table pool)

-- the place and length of the name, and that it lies there in the pool
pub record PartIs (table pool : List ℕ) (row : ℕ) (r : NamePart) : Type 0 where
  pub place_is : r.place ≡ name_place table pool row
  pub length-is : r.length ≡ length (name_of table pool row)
  pub within : r.place + r.length ≤ length pool
  pub holds : take r.length (drop r.place pool) ≡ name_of table pool row

-- a pointer, block and offset, so many bytes further
unfoldable pub further : ℕ × ℕ → ℕ → ℕ × ℕ
further p n = (p.0, n + p.1)
