-- What is answered of rows that are not tested again: something is said only where a type is found, wherever its pool bytes begin.
use Rattle.std.specs.Prelude.{ℕ, ◌*◌, min, ◌≡◌, List, take, drop, Some}
use Rattle.format.specs.Bytes.{dimensions_from}
use Rattle.format.specs.Datatype.{Datatype, product, type_size_of}
use Rattle.format.specs.Table.{Found, found, bad, type_at, members_at, enum_names_at}
use Rattle.rows.specs.Entries.{entry_at}
use Rattle.rows.specs.declared.Entry.TheVariants.{Array}

-- the row behind what is found
unfoldable pub PassesTo : {A : Type 0} → Found A → ℕ → Type 0
PassesTo (found a r p) x = x ≡ r
PassesTo bad x = Unit {0}

pub record PassesType (levels : ℕ) (table : List ℕ) (row x : ℕ) : Type 0 where
  pub passes : (pool : List ℕ) (p : ℕ) → PassesTo (type_at levels table pool row p) x

pub record PassesMembers (levels : ℕ) (table : List ℕ) (row count x : ℕ) : Type 0 where
  pub passes : (pool : List ℕ) (p : ℕ) → PassesTo (members_at (type_at levels table pool) table pool count row p) x

pub record PassesNames (table : List ℕ) (row count x : ℕ) : Type 0 where
  pub passes : (pool : List ℕ) (p : ℕ) → PassesTo (enum_names_at table pool count row p) x

-- a size times the dimensions of the array at a row: true up to 4,294,967,295
pub record TotalAt (table pool : List ℕ) (row rank size x : ℕ) : Type 0 where
  pub total : (p : ℕ) → Some (Array rank) ≡ entry_at table pool row p → x ≡ min (size * product (dimensions_from rank (take (rank * 4) (drop p pool)))) 4294967296

-- the size of the type that is found
unfoldable pub SizedTo : Found Datatype → ℕ → Type 0
SizedTo (found t r p) x = x ≡ type_size_of t
SizedTo bad x = Unit {0}

pub record SizedAt (levels : ℕ) (table pool : List ℕ) (row x : ℕ) : Type 0 where
  pub sized : (p : ℕ) → SizedTo (type_at levels table pool row p) x
