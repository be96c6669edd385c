-- How much of a lent table and pool a type uses.
use Rattle.std.specs.Prelude.{ℕ, List, [], ◌∷◌, length, Result}
use Rattle.refusal.specs.declared.Refusal.{Refusal}
use Rattle.format.specs.Datatype.{Datatype, row_count, pool_bytes}
use Rattle.format.specs.Outcome.{Outcome, gives, when_given, Answers}
use Rattle.format.specs.Table.{type_of}
use Rattle.table.specs.declared.Used.{Used}

-- so many rows and pool bytes
unfoldable pub extent_of : Datatype → Used
extent_of t = record { rows = row_count t; bytes = length (pool_bytes t) }

-- of the type that a table and pool set out
unfoldable pub extending : (table pool : List ℕ) → Outcome Used
extending table pool = when_given (type_of table pool) λ t. gives (extent_of t)

unfoldable pub extent_values : Used → List ℕ
extent_values x = x.rows ∷ x.bytes ∷ []

abbrev pub UsedAs : Outcome Used → Result Used Refusal → Type 0
UsedAs o r = Answers (λ x. x) extent_values o r
