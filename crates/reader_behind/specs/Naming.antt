-- How a member begins.
use Rattle.std.specs.Prelude.{◌≡◌, List, ℕ, ◌+◌, ◌<◌, Result, Ok, Err}
use Rattle.refusal.specs.declared.Refusal.{Refusal}
use Rattle.refusal.specs.declared.Refusal.TheVariants.{Short, PoolFull}
use Rattle.format.specs.Reading.{refused, read_name_of}
use Rattle.names.specs.Names.{WholeName}
use Rattle.names.specs.declared.Name.{Name}
use Rattle.names.specs.declared.NameError.{NameError}
use Rattle.names.specs.declared.NameError.TheVariants.{Missing, Full}
use Rattle.reading.specs.declared.Limits.{Limits}
use Rattle.reading.specs.Contract.{run}

-- why a name at a place is not read
unfoldable pub name_refusal_of : (at available : ℕ) → NameError → Refusal
name_refusal_of at n Missing = Short (at + 1) n
name_refusal_of at n Full = PoolFull

-- a row is free and the name is stored, or the name is refused, whatever the version
pub record NameBegins (d : List ℕ) (lim : Limits) (at used pooled : ℕ) (r : Result Name Refusal) (p p' : List ℕ) : Type 0 where
  pub free : (x : Name) → r ≡ Ok x → used < lim.rows
  pub whole : (x : Name) → r ≡ Ok x → WholeName d at p p' pooled lim.pool x.length x.stored
  pub stopped : (e : Refusal) → r ≡ Err e → (v : ℕ) → run (read_name_of v) d lim at used pooled ≡ refused e
