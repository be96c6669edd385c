-- An enumeration's names, then its values.
use Rattle.std.specs.Prelude.{Option}
use Rattle.writer_parts.specs.declared.Written.{Written}
use Rattle.std.specs.Prelude.{ℕ, List, ◌++◌}
use Rattle.format.specs.Datatype.{EnumMember, enum_values}
use Rattle.format.specs.Message.{enum_name_bytes}
use Rattle.format.specs.Table.{Found, found, bad, and_then, enum_names_at, enum_values_at}
use Rattle.writer_parts.specs.Places.{Stands}

unfoldable pub PutsEnumOf : (edition at : ℕ) → Found (List EnumMember) → Option Written → (out out' : List ℕ) → Type 0
PutsEnumOf e at (found ms r p) x out out' = Stands (enum_name_bytes e ms ++ enum_values ms) r p at x out out'
PutsEnumOf e at bad x out out' = Unit {0}

pub record PutsEnum (e at : ℕ) (table pool : List ℕ) (k r p : ℕ) (x : Option Written) (out out' : List ℕ) : Type 0 where
  pub puts : PutsEnumOf e at (and_then (enum_names_at table pool k r p) (enum_values_at pool)) x out out'
