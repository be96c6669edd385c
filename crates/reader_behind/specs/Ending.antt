-- The row of a class 9 type.
use Rattle.std.specs.Prelude.{◌≡◌, List, ℕ, ◌*◌, eqb}
use Rattle.std.proofs.lemmas.List.Edits.{sets}
use Rattle.format.specs.declared.Header.{Header}
use Rattle.format.specs.Bits.{low_bits}
use Rattle.format.specs.Datatype.{Datatype, variable_length}
use Rattle.format.specs.Table.{variable_length_row}
use Rattle.reading.specs.Contract.{variable_of}

-- it is the row of what its flags say, whatever the base
pub record StoresVariable (h : Header) (used : ℕ) (t t' : List ℕ) : Type 0 where
  pub string : ℕ
  pub padding : ℕ
  pub charset : ℕ
  pub is : (base : Datatype) → variable_of h (eqb (low_bits 4 h.f0) 1) base ≡ variable_length string padding charset base
  pub table : t' ≡ sets t (used * 16) (variable_length_row string padding charset)
