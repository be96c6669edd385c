use Rattle.reading.specs.Contract.{dimensions_of_lem}
use Rattle.reader_behind.proofs.Ending.{base_at, ends_at, variable_at}
use Rattle.reader_behind.proofs.end_based.Goals as goal

pub end_array-requires : goal.end_array-requires
unfolding dimensions_of_lem
end_array-requires c = (base_at c.in-Array.is c.requires.1, c.requires.0.array _ _ c.in-Array.is)

pub returns-in-Enumeration : goal.returns-in-Enumeration
unfolding dimensions_of_lem
returns-in-Enumeration c = ends_at c.in-Enumeration.is c.end_enumeration.ensures

pub returns-in-VariableLength : goal.returns-in-VariableLength
returns-in-VariableLength c = variable_at c.in-VariableLength.is c.requires.0 c.requires.1 c.put_variable_row.ensures

pub returns-in-Array : goal.returns-in-Array
unfolding dimensions_of_lem
returns-in-Array c = ends_at c.in-Array.is c.end_array.ensures
