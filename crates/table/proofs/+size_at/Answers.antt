use Rattle.table.proofs.Passing.{sized-none, sized_unknown, sized-leaf, sized-compound, sized-enumeration, sized-variable_length, sized-array}
use Rattle.table.proofs.+size_at.Goals as goal

pub returns-then-levels-eq0 : goal.returns-then-levels-eq0
returns-then-levels-eq0 t c = search sized-none

pub returns-in_default : goal.returns-in_default
returns-in_default t c = search sized_unknown

pub returns-in-Leaf : goal.returns-in-Leaf
returns-in-Leaf t c = search sized-leaf

pub returns-in-Compound : goal.returns-in-Compound
returns-in-Compound t c = search sized-compound

pub returns-in-Enumeration : goal.returns-in-Enumeration
returns-in-Enumeration t c = search sized-enumeration

pub returns-in-VariableLength : goal.returns-in-VariableLength
returns-in-VariableLength t c = search sized-variable_length

pub returns-in-Array : goal.returns-in-Array
returns-in-Array t c = search sized-array
