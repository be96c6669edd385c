use Rattle.rows.proofs.Decode.{array_behind}
use Rattle.listing.proofs.Shapes.{inside_unknown, inside-leaf, inside-compound, inside-enumeration, inside_variable, inside-array}
use borrow.Author.Rules.{rules}
use Rattle.listing.proofs.inside_at.Goals as goal

pub overflow_add-result : goal.overflow_add-result
overflow_add-result c = search (array_behind, rules)

pub returns-in_default : goal.returns-in_default
returns-in_default c = search inside_unknown

pub returns-in-Leaf : goal.returns-in-Leaf
returns-in-Leaf c = search inside-leaf

pub returns-in-Compound : goal.returns-in-Compound
returns-in-Compound c = search inside-compound

pub returns-in-Enumeration : goal.returns-in-Enumeration
returns-in-Enumeration c = search inside-enumeration

pub returns-in-VariableLength : goal.returns-in-VariableLength
returns-in-VariableLength c = search inside_variable

pub returns-in-Array : goal.returns-in-Array
returns-in-Array c = search inside-array
