use Rattle.listing.proofs.Shapes.{class_unknown, class-leaf, class-compound, class-enumeration, class_variable, class-array}
use Rattle.listing.proofs.class_at.Goals as goal

pub returns-in_err-class : goal.returns-in_err-class
returns-in_err-class c = search (class_unknown, c.in_err-class.was)

pub returns-in-Leaf : goal.returns-in-Leaf
returns-in-Leaf c = search (class-leaf, c.in_ok-class.was)

pub returns-in-Compound : goal.returns-in-Compound
returns-in-Compound c = search (class-compound, c.in_ok-class.was)

pub returns-in-Enumeration : goal.returns-in-Enumeration
returns-in-Enumeration c = search (class-enumeration, c.in_ok-class.was)

pub returns-in-VariableLength : goal.returns-in-VariableLength
returns-in-VariableLength c = search (class_variable, c.in_ok-class.was)

pub returns-in-Array : goal.returns-in-Array
returns-in-Array c = search (class-array, c.in_ok-class.was)
