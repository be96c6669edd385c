use mathlib.Core.Logic.{⊎_elim}
use Rattle.compare.proofs.Fields.{leaf-is, enumeration-is, no_field}
use Rattle.compare.proofs.is_field_entry.Goals as goal

pub returns-in-Leaf : goal.returns-in-Leaf
returns-in-Leaf c = ⊎_elim (λ w. leaf-is w.4) (λ w. enumeration-is w.2) c.in-Leaf.is

pub returns-in_default : goal.returns-in_default
returns-in_default c = no_field _ c.in_default.not-Leaf c.in_default.not-Enumeration
