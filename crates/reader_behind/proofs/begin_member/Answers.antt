use Rattle.names.specs.declared.NameError.TheVariants.{Missing, Full}
use Rattle.reader_behind.specs.Naming.{name_refusal_of}
use Rattle.std.proofs.Common.{rules}
use native.Mathlib.Omega.{arith}
use Rattle.reader_behind.proofs.Naming.{member_full, member_begins, rest-there}
use Rattle.reader_behind.proofs.begin_member.Goals as goal

pub returns-then-limits-start : goal.returns-then-limits-start
returns-then-limits-start c = search member_full

pub returns : goal.returns
unfolding name_refusal_of
returns c = member_begins _ _ _ _ _ _ _ _ _ (rest-there _ _ _ c.min.ensures) (omega arith) (omega arith) (omega arith) _ _ _ c.map_err.ensures.cases (λ f g k. elim f [ Missing ↦ search rules | Full ↦ search rules ]) c.read_name.ensures
