use Rattle.compare.proofs.Fields.{other_class, string_code}
use Rattle.compare.proofs.nul_terminated.Goals as goal

pub returns-then-class-eq3 : goal.returns-then-class-eq3
returns-then-class-eq3 c = search string_code

pub returns-else-class-eq3 : goal.returns-else-class-eq3
returns-else-class-eq3 c = search other_class
