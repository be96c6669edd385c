use Rattle.names.proofs.Passing.{Passing}
use Rattle.names.proofs.read_name.Given as goal

abbrev pub invariant-loop-i : goal.invariant-loop-i
invariant-loop-i l = Passing l.msg l.initial.pool l.pool l.i l.pos l.st
