use Rattle.keys.proofs.Walking.{SameFrom}
use Rattle.keys.proofs.same_each.Given as goal

abbrev pub invariant-loop-run : goal.invariant-loop-run
invariant-loop-run l = SameFrom l.runs l.a l.b l.run-index
