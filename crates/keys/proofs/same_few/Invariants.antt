use Rattle.keys.proofs.Ranges.{EqualTo}
use Rattle.keys.proofs.same_few.Given as goal

abbrev pub invariant-loop-k : goal.invariant-loop-k
invariant-loop-k l = EqualTo l.a l.b l.k
