use Rattle.compare.specs.Agreeing.{Equal}
use Rattle.compare.proofs.common.Given as goal

abbrev pub invariant-loop-i : goal.invariant-loop-i
invariant-loop-i l = Equal l.a l.b l.at l.n l.i
