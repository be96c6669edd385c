use Rattle.compare.proofs.Ranges.{Left}
use Rattle.compare.proofs.has_nul.Given as goal

abbrev pub invariant-loop-i : goal.invariant-loop-i
invariant-loop-i l = Left l.s l.at l.n l.i
