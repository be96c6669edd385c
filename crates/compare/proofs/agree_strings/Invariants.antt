use Rattle.compare.proofs.Ranges.{SameTo}
use Rattle.compare.proofs.agree_strings.Given as goal

abbrev pub invariant-loop : goal.invariant-loop
invariant-loop l = SameTo l.n l.count l.a l.b l.at l.counter l.start
