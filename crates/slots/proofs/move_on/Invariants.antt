use Rattle.slots.proofs.Repeating.{Moving}
use Rattle.slots.proofs.move_on.Given as goal

abbrev pub invariant-loop-k : goal.invariant-loop-k
invariant-loop-k l = Moving l.by l.back l.from l.to l.initial.out l.k l.out
