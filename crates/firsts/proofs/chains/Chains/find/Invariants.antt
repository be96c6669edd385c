use Rattle.firsts.proofs.Chaining.{Walks}
use Rattle.firsts.specs.Chaining.{keys_by}
use Rattle.firsts.proofs.chains.Chains.find.Given as goal

abbrev pub invariant-loop-p : goal.invariant-loop-p
invariant-loop-p l = Walks (keys_by l.runs l.self) l.self.buckets l.k l.work l.bucket l.p

abbrev pub decreases-loop-p : goal.decreases-loop-p
decreases-loop-p l = l.p
