use Rattle.firsts.specs.Chaining.{words_behind, Placed}
use Rattle.firsts.proofs.chains.Chains.build.Given as goal

abbrev pub invariant-loop-k : goal.invariant-loop-k
invariant-loop-k l = Placed (words_behind l.self l.initial.work) l.self l.k l.work
