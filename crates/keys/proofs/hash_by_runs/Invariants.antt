use Rattle.keys.proofs.Walking.{RunsTo}
use Rattle.keys.specs.Hash.{factors}
use Rattle.keys.proofs.hash_by_runs.Given as goal

abbrev pub invariant-loop-pair : goal.invariant-loop-pair
invariant-loop-pair l = RunsTo (factors l.m) l.runs l.record l.h.value l.g.value l.pair-index
