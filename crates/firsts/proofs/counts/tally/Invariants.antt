use mathlib.Core.Path.{◌≡◌}
use lib.ListN.{length}
use Rattle.groups.specs.Groups.{firsts_to}
use Rattle.groups.specs.Chains.{names_in, Tallied}
use Rattle.firsts.proofs.counts.tally.Given as goal

abbrev pub invariant-loop-k : goal.invariant-loop-k
invariant-loop-k l = (l.d ≡ length (firsts_to (names_in l.n l.buckets l.initial.work) l.k)) × Tallied (names_in l.n l.buckets l.initial.work) l.n l.buckets l.k l.work
