use mathlib.Core.Path.{◌≡◌}
use lib.ListN.{length}
use lib.Seq.{sets}
use Rattle.join.specs.Copying.{copied}
use Rattle.join.proofs.put_records.Given as goal

abbrev pub invariant-loop-k : goal.invariant-loop-k
invariant-loop-k l = (l.to ≡ length (copied l.found l.k)) × (l.out ≡ sets l.initial.out 0 (copied l.found l.k))
