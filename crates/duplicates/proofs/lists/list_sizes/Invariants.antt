use mathlib.Core.Path.{◌≡◌}
use lib.ListN.{length}
use lib.Seq.{sets}
use Rattle.groups.specs.Groups.{firsts_to, sizes_to}
use Rattle.duplicates.proofs.lists.list_sizes.Given as goal

abbrev pub invariant-loop-k : goal.invariant-loop-k
invariant-loop-k l = (l.g ≡ length (firsts_to l.numbers l.k)) × (l.sizes ≡ sets l.initial.sizes 0 (sizes_to l.numbers l.k))
