use mathlib.Core.Path.{◌≡◌}
use lib.ListN.{length}
use Rattle.groups.specs.Groups.{numbers_of, firsts_to}
use Rattle.firsts.specs.Records.{keys_in}
use Rattle.firsts.proofs.plain.count_firsts.Given as goal

abbrev pub invariant-loop-k : goal.invariant-loop-k
invariant-loop-k l = l.d ≡ length (firsts_to (numbers_of (keys_in l.table l.pool l.records)) l.k)
