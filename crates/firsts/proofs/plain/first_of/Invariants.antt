use Prim.Native.Nat.{◌≤◌}
use Rattle.groups.specs.Groups.{first_of}
use Rattle.firsts.specs.Records.{keys_in}
use Rattle.firsts.proofs.plain.first_of.Given as goal

abbrev pub invariant-loop-j : goal.invariant-loop-j
invariant-loop-j l = l.j ≤ first_of (keys_in l.table l.pool l.records) l.k
