use Prim.Native.Nat.{◌-◌, ◌≤◌}
use lib.ListN.{length}
use mathlib.Core.Path.{◌≡◌}
use Rattle.format.specs.Table.{enum_names_at}
use Rattle.table.specs.Survey.{enum_spot_of}
use Rattle.table.proofs.Skipping.{values_end_of}
use Rattle.table.proofs.skip_enum_members.Given as goal

abbrev pub invariant-loop : goal.invariant-loop
invariant-loop l =
    (l.at.values ≤ length l.pool) × (enum_spot_of l.table l.pool l.count l.row l.place ≡ values_end_of l.pool l.at.values (enum_names_at l.table l.pool (l.count - l.counter) l.at.row l.at.place))
