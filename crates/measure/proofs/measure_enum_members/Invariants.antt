use Prim.Native.Nat.{◌-◌, ◌≤◌}
use lib.ListN.{length}
use mathlib.Core.Path.{◌≡◌}
use Rattle.format.specs.Table.{enum_names_at}
use Rattle.measure.specs.Measure.{enum_measure_of}
use Rattle.measure.proofs.Listed.{listed}
use Rattle.measure.proofs.measure_enum_members.Given as goal

abbrev pub invariant-loop : goal.invariant-loop
invariant-loop l = (l.at.values ≤ length l.pool) × (enum_measure_of l.edition l.width l.table l.pool l.count l.row l.place ≡ listed l.pool l.edition l.width l.names.storable l.names.length l.at.values (enum_names_at l.table l.pool (l.count - l.counter) l.at.row l.at.place))
