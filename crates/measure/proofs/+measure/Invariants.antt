use Prim.Native.Nat.{◌+◌, ◌-◌, ◌*◌, ◌≤◌}
use mathlib.Core.Path.{◌≡◌}
use Rattle.format.specs.Table.{type_at, members_at}
use Rattle.measure.specs.Measure.{measure_in}
use Rattle.measure.proofs.Measures.{gathered}
use Rattle.measure.proofs.+measure.Given as goal

abbrev pub decreases-measure_inner : goal.decreases-measure_inner
decreases-measure_inner l = l.levels * 3 + 1

abbrev pub decreases-measure_members : goal.decreases-measure_members
decreases-measure_members l = l.levels * 3 + 2

abbrev pub decreases-measure_type : goal.decreases-measure_type
decreases-measure_type l = l.levels * 3

abbrev pub invariant-measure_members-loop : goal.invariant-measure_members-loop
invariant-measure_members-loop l = (l.sum.length ≤ 4294967296) × (measure_in l.edition l.size (members_at (type_at l.levels l.table l.pool) l.table l.pool l.count l.row l.place) ≡ gathered l.edition l.sum (members_at (type_at l.levels l.table l.pool) l.table l.pool (l.count - l.counter) l.sum.row l.sum.place))
