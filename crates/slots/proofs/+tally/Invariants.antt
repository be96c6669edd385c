use Rattle.std.proofs.Common.{◌+◌, ◌-◌, ◌*◌}
use Rattle.slots.proofs.Tallying.{Counts}
use Rattle.slots.proofs.+tally.Given as goal

abbrev pub decreases-tally_inner : goal.decreases-tally_inner
decreases-tally_inner l = (33 - l.path.depth) * 3

abbrev pub decreases-tally_members : goal.decreases-tally_members
decreases-tally_members l = (33 - l.path.depth) * 3 + 1

abbrev pub decreases-tally_type : goal.decreases-tally_type
decreases-tally_type l = (33 - l.path.depth) * 3 + 2

abbrev pub invariant-tally_members-loop : goal.invariant-tally_members-loop
invariant-tally_members-loop l = Counts (32 - l.path.depth) l.table l.pool l.row l.count l.r (l.count - l.counter) l.unmapped l.slots l.end
