use Rattle.std.proofs.Common.{◌+◌, ◌-◌, ◌*◌}
use Rattle.slots.proofs.ListingInside.{Puts}
use Rattle.slots.proofs.+put.Given as goal

abbrev pub decreases-put_array : goal.decreases-put_array
decreases-put_array l = (33 - l.path.depth) * 3 + 1

abbrev pub decreases-put_inner : goal.decreases-put_inner
decreases-put_inner l = (33 - l.path.depth) * 3

abbrev pub decreases-put_members : goal.decreases-put_members
decreases-put_members l = (33 - l.path.depth) * 3 + 1

abbrev pub decreases-put_type : goal.decreases-put_type
decreases-put_type l = (33 - l.path.depth) * 3 + 2

abbrev pub invariant-put_members-loop : goal.invariant-put_members-loop
invariant-put_members-loop l = Puts (32 - l.path.depth) l.table l.pool l.row l.count l.base l.initial.out l.at l.r (l.count - l.counter) l.out l.next
