use Rattle.format.specs.Table.{type_at}
use Rattle.listing.proofs.Lines.{MembersLeft}
use Prim.Native.Nat.{◌*◌, ◌+◌, ◌-◌}
use Rattle.listing.proofs.+put.Given as goal

abbrev pub decreases-put_members : goal.decreases-put_members
decreases-put_members l = (33 - l.level) * 2 + 1

abbrev pub decreases-put_type : goal.decreases-put_type
decreases-put_type l = (33 - l.level) * 2

abbrev pub invariant-put_members-loop : goal.invariant-put_members-loop
invariant-put_members-loop l = MembersLeft (type_at (33 - l.level) l.table l.pool) l.table l.pool l.level l.count l.row l.place l.at l.initial.out (l.count - l.counter) l.r l.p l.a l.out
