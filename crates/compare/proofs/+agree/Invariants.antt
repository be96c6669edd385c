use Prim.Native.Nat.{◌+◌, ◌-◌, ◌*◌}
use Rattle.table.specs.Path.{top_of}
use Rattle.compare.proofs.Inside.{Leads, Going}
use Rattle.compare.proofs.+agree.Given as goal

abbrev pub decreases-agree_array : goal.decreases-agree_array
decreases-agree_array l = (33 - l.path.depth) * 4

abbrev pub decreases-agree_entries : goal.decreases-agree_entries
decreases-agree_entries l = (33 - l.path.depth) * 4 + 2

abbrev pub decreases-agree_member : goal.decreases-agree_member
decreases-agree_member l = (33 - l.path.depth) * 4 - 1

abbrev pub decreases-agree_members : goal.decreases-agree_members
decreases-agree_members l = (33 - l.path.depth) * 4

abbrev pub decreases-agree_type : goal.decreases-agree_type
decreases-agree_type l = (33 - l.path.depth) * 4 + 1

abbrev pub invariant-agree_entries-loop : goal.invariant-agree_entries-loop
invariant-agree_entries-loop l = Going (33 - l.path.depth) l.table l.pool (top_of l.path) l.stride l.count l.counter l.start l.next l.a l.b l.at

abbrev pub invariant-agree_members-loop : goal.invariant-agree_members-loop
invariant-agree_members-loop l = Leads (32 - l.path.depth) l.table l.pool l.counter l.r l.members l.row l.a l.b l.at
