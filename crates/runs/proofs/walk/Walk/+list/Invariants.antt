use Rattle.table.specs.Path.{top_of}
use Rattle.runs.proofs.Inside.{Leads, Going}
use Prim.Native.Nat.{◌+◌, ◌-◌, ◌*◌}
use Rattle.runs.proofs.walk.Walk.+list.Given as goal

abbrev pub decreases-list_array : goal.decreases-list_array
decreases-list_array l = (33 - l.path.depth) * 4

abbrev pub decreases-list_entries : goal.decreases-list_entries
decreases-list_entries l = (33 - l.path.depth) * 4 + 2

abbrev pub decreases-list_member : goal.decreases-list_member
decreases-list_member l = (33 - l.path.depth) * 4 - 1

abbrev pub decreases-list_members : goal.decreases-list_members
decreases-list_members l = (33 - l.path.depth) * 4

abbrev pub decreases-list_type : goal.decreases-list_type
decreases-list_type l = (33 - l.path.depth) * 4 + 1

abbrev pub invariant-list_entries-loop : goal.invariant-list_entries-loop
invariant-list_entries-loop l = Going l.self.most (33 - l.path.depth) l.self.table.now l.self.pool.now (top_of l.path) l.stride l.count l.counter l.start l.self.limit l.at l.initial.state l.initial.work l.state l.work

abbrev pub invariant-list_members-loop : goal.invariant-list_members-loop
invariant-list_members-loop l = Leads l.self.most (32 - l.path.depth) l.self.table.now l.self.pool.now l.counter l.r l.members l.row l.self.limit l.at l.initial.state l.initial.work l.state l.work
