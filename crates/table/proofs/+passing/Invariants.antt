use Prim.Native.Nat.{◌+◌, ◌-◌, ◌*◌}
use Rattle.table.proofs.Passing.{PassesOn}
use Rattle.table.proofs.+passing.Given as goal

abbrev pub decreases-next_member_row : goal.decreases-next_member_row
decreases-next_member_row l = l.levels * 2 + 1

abbrev pub decreases-next_row : goal.decreases-next_row
decreases-next_row l = l.levels * 2

abbrev pub invariant-next_member_row-loop : goal.invariant-next_member_row-loop
invariant-next_member_row-loop l = PassesOn l.levels l.table l.r (l.count - l.counter) l.row l.count
