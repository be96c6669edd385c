use Prim.Native.Nat.{◌*◌, ◌+◌}
use Rattle.format.specs.Table.{type_at}
use Rattle.writer.proofs.Compounds.{MembersLeft}
use Rattle.writer.proofs.+put.Given as goal

abbrev pub decreases-put_inner : goal.decreases-put_inner
decreases-put_inner l = l.levels * 3 + 1

abbrev pub decreases-put_members : goal.decreases-put_members
decreases-put_members l = l.levels * 3 + 2

abbrev pub decreases-put_type : goal.decreases-put_type
decreases-put_type l = l.levels * 3

abbrev pub invariant-put_members-loop : goal.invariant-put_members-loop
invariant-put_members-loop l = MembersLeft (type_at l.levels l.table l.pool) l.table l.pool l.edition l.size l.count l.row l.place l.at l.initial.out l.counter l.last l.out
