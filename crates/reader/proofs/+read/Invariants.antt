use Prim.Native.Nat.{◌*◌, ◌+◌}
use Rattle.format.specs.Reading.{read_type_of}
use Rattle.reading.specs.Members.{Progress}
use Rattle.reader.proofs.+read.Given as goal

abbrev pub decreases-read_members : goal.decreases-read_members
decreases-read_members l = l.levels * 2 + 1

abbrev pub decreases-read_type : goal.decreases-read_type
decreases-read_type l = l.levels * 2

abbrev pub invariant-read_members-loop : goal.invariant-read_members-loop
invariant-read_members-loop l = Progress (read_type_of l.limits.version l.levels) l.data l.limits l.version l.header.size l.count l.fn.start l.counter l.next l.initial.table l.table l.initial.pool l.pool
