use Rattle.writer_parts.proofs.Enums.{EnumLeft}
use Rattle.writer_parts.proofs.put_enum_members.Given as goal

abbrev pub invariant-loop : goal.invariant-loop
invariant-loop l =
    EnumLeft l.version l.table l.pool l.count l.row l.place l.at l.initial.out l.counter l.from l.a l.out
