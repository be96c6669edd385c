use Rattle.writer_parts.proofs.Leaves.{ColumnsLeft}
use Rattle.writer_parts.proofs.put_columns.Given as goal

abbrev pub invariant-loop-c : goal.invariant-loop-c
invariant-loop-c l = ColumnsLeft l.words l.from l.to l.at l.initial.out l.c l.a l.out
