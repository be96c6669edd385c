use Rattle.writer_parts.proofs.Leaves.{columns-ended, columns-full, columns-next}
use Rattle.writer_parts.proofs.put_columns.Goals as goal

pub returns-in_err-a : goal.returns-in_err-a
returns-in_err-a c = rw c.from_residual.ensures (search (columns-full, c.in_err-a.was))

pub loop-c-preserved : goal.loop-c-preserved
loop-c-preserved c = search (columns-next, c.in_ok-a.was)

pub returns : goal.returns
returns c = search columns-ended
