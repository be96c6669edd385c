use Rattle.writer_parts.proofs.Placing.{behind, full-behind}
use Rattle.writer_parts.proofs.put_padded_number.Goals as goal

pub returns-in_err-end : goal.returns-in_err-end
returns-in_err-end c = rw c.from_residual.ensures (search (full-behind, c.in_err-end.was))

pub returns : goal.returns
returns c = search (behind, c.in_ok-end.was)
