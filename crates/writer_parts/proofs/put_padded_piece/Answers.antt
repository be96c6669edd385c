use Rattle.writer_parts.proofs.Placing.{from-behind, from-full}
use Rattle.writer_parts.proofs.put_padded_piece.Goals as goal

pub returns-in_err-end : goal.returns-in_err-end
returns-in_err-end c = rw c.from_residual.ensures (search (from-full, c.in_err-end.was))

pub returns : goal.returns
returns c = search (from-behind, c.in_ok-end.was)
