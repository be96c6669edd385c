use Rattle.writer_parts.proofs.Placing.{behind-from, full_from}
use Rattle.writer_parts.proofs.put_array_body.Goals as goal

pub returns-in_err-end : goal.returns-in_err-end
returns-in_err-end c = rw (c.from_residual.ensures, ← c.reserved_bytes.ensures.0) (search (full_from, c.in_err-end.was))

pub returns : goal.returns
returns c = rw (← c.reserved_bytes.ensures.0, ← c.permutation_bytes.ensures.0) (search (behind-from, c.in_ok-end.was))
