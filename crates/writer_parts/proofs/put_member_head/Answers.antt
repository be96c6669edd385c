use Rattle.writer_parts.proofs.Placing.{from-behind, from-full}
use Rattle.writer_parts.proofs.put_member_head.Goals as goal

pub returns-in_err-end : goal.returns-in_err-end
returns-in_err-end c = rw c.from_residual.ensures (search (from-full, c.in_err-end.was))

pub returns : goal.returns
returns c = rw (← c.offset_bytes_for_size.ensures.0, ← c.skipped_bytes.ensures.0) (search (from-behind, c.in_ok-end.was))
