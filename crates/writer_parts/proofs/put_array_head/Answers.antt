use Rattle.writer_parts.proofs.Placing.{rank_great, behind-from, full_from}
use Rattle.writer_parts.proofs.put_array_head.Goals as goal

pub returns-then-rank-gt255 : goal.returns-then-rank-gt255
returns-then-rank-gt255 c = search rank_great

pub returns-in_err-end : goal.returns-in_err-end
returns-in_err-end c = rw c.from_residual.ensures (λ h. search (full_from, c.in_err-end.was))

pub returns : goal.returns
returns c = λ h. search (behind-from, c.in_ok-end.was)
