use Rattle.writer_parts.proofs.Placing.{piece-none, piece-outside, piece-full, piece-stored}
use Rattle.writer_parts.proofs.put_piece.Goals as goal

pub returns-then-n-eq0 : goal.returns-then-n-eq0
returns-then-n-eq0 c = search piece-none

pub returns-then-saturating_sub-n : goal.returns-then-saturating_sub-n
returns-then-saturating_sub-n c = search piece-outside

pub returns-then-saturating_sub-n-2 : goal.returns-then-saturating_sub-n-2
returns-then-saturating_sub-n-2 c = search piece-full

pub returns : goal.returns
returns c = search piece-stored
