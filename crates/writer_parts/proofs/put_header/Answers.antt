use Rattle.writer_parts.proofs.Placing.{header-full, header-stored}
use Rattle.writer_parts.proofs.put_header.Goals as goal

pub returns-then-saturating_sub-lt8 : goal.returns-then-saturating_sub-lt8
returns-then-saturating_sub-lt8 c = search header-full

pub returns : goal.returns
returns c = search header-stored
