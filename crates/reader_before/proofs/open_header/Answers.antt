use Rattle.reader_before.proofs.Heading.{heads-full, heads-short, heads-new, heads-head}
use Rattle.reader_before.proofs.open_header.Goals as goal

pub returns-then-limits-used : goal.returns-then-limits-used
returns-then-limits-used c = search heads-full

pub returns-then-data-lt8 : goal.returns-then-data-lt8
returns-then-data-lt8 c = search heads-short

pub returns-then-limits-from : goal.returns-then-limits-from
returns-then-limits-from c = search heads-new

pub returns : goal.returns
returns c = search heads-head
