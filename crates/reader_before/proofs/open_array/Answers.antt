use Rattle.format.proofs.Bytes.{byte_below}
use Rattle.reader_before.proofs.Opening.{array_no_rank, array_cut, array-full, array-based, array-below, array_above}
use Rattle.reader_before.proofs.open_array.Goals as goal

pub returns-then-data-start : goal.returns-then-data-start
returns-then-data-start c = search array_no_rank

pub returns-then-data-from : goal.returns-then-data-from
returns-then-data-from c = search array_cut

pub returns-then-limits-pooled : goal.returns-then-limits-pooled
returns-then-limits-pooled c = search array-full

pub returns-else-limits-pooled : goal.returns-else-limits-pooled
returns-else-limits-pooled c = search (array-based, byte_below)

pub returns-in_default : goal.returns-in_default
returns-in_default c = search array-below

pub returns-in_default-2 : goal.returns-in_default-2
returns-in_default-2 c = search array_above
