use Rattle.reader_leaf.proofs.Leaves.{opaque_cut, opaque-full, opaque-ends}
use Rattle.reader_leaf.proofs.read_opaque.Goals as goal

pub returns-then-data-n : goal.returns-then-data-n
returns-then-data-n c = search opaque_cut

pub returns-then-limits-pooled : goal.returns-then-limits-pooled
returns-then-limits-pooled c = search opaque-full

pub returns : goal.returns
returns c = search opaque-ends
