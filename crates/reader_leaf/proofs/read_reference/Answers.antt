use Rattle.reader_leaf.proofs.Leaves.{reference_unknown, reference-go}
use Rattle.reader_leaf.proofs.read_reference.Goals as goal

pub returns-then-kind-gt1 : goal.returns-then-kind-gt1
returns-then-kind-gt1 c = search reference_unknown

pub returns : goal.returns
returns c = search reference-go
