use Rattle.references.proofs.Laws.{eight-at}
use Rattle.references.proofs.read_u64.Goals as goal

pub returns : goal.returns
returns c = search eight-at
