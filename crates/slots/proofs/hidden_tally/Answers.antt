use Rattle.slots.proofs.Numbers.{hidden_is}
use Rattle.slots.proofs.hidden_tally.Goals as goal

pub returns : goal.returns
returns c = search hidden_is
