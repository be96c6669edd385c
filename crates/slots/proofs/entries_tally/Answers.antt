use Rattle.slots.proofs.Numbers.{entries-are}
use Rattle.slots.proofs.entries_tally.Goals as goal

pub returns : goal.returns
returns c = search entries-are
