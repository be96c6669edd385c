use Rattle.names.proofs.Stepping.{breaks}
use Rattle.names.proofs.break_off.Goals as goal

pub returns : goal.returns
returns c = search breaks
