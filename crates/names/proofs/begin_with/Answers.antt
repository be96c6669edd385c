use Rattle.names.proofs.Stepping.{begins_single, begins_ill, begins-more}
use Rattle.names.proofs.begin_with.Goals as goal

pub returns-in-Single : goal.returns-in-Single
returns-in-Single c = search begins_single

pub returns-in-Ill : goal.returns-in-Ill
returns-in-Ill c = search begins_ill

pub returns-in-More : goal.returns-in-More
returns-in-More c = search begins-more
