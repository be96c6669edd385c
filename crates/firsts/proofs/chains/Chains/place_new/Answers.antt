use Rattle.firsts.proofs.Chaining.{placed_first, placed-later}
use Rattle.firsts.proofs.chains.Chains.place_new.Goals as goal

pub returns-in-None : goal.returns-in-None
returns-in-None c = search placed_first

pub returns-in-Some : goal.returns-in-Some
returns-in-Some c = search placed-later
