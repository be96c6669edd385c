use Rattle.groups.proofs.Building.{name-is}
use Rattle.firsts.proofs.counts.name_of.Goals as goal

pub returns : goal.returns
returns c = search name-is
