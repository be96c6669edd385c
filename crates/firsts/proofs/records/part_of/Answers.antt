use Rattle.firsts.proofs.Places.{part-is}
use Rattle.firsts.proofs.records.part_of.Goals as goal

pub returns : goal.returns
returns c = search part-is
