use Rattle.firsts.proofs.Chaining.{placed_tally, placed-counted}
use Rattle.firsts.proofs.chains.Chains.count_all.Goals as goal

pub tally-requires : goal.tally-requires
tally-requires c = search placed_tally

pub returns : goal.returns
returns c = search placed-counted
