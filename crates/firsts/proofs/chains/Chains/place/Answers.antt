use Rattle.firsts.proofs.Chaining.{placed_repeat}
use Rattle.firsts.proofs.chains.Chains.place.Goals as goal

pub returns-then-repeats : goal.returns-then-repeats
returns-then-repeats c = search placed_repeat
