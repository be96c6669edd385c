use Rattle.firsts.proofs.Chaining.{placed-next}
use borrow.Author.Rules.{rules}
use Rattle.firsts.proofs.chains.Chains.build.Goals as goal

pub loop-k-preserved : goal.loop-k-preserved
loop-k-preserved c = search (placed-next, rules)
