use Rattle.firsts.proofs.Chaining.{number-inside, runs_inside, same-lengths, keys-compared}
use borrow.Author.Rules.{rules}
use Rattle.firsts.proofs.chains.Chains.same_key.Goals as goal

pub get-x-requires : goal.get-x-requires
get-x-requires c = search (number-inside, rules)

pub get-y-requires : goal.get-y-requires
get-y-requires c = search (number-inside, rules)

pub same_by_runs-requires : goal.same_by_runs-requires
same_by_runs-requires c = search (runs_inside, same-lengths)

pub returns : goal.returns
returns c = search keys-compared
