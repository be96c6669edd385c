use Rattle.firsts.proofs.Chaining.{number-inside, runs_inside, in_bucket}
use borrow.Author.Rules.{rules}
use Rattle.firsts.proofs.chains.Chains.bucket_of.Goals as goal

pub get-x-requires : goal.get-x-requires
get-x-requires c = search (number-inside, rules)

pub hash_by_runs-h-requires : goal.hash_by_runs-h-requires
hash_by_runs-h-requires c = search (runs_inside, rules)

pub returns : goal.returns
returns c = search in_bucket
