use Rattle.firsts.proofs.Chaining.{looked_by, looked-number, looked-seeks, looked}
use borrow.Author.Rules.{rules}
use Rattle.firsts.proofs.chains.Chains.look_up.Goals as goal

pub bucket_of-bucket-requires : goal.bucket_of-bucket-requires
bucket_of-bucket-requires c = search (looked_by, looked-number, rules)

pub find-first-requires : goal.find-first-requires
find-first-requires c = search (looked_by, looked-seeks)

pub returns : goal.returns
returns c = search looked
