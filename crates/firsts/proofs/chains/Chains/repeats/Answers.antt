use Rattle.firsts.proofs.Chaining.{looked_by, looked-number, repeats-first, repeats-before, repeats-told}
use Rattle.firsts.proofs.chains.Chains.repeats.Goals as goal

pub returns-then-k-eq0 : goal.returns-then-k-eq0
returns-then-k-eq0 c = search repeats-first

pub same_key-requires : goal.same_key-requires
same_key-requires c = search (looked_by, looked-number, repeats-before)

pub returns : goal.returns
returns c = search repeats-told
