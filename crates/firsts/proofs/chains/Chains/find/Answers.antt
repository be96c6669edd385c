use Rattle.firsts.proofs.Chaining.{walk_begins, walk_fails, walk_inside, walk_place, walk_falls, walk_hit, walk_on}
use borrow.Author.Rules.{rules}
use Rattle.firsts.proofs.chains.Chains.find.Goals as goal

pub loop-p-init : goal.loop-p-init
loop-p-init c = search walk_begins

pub same_key-requires : goal.same_key-requires
same_key-requires c = search (walk_inside, rules)

pub returns-then-same_key : goal.returns-then-same_key
returns-then-same_key c = search walk_hit

pub bounds-work-self : goal.bounds-work-self
bounds-work-self c = search (walk_place, rules)

pub loop-p-smaller : goal.loop-p-smaller
loop-p-smaller c = search walk_falls

pub loop-p-preserved : goal.loop-p-preserved
loop-p-preserved c = search walk_on

pub returns : goal.returns
returns c = search walk_fails
