use Rattle.keys.proofs.Ranges.{eights_begun, eights_more, eights_stop, eights_last}
use borrow.Author.Rules.{rules}
use Rattle.keys.proofs.same_few.Goals as goal

pub loop-k-init : goal.loop-k-init
loop-k-init c = search eights_begun

pub loop-k-preserved : goal.loop-k-preserved
loop-k-preserved c = search (eights_more, rules)

pub returns-then-not-same_eight : goal.returns-then-not-same_eight
returns-then-not-same_eight c = search (eights_stop, rules)

pub returns : goal.returns
returns c = search (eights_last, rules)
