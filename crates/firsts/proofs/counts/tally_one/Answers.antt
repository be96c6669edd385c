use native.Mathlib.Omega.{arith}
use Rattle.groups.proofs.Building.{count_fits, tallied-more}
use borrow.Author.Rules.{rules}
use Rattle.firsts.proofs.counts.tally_one.Goals as goal

pub overflow_add-work-2 : goal.overflow_add-work-2
overflow_add-work-2 c = search (count_fits, arith)

pub returns : goal.returns
returns c = search (tallied-more, rules)
