use Rattle.firsts.proofs.Compiling.{heads-none, heads-some}
use borrow.Author.Rules.{rules}
use Rattle.firsts.proofs.list_type.Goals as goal

pub returns-then-n-lt2 : goal.returns-then-n-lt2
returns-then-n-lt2 c = search heads-none

pub returns-then-work-n : goal.returns-then-work-n
returns-then-work-n c = search heads-none

pub returns-then-runs-most : goal.returns-then-runs-most
returns-then-runs-most c = search heads-none

pub returns : goal.returns
returns c = search (heads-some, rules)
