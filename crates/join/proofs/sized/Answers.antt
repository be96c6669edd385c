use Rattle.firsts.proofs.KeyLaws.{admits-some}
use Rattle.join.proofs.Calls.{sized-first, sized-second, both_comparable, both_answered}
use borrow.Author.Rules.{rules}
use Rattle.join.proofs.sized.Goals as goal

pub nonzero_rem-a : goal.nonzero_rem-a
nonzero_rem-a c = search (admits-some, rules)

pub returns-then-a-size-ne0 : goal.returns-then-a-size-ne0
returns-then-a-size-ne0 c = search sized-first

pub nonzero_rem-b : goal.nonzero_rem-b
nonzero_rem-b c = search (admits-some, rules)

pub returns-then-b-size-ne0 : goal.returns-then-b-size-ne0
returns-then-b-size-ne0 c = search sized-second

pub joined-requires : goal.joined-requires
joined-requires c = search both_comparable

pub returns : goal.returns
returns c = both_answered _ _ (record { a = c.args.a; b = c.args.b; size = c.args.size }) c.requires (search rules) (search rules) _ _ _ c.joined.ensures
