use Rattle.duplicates.proofs.Calls.{all_told}
use borrow.Author.Rules.{rules}
use Rattle.duplicates.proofs.duplicates.Goals as goal

pub returns : goal.returns
returns c = let z = c.fill.ensures.after (λ y e. e) in search (all_told, rules, z)
