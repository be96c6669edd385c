use Rattle.keys.proofs.Ranges.{blocks_stop, blocks_last}
use borrow.Author.Rules.{rules}
use Rattle.keys.proofs.same_bytes.Goals as goal

pub returns-then-equal_range : goal.returns-then-equal_range
returns-then-equal_range c = search (blocks_last, rules)

pub returns : goal.returns
returns c = search (blocks_stop, rules)
