use Rattle.compare.proofs.Comparing.{records-equal, records-unknown, records-walked}
use Rattle.compare.proofs.same_records.Goals as goal

pub returns-then-equal_range : goal.returns-then-equal_range
returns-then-equal_range c = search records-equal

pub returns-in_default : goal.returns-in_default
returns-in_default c = search records-unknown

pub returns : goal.returns
returns c = let w = rw (c.outermost.ensures.1, c.outermost.ensures.0) at c.agree_type.ensures in search records-walked
