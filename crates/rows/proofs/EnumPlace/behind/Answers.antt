use borrow.Author.Tests.{lt-leb, le-leb}
use Rattle.rows.specs.Entries.{behind_of}
use Rattle.rows.proofs.EnumPlace.behind.Goals as goal

pub returns-then-pool-self : goal.returns-then-pool-self
unfolding behind_of
returns-then-pool-self c = rw (lt-leb _ _ c.if-pool-self.true)

pub returns : goal.returns
unfolding behind_of
returns c = rw (le-leb _ _ c.if-pool-self.false)
