use Rattle.keys.proofs.Walking.{same_here, same_next, same_apart, same_all}
use borrow.Author.Rules.{rules}
use Rattle.keys.proofs.same_each.Goals as goal

pub same_run-requires : goal.same_run-requires
same_run-requires c = (same_here _ _ _ _ c.loop-run.invariant _ c.as_chunks.ensures.front (search rules), search rules)

pub loop-run-preserved : goal.loop-run-preserved
loop-run-preserved c = same_next _ _ _ _ c.loop-run.invariant _ c.as_chunks.ensures.front (search rules) c.same_run.ensures c.if-not-same_run.false

pub returns-then-not-same_run : goal.returns-then-not-same_run
returns-then-not-same_run c = same_apart _ _ _ _ c.loop-run.invariant _ c.as_chunks.ensures.front (search rules) c.same_run.ensures c.if-not-same_run.true

pub returns : goal.returns
returns c = same_all _ _ _ _ c.loop-run.invariant (search rules)
