use borrow.Author.Rules.{rules}
use Rattle.keys.proofs.Walking.{hash_here, hash_next, hash_done}
use Rattle.keys.proofs.hash_by_runs.Goals as goal

pub hash_run-next-requires : goal.hash_run-next-requires
hash_run-next-requires c = hash_here _ _ _ _ _ _ c.loop-pair.invariant _ c.as_chunks.ensures.front (search rules)

pub loop-pair-preserved : goal.loop-pair-preserved
loop-pair-preserved c = hash_next _ _ _ _ _ _ c.loop-pair.invariant _ c.as_chunks.ensures.front (search rules) c.hash_run-next.ensures

pub returns : goal.returns
returns c = hash_done _ _ _ _ _ _ c.loop-pair.invariant c.join_hashes.ensures c.requires (search rules)
