use borrow.Author.Rules.{rules}
use Rattle.keys.proofs.Hashing.{range_eight, range_done}
use Rattle.keys.proofs.hash_part.Goals as goal

pub loop-eight-preserved : goal.loop-eight-preserved
loop-eight-preserved c = range_eight _ _ _ _ _ c.loop-eight.invariant c.as_chunks.ensures.front c.word.ensures c.word-in-loop-eight.ensures c.step-h.ensures (search rules)

pub returns : goal.returns
returns c = search (range_done, rules)
