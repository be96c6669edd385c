use Rattle.rows.proofs.Chunks.{zero-next, zero-stops}
use Rattle.std.proofs.Common.{rules}
use Rattle.rows.proofs.clear_bytes.Goals as goal

pub returns-then-not-clear_byte_block : goal.returns-then-not-clear_byte_block
returns-then-not-clear_byte_block c = zero-stops _ _ _ c.loop-block.invariant _ _ c.as_chunks.ensures.front (search rules) c.clear_byte_block.ensures c.if-not-clear_byte_block.true

pub loop-block-preserved : goal.loop-block-preserved
loop-block-preserved c = zero-next _ _ _ c.loop-block.invariant _ _ c.as_chunks.ensures.front (search rules) c.clear_byte_block.ensures c.if-not-clear_byte_block.false
