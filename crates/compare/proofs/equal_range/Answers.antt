use native.Mathlib.Omega.{arith}
use Rattle.compare.proofs.Ranges.{block-next, block-stops, blocks-rest}
use Rattle.compare.proofs.equal_range.Goals as goal

pub returns-then-not-equal_block : goal.returns-then-not-equal_block
returns-then-not-equal_block c = block-stops _ _ _ _ _ c.loop-i.invariant c.equal_block.ensures c.loop-i-test.true c.if-not-equal_block.true

pub loop-i-preserved : goal.loop-i-preserved
loop-i-preserved c = block-next _ _ _ _ _ c.loop-i.invariant c.equal_block.ensures c.loop-i-test.true c.if-not-equal_block.false

pub returns : goal.returns
returns c = blocks-rest _ _ _ _ _ c.loop-i.invariant (omega (arith, c.loop-i-test.false, c.loop-i.auto.i-end)) c.eq.ensures c.requires.0 c.requires.1
