use Rattle.compare.proofs.Ranges.{blocks-more, blocks_end}
use Rattle.compare.proofs.equal_blocks.Goals as goal

pub loop-i-preserved : goal.loop-i-preserved
loop-i-preserved c = search blocks-more

pub returns : goal.returns
returns c = search blocks_end
