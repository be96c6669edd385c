use Rattle.compare.proofs.Ranges.{equal_byte_more, common_stop, common_all}
use Rattle.compare.proofs.common.Goals as goal

pub returns-then-a-at : goal.returns-then-a-at
returns-then-a-at c = search common_stop

pub loop-i-preserved : goal.loop-i-preserved
loop-i-preserved c = search equal_byte_more

pub returns : goal.returns
returns c = search common_all
