use Rattle.compare.proofs.Ranges.{nul-here, nul-next, nul-none}
use Rattle.compare.proofs.has_nul.Goals as goal

pub returns-then-s-i-eq0 : goal.returns-then-s-i-eq0
returns-then-s-i-eq0 c = search nul-here

pub loop-i-preserved : goal.loop-i-preserved
loop-i-preserved c = search nul-next

pub returns : goal.returns
returns c = search nul-none
