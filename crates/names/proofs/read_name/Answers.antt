use Rattle.names.proofs.Passing.{begun, passed-plain, passed-step, ends-full, ends-whole, ends-missing}
use Rattle.names.proofs.read_name.Goals as goal

pub loop-i-init : goal.loop-i-init
loop-i-init c = search begun

pub returns-then-pool-end : goal.returns-then-pool-end
returns-then-pool-end c = search ends-full

pub returns-then-b-eq0 : goal.returns-then-b-eq0
returns-then-b-eq0 c = search ends-whole

pub loop-i-preserved-then-st-eq0 : goal.loop-i-preserved-then-st-eq0
loop-i-preserved-then-st-eq0 c = search passed-plain

pub loop-i-preserved : goal.loop-i-preserved
loop-i-preserved c = search passed-step

pub returns : goal.returns
returns c = search ends-missing
