use Rattle.names.proofs.Storing.{closed_none, closed_some}
use Rattle.names.proofs.close.Goals as goal

pub returns-then-st-eq0 : goal.returns-then-st-eq0
returns-then-st-eq0 c = search closed_none

pub returns : goal.returns
returns c = search closed_some
