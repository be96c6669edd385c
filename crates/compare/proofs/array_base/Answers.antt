use Rattle.compare.proofs.Types.{base-zero, base-found}
use Rattle.compare.proofs.array_base.Goals as goal

pub returns-then-size-eq0 : goal.returns-then-size-eq0
returns-then-size-eq0 c = search base-zero

pub returns : goal.returns
returns c = search base-found
