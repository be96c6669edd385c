use native.Mathlib.Omega.{arith}
use Rattle.primitives.proofs.Laws.{stored}
use Rattle.primitives.proofs.put_row.Goals as goal

pub returns : goal.returns
returns c = stored _ _ _ _ _ c.copy_from_slice.ensures.after (omega arith) (omega arith)
