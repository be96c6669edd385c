use mathlib.Core.Path.{refl}
use native.Mathlib.Omega.{arith}
use Rattle.names.proofs.Storing.{all_copied}
use Rattle.names.proofs.store.Goals as goal

pub returns-then-end-pool : goal.returns-then-end-pool
returns-then-end-pool c = all_copied _ _ _ _ _ _ _ c.copy_from_slice.ensures.after (omega arith) (omega arith) (omega arith) refl
