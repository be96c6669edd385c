use Prim.Native.Nat.{ℕ}
use mathlib.Core.Path.{sym}
use lib.ListN.{length-replicate}
use Rattle.replay.proofs.replay.Goals as goal

-- The length of the array that is lent, by the law of a repeated element.
pub slice_bounds-named-end : goal.slice_bounds-named-end
slice_bounds-named-end g c = sym (length-replicate {0} {A = ℕ} 1048576 0)
