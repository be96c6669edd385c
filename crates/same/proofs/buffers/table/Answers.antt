use Prim.Native.Nat.{ℕ}
use mathlib.Core.Path.{sym}
use lib.ListN.{length-replicate}
use Rattle.same.proofs.buffers.table.Goals as goal

-- By the law of a repeated byte, so that no list of that length is written out.
pub returns : goal.returns
returns c = sym (length-replicate {0} {A = ℕ} 65536 0)
