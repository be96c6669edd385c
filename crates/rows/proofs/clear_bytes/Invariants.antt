use mathlib.Core.Path.{◌≡◌}
use Prim.Native.Nat.{◌*◌}
use lib.ListN.{drop}
use Rattle.format.specs.Bytes.{all_zero}
use Rattle.rows.proofs.clear_bytes.Given as goal

abbrev pub invariant-loop-block : goal.invariant-loop-block
invariant-loop-block l = all_zero l.bytes ≡ all_zero (drop (256 * l.block-index) l.bytes)
