use mathlib.Core.Path.{◌≡◌}
use Prim.Native.Nat.{◌*◌}
use lib.ListN.{drop}
use Rattle.format.specs.Bytes.{all_zero}
use Rattle.rows.proofs.clear_words.Given as goal

abbrev pub invariant-loop-block : goal.invariant-loop-block
invariant-loop-block l = all_zero l.words ≡ all_zero (drop (64 * l.block-index) l.words)
