use mathlib.Core.Path.{◌≡◌}
use lib.Dec.{eqb}
use Rattle.compare.specs.Agreeing.{equal_range_of}
use Rattle.compare.proofs.equal_block.Given as goal

abbrev pub invariant-loop-i : goal.invariant-loop-i
invariant-loop-i l = eqb l.all 0 ≡ equal_range_of l.a l.b l.at l.i
