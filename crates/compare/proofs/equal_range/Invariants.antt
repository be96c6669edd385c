use Prim.Native.Nat.{◌+◌, ◌-◌, ◌*◌}
use mathlib.Core.Path.{◌≡◌}
use Rattle.compare.specs.Agreeing.{equal_range_of}
use Rattle.compare.proofs.equal_range.Given as goal

abbrev pub invariant-loop-i : goal.invariant-loop-i
invariant-loop-i l = equal_range_of l.a l.b (l.at + l.i * 128) (l.n - l.i * 128) ≡ equal_range_of l.a l.b l.at l.n
