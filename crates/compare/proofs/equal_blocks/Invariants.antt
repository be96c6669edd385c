use Prim.Native.Nat.{◌*◌}
use Rattle.compare.specs.Agreeing.{Equal}
use Rattle.compare.proofs.equal_blocks.Given as goal

abbrev pub invariant-loop-i : goal.invariant-loop-i
invariant-loop-i l = Equal l.a l.b l.at l.n (l.i * 128)
