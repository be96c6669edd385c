use Prim.Native.Nat.{◌+◌, ◌-◌, ◌≤◌}
use mathlib.Core.Path.{◌≡◌}
use lib.ListN.{length}
use lib.Seq.{sets}
use Rattle.format.specs.Bytes.{little_endian}
use Rattle.primitives.proofs.write_uint.Given as goal

abbrev pub invariant-loop-i : goal.invariant-loop-i
invariant-loop-i l = (l.i ≤ l.width) × ((length l.out ≡ length l.initial.out) × (sets l.out (l.offset + l.i) (little_endian (l.width - l.i) l.rest) ≡ sets l.initial.out l.offset (little_endian l.width l.value)))
