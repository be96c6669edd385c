use Prim.Native.Nat.{◌+◌, ◌-◌, ◌^◌, ◌<◌}
use mathlib.Core.Path.{◌≡◌}
use lib.ListN.{take, drop}
use Rattle.format.specs.Bytes.{number_from}
use Rattle.primitives.proofs.read_uint.Given as goal

abbrev pub invariant-loop-i : goal.invariant-loop-i
invariant-loop-i l = (l.value < 256 ^ (l.width - l.i)) × (l.value ≡ number_from (take (l.width - l.i) (drop (l.offset + l.i) l.data)))
