use Prim.Native.Nat.{◌*◌, ◌≤◌, min}
use mathlib.Core.Path.{◌≡◌}
use lib.ListN.{take, drop}
use Rattle.format.specs.Bytes.{dimensions_from}
use Rattle.format.specs.Datatype.{product}
use Rattle.primitives.proofs.Scaling.{numbers_of}
use Rattle.primitives.proofs.scaled.Given as goal

abbrev pub invariant-loop-dimension : goal.invariant-loop-dimension
invariant-loop-dimension l =
    (l.total ≤ 4294967296)
    × (min (l.size * product (dimensions_from l.rank (take (l.rank * 4) (drop l.place l.pool)))) 4294967296 ≡ min (l.total * product (numbers_of (drop l.dimension-index l.dimensions))) 4294967296)
