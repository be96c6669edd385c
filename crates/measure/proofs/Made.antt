-- An array's dimensions, as the code reads them.
use Prim.Native.Nat.{ℕ, ◌*◌, ◌<◌}
use mathlib.Core.Path.{◌≡◌}
use mathlib.Core.Bool.{true}
use mathlib.Core.List.{List}
use lib.ListN.{get_or, take, drop}
use Rattle.format.specs.Bytes.{dimensions_from}
use Rattle.format.specs.Table.{all_below}
use Rattle.format.proofs.Bytes.{all-bytes, bytes_take, bytes_drop}
use Rattle.format.proofs.Zeros.{dimensions_below}

-- dimensions of 4 bytes each, in a slice of bytes
pub array-below : (pool : List ℕ) (p k : ℕ) → ((i : ℕ) → get_or pool i 0 < 256) → all_below 4294967296 (dimensions_from k (take (k * 4) (drop p pool))) ≡ true
array-below pool p k b = dimensions_below k (take (k * 4) (drop p pool)) (bytes_take (k * 4) (drop p pool) (bytes_drop p pool (all-bytes pool b)))
