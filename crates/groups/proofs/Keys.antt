-- The records of a block and their keys, by any fields.
use Prim.Native.Nat.{ℕ, suc, ◌+◌, ◌*◌, ◌/◌, ◌<◌, ◌≤◌}
use mathlib.Core.Path.{◌≡◌}
use mathlib.Core.List.{List, []}
use native.Mathlib.Nat.{suc-mul, mul-le-mul_right, div-mul-le_self}
use native.Mathlib.Omega.{arith}
use lib.ListN.{length}
use Rattle.format.specs.Image.{Field, image_from}
use Rattle.format.proofs.Lists.{length_part}
use Rattle.groups.specs.Groups.{key_at}
use Rattle.groups.specs.Duplicates.{record_at_of, key_of, keys_of}
use Rattle.groups.proofs.Firsts.{length-listed, get_d_listed}

module _ (fs : List Field) (block : List ℕ) (size : ℕ) where
  pub length-keys : length (keys_of fs block size) ≡ length block / size
  unfolding keys_of
  length-keys = length-listed (key_of fs block size) (length block / size)

  pub key_at_lem : (k : ℕ) → k < length (keys_of fs block size) → key_at (keys_of fs block size) k ≡ image_from fs (record_at_of block size k) 0 size
  unfolding key_at keys_of key_of
  key_at_lem k h = get_d_listed (key_of fs block size) (length block / size) k [] (omega (arith, length-keys))

-- each record that the block has room for is whole
pub record_ends : (block : List ℕ) (size k : ℕ) → k < length block / size → k * size + size ≤ length block
record_ends block size k h =
    let p : suc k * size ≤ length block / size * size = mul-le-mul_right size (omega arith) in
    omega (arith, suc-mul k size, div-mul-le_self (length block) size)

pub record_long : (block : List ℕ) (size k : ℕ) → k < length block / size → length (record_at_of block size k) ≡ size
unfolding record_at_of
record_long block size k h = length_part block (k * size) size (record_ends block size k h)
