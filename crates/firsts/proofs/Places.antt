-- Where a record of two blocks lies.
use Prim.Native.Nat.{ℕ, ◌+◌, ◌-◌, ◌*◌, ◌/◌, ◌%◌, ◌<◌, ◌≤◌}
use mathlib.Core.Path.{◌≡◌, sym, ◌∙◌}
use mathlib.Core.List.{List, ◌++◌}
use native.Mathlib.Omega.{arith}
use lib.ListN.{length, take, drop}
use Rattle.format.proofs.Lists.{length_part}
use Rattle.groups.specs.Duplicates.{record_at_of}
use Rattle.groups.proofs.Keys.{record_ends}
use Rattle.groups.proofs.Records.{record_first, record_second, records-of_both}
use Rattle.firsts.specs.Records.{IsRecord}

module _ (a b : List ℕ) (size k : ℕ) (w : 0 < size) (u : length a % size ≡ 0) (h : k < length (a ++ b) / size) where
  module _ (l : k < length a / size) where
    pub first-within : k * size + size ≤ length a
    first-within = record_ends a size k l

    pub first-is : {x : List ℕ} → x ≡ take size (drop (k * size) a) → IsRecord (a ++ b) size k x
    unfolding record_at_of
    first-is e = record { is = e ∙ sym (record_first a b size k l); long = rw e (length_part a (k * size) size first-within) }

  module _ (l : length a / size ≤ k) where
    pub second-within : (k - length a / size) * size + size ≤ length b
    second-within = record_ends b size (k - length a / size) (omega (arith, records-of_both a b size u w))

    pub second_is : {x : List ℕ} → x ≡ take size (drop ((k - length a / size) * size) b) → IsRecord (a ++ b) size k x
    unfolding record_at_of
    second_is e =
        let s : length a / size + (k - length a / size) ≡ k = omega arith in
        record {
          is = e ∙ sym (rw s at (record_second a b size u (k - length a / size)));
          long = rw e (length_part b ((k - length a / size) * size) size second-within);
        }

-- the part of a block between two places
pub part-is : (block : List ℕ) (size at : ℕ) → take (at + size - at) (drop at block) ≡ take size (drop at block)
part-is block size at = let s : at + size - at ≡ size = omega arith in rw s
