-- Laws of a record of a block, by the count and the size that the code has.
use Prim.Native.Nat.{ℕ, ◌+◌, ◌*◌, ◌-◌, ◌<◌, ◌≤◌}
use mathlib.Core.Path.{◌≡◌, refl}
use mathlib.Core.List.{List, []}
use native.Mathlib.Nat.{div-mul-le_self}
use native.Mathlib.Omega.{arith}
use lib.ListN.{length, take, drop}
use borrow.Author.Tests.{lt-ltb, le-ltb}
use Rattle.format.specs.Slots.{record_size_of, record_count_of}
use Rattle.table.specs.Names.{further}
use Rattle.references.proofs.Laws.{record_within}
use Rattle.blocks.specs.Blocks.{record_of_lem, record_place}

module _ (block : List ℕ) (n i c : ℕ) (e : c ≡ record_count_of block n) where
  pub record_past : (q : ℕ × ℕ) → c ≤ i → ([] ≡ record_of_lem block n i) × ((q.0, 0 + q.1) ≡ further q (record_place block n i))
  unfolding record_of_lem record_place further
  record_past q h = rw (le-ltb i (record_count_of block n) (rw e at h)) (refl, refl)

  module _ (h : i < c) (s : ℕ) (g : s ≡ record_size_of n) where
    pub record_inside : i * s + s ≤ length block
    unfolding record_count_of
    record_inside = record_within i c s (length block) h (rw (e, g) (div-mul-le_self (length block) (record_size_of n)))

    pub record_found : (q : ℕ × ℕ)
        → (take (i * s + s - i * s) (drop (i * s) block) ≡ record_of_lem block n i) × ((q.0, i * s + q.1) ≡ further q (record_place block n i))
    unfolding record_of_lem record_place further
    record_found q =
        let j : i * s + s - i * s ≡ s = omega arith in
        rw (j, g, lt-ltb i (record_count_of block n) (rw e at h)) (refl, refl)
