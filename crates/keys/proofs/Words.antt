-- Numbers of up to four bytes, and one step of the hash.
use Prim.Native.Nat.{ℕ, suc, ◌+◌, ◌*◌, ◌%◌, ◌<◌, ◌≤◌}
use mathlib.Core.Path.{◌≡◌, refl}
use mathlib.Core.List.{List, ◌∷◌}
use native.Mathlib.Omega.{arith}
use native.Mathlib.Numerals.{add-one}
use lib.ListN.{length, get_or, take, drop}
use lib.Seq.{drop-cons, take_all}
use mir.Syntax.{w8}
use mir.Val.{Fits}
use Rattle.format.specs.Bytes.{number_from, AllBytes}
use Rattle.keys.specs.Hash.{factors, reduced, step, join_hashes_of}
use Rattle.keys.specs.Runs.{Word}
use Rattle.keys.specs.declared.multipliers.Multipliers.{Multipliers}

-- bytes of a slice, and the numbers that they stand for
module _ (x : List ℕ) (bytes : (i : ℕ) → Fits w8 (get_or x i 0)) (at : ℕ) where
  part-next : (i n : ℕ) → at + i < length x → take (suc n) (drop (at + i) x) ≡ get_or x (at + i) 0 ∷ take n (drop (at + (i + 1)) x)
  part-next i n h =
      let e : suc (at + i) ≡ at + (i + 1) = omega arith in
      rw (drop-cons x (at + i) 0 h, e)

  part-first : (n : ℕ) → at < length x → take (suc n) (drop at x) ≡ get_or x at 0 ∷ take n (drop (at + 1) x)
  part-first n h = rw (drop-cons x at 0 h, add-one at)

  pub word_none : (n : ℕ) → n ≡ 0 → Word (take n (drop at x)) 0
  unfolding number_from AllBytes
  word_none n e = rw e (record { is = refl; bytes = tt })

  pub word-one : (n r : ℕ) → n ≡ 1 → at + n ≤ length x → r ≡ get_or x at 0 → Word (take n (drop at x)) r
  unfolding number_from AllBytes
  word-one n r e h q =
      let b0 : get_or x at 0 < 256 = (bytes at).fits in
      rw (e, q, part-first 0 (omega arith)) (record { is = omega arith; bytes = (b0, tt) })

  pub word_two : (n r : ℕ) → n ≡ 2 → at + n ≤ length x → r ≡ get_or x at 0 + get_or x (at + 1) 0 * 256 → Word (take n (drop at x)) r
  unfolding number_from AllBytes
  word_two n r e h q =
      let b0 : get_or x at 0 < 256 = (bytes at).fits in
      let b1 : get_or x (at + 1) 0 < 256 = (bytes (at + 1)).fits in
      rw (e, q, part-first 1 (omega arith), part-next 1 0 (omega arith)) (record { is = omega arith; bytes = (b0, (b1, tt)) })

  pub word-three : (n r : ℕ) → n ≡ 3 → at + n ≤ length x → r ≡ get_or x at 0 + get_or x (at + 1) 0 * 256 + get_or x (at + 2) 0 * 65536 → Word (take n (drop at x)) r
  unfolding number_from AllBytes
  word-three n r e h q =
      let b0 : get_or x at 0 < 256 = (bytes at).fits in
      let b1 : get_or x (at + 1) 0 < 256 = (bytes (at + 1)).fits in
      let b2 : get_or x (at + 2) 0 < 256 = (bytes (at + 2)).fits in
      rw (e, q, part-first 2 (omega arith), part-next 1 1 (omega arith), part-next 2 0 (omega arith)) (record { is = omega arith; bytes = (b0, (b1, (b2, tt))) })

  pub word_four : (r : ℕ) → at + 4 ≤ length x → r ≡ get_or x at 0 + get_or x (at + 1) 0 * 256 + get_or x (at + 2) 0 * 65536 + get_or x (at + 3) 0 * 16777216 → Word (take 4 (drop at x)) r
  unfolding number_from AllBytes
  word_four r h q =
      let b0 : get_or x at 0 < 256 = (bytes at).fits in
      let b1 : get_or x (at + 1) 0 < 256 = (bytes (at + 1)).fits in
      let b2 : get_or x (at + 2) 0 < 256 = (bytes (at + 2)).fits in
      let b3 : get_or x (at + 3) 0 < 256 = (bytes (at + 3)).fits in
      rw (q, part-first 3 (omega arith), part-next 1 2 (omega arith), part-next 2 1 (omega arith), part-next 3 0 (omega arith))
      (record { is = omega arith; bytes = (b0, (b1, (b2, (b3, tt)))) })

  -- all bytes of a part
  pub whole : (n r : ℕ) → n ≡ length x → Word (take n (drop 0 x)) r → Word x r
  whole n r e w = rw (take_all n x (omega arith)) at w

-- one step, and two hashes made one
pub step_is : (m : Multipliers) (h v w r : ℕ) → r ≡ reduced ((h + v) * m.first + w * m.second) → r ≡ step (factors m) h v w
unfolding step
step_is m h v w r q = q

pub join_is : (m : Multipliers) (h g a b : ℕ) → a ≡ reduced (g * m.second) → b ≡ reduced (a * m.second) → (h + b) % 8589934583 ≡ join_hashes_of (factors m) h g
unfolding join_hashes_of
join_is m h g a b e f = rw (f, e)
