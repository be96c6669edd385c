-- The small counts: sums, products and ends that stop, and what a leaf counts.
use Rattle.std.proofs.Common.{◌≡◌, ℕ, zero, suc, ◌+◌, ◌-◌, ◌*◌, ◌<◌, ◌≤◌, min, max, Bool, true, false, cond, not, ◌&&◌, ◌||◌, eqb, ltb, sym, refl, ap, ◌∙◌, mul-le-mul_right, one-mul, mul-zero, zero-mul, le-mul_of_pos_right, arith}
use native.Mathlib.Decide.{dec_le}
use Rattle.format.specs.Slots.{is_slot, last_end, moved_end_of}
use Rattle.format.proofs.Slots.{moved_end}
use Rattle.slots.specs.Slots.{most_slots, most_end, leaf_tally_of, hidden_tally_of, entries_tally_of}
use Rattle.slots.specs.declared.Tally.{Tally}

-- ---- n entries of so many slots

pub sums_stop : (c s m : ℕ) → most_slots (most_slots (c + most_slots s) + m) ≡ most_slots (c + (s + m))
sums_stop c s m = omega arith

-- ---- the greater of an end and a member's

pub moved-stops : (e o k : ℕ) → most_end (max e (moved_end_of o (most_end k))) ≡ most_end (max e (moved_end_of o k))
moved-stops e o zero = refl
moved-stops e o (suc k) = go (dec_le (suc k) 4294967296)
  where
    go : Dec (suc k ≤ 4294967296) → most_end (max e (moved_end_of o (most_end (suc k)))) ≡ most_end (max e (moved_end_of o (suc k)))
    go (yes h) = let f : most_end (suc k) ≡ suc k = omega arith in rw f
    go (no h) =
        let f : most_end (suc k) ≡ 4294967296 = omega (arith, h) in
        rw (f, moved_end o 4294967296 (omega arith), moved_end o (suc k) (omega arith)) (omega (arith, h))

stop_max : (a m : ℕ) → most_end (max (most_end a) m) ≡ most_end (max a m)
stop_max a m = omega arith

max-three : (e a m : ℕ) → max (max e a) m ≡ max e (max a m)
max-three e a m = omega arith

pub ends_stop : (e a m : ℕ) → most_end (max (most_end (max e a)) m) ≡ most_end (max e (max a m))
ends_stop e a m = stop_max (max e a) m ∙ ap most_end (max-three e a m)

module _ (most o e : ℕ) where
  pub further-none : e ≡ 0 → most_end most ≡ most_end (max most (moved_end_of o e))
  unfolding moved_end_of
  further-none z = rw z (omega arith)

  pub further-moved : (e ≡ 0 → ⊥) → most_end (max most (min (o + e) 18446744073709551615)) ≡ most_end (max most (moved_end_of o e))
  further-moved z = rw (moved_end o e (omega (arith, z))) (omega arith)

-- ---- the end of the last of n entries

pub last-zero : (stride end n : ℕ) → end ≡ 0 → 0 ≡ most_end (last_end stride end n)
unfolding last_end
last-zero stride end n h = rw h

pub last_none : (stride end n : ℕ) → n ≡ 0 → 0 ≡ most_end (last_end stride end n)
unfolding last_end
last_none stride zero n h = refl
last_none stride (suc end) n h = rw h

last_entry : (stride end n : ℕ) → 0 < end → 0 < n → last_end stride end n ≡ (n - 1) * stride + end
unfolding last_end
last_entry stride zero n h k = omega arith
last_entry stride (suc end) zero h k = omega arith
last_entry stride (suc end) (suc n) h k = ap (λ (j : ℕ). j * stride + suc end) (omega arith)

module _ (stride end n : ℕ) (e : end ≡ 0 → ⊥) (k : n ≡ 0 → ⊥) where
  last_as : last_end stride end n ≡ (n - 1) * stride + end
  last_as = last_entry stride end n (omega (arith, e)) (omega (arith, k))

  pub last-is : most_end (min (min ((n - 1) * stride) 18446744073709551615 + end) 18446744073709551615) ≡ most_end (last_end stride end n)
  last-is = rw last_as (omega arith)

-- ---- a leaf

module _ (c n x r : ℕ) where
  pub leaf-slot : (eqb c 7 && (eqb n 8 && eqb x 0)) ≡ true → record { row = r; unmapped = false; count = 1; end = 8 } ≡ leaf_tally_of c n x r
  unfolding leaf_tally_of is_slot
  leaf-slot h = go (eqb c 7) (eqb n 8 && eqb x 0) h
    where
      go : (a b : Bool) → (a && b) ≡ true → ◌≡◌ {A = Tally} (record { row = r; unmapped = false; count = 1; end = 8 }) (record { row = r; unmapped = a && not b; count = cond (a && b) 1 0; end = cond (a && b) 8 0 })
      go true true h = refl
      go true false h = cc
      go false b h = cc

  pub leaf-none : (eqb c 7 && (eqb n 8 && eqb x 0)) ≡ false → record { row = r; unmapped = eqb c 7; count = 0; end = 0 } ≡ leaf_tally_of c n x r
  unfolding leaf_tally_of is_slot
  leaf-none h = go (eqb c 7) (eqb n 8 && eqb x 0) h
    where
      go : (a b : Bool) → (a && b) ≡ false → ◌≡◌ {A = Tally} (record { row = r; unmapped = a; count = 0; end = 0 }) (record { row = r; unmapped = a && not b; count = cond (a && b) 1 0; end = cond (a && b) 8 0 })
      go true true h = cc
      go true false h = refl
      go false b h = refl

-- ---- by the base's count

pub hidden_is : (r : ℕ) (b : Tally) {u : Bool} → u ≡ (b.unmapped || ltb 0 b.count) → record { row = r; unmapped = u; count = 0; end = 0 } ≡ hidden_tally_of r b
unfolding hidden_tally_of
hidden_is r b e = rw e

pub entries-are : (stride n : ℕ) (b : Tally) {c e : ℕ} → c ≡ most_slots (n * b.count) → e ≡ most_end (last_end stride b.end n)
    → record { row = b.row; unmapped = b.unmapped; count = c; end = e } ≡ entries_tally_of stride n b
unfolding entries_tally_of
entries-are stride n b h i = rw (h, i)

-- ---- products and ends whose factors stopped before

positive_times : (n c : ℕ) → 0 < n → 0 < c → (n ≤ n * c) × (c ≤ n * c)
positive_times n c h k =
    (le-mul_of_pos_right n k, omega (arith, mul-le-mul_right c h, one-mul c))

-- n entries of so many slots, both stopped before
pub times_stop : (n c : ℕ) → most_slots (min n 4294967296 * most_slots c) ≡ most_slots (n * c)
times_stop zero c = ap (λ (k : ℕ). min k 1073741824) (zero-mul (most_slots c) ∙ sym (zero-mul c))
times_stop (suc n) zero = ap (λ (k : ℕ). min k 1073741824) (mul-zero (min (suc n) 4294967296) ∙ sym (mul-zero (suc n)))
times_stop (suc n) (suc c) = go (dec_le (suc n) 4294967296) (dec_le (suc c) 1073741824)
  where
    more : (suc n ≤ suc n * suc c) × (suc c ≤ suc n * suc c)
    more = positive_times (suc n) (suc c) (omega arith) (omega arith)

    less : (min (suc n) 4294967296 ≤ min (suc n) 4294967296 * most_slots (suc c)) × (most_slots (suc c) ≤ min (suc n) 4294967296 * most_slots (suc c))
    less = positive_times (min (suc n) 4294967296) (most_slots (suc c)) (omega arith) (omega arith)

    go : Dec (suc n ≤ 4294967296) → Dec (suc c ≤ 1073741824) → most_slots (min (suc n) 4294967296 * most_slots (suc c)) ≡ most_slots (suc n * suc c)
    go (yes h) (yes k) =
        let e : min (suc n) 4294967296 ≡ suc n = omega arith in
        let f : most_slots (suc c) ≡ suc c = omega arith in
        rw (e, f)
    go (yes h) (no k) = omega (arith, k, more, less)
    go (no h) k = omega (arith, h, more, less)

-- the last of n entries, the end and the number stopped before; a stride is not 0
pub last-stops : (stride end n : ℕ) → 0 < stride → most_end (last_end stride (most_end end) (min n 4294967296)) ≡ most_end (last_end stride end n)
unfolding last_end
last-stops stride zero n h = refl
last-stops stride (suc end) zero h = last_none stride (most_end (suc end))
  where
    last_none : (stride end : ℕ) → most_end (last_end stride end 0) ≡ 0
    last_none stride zero = refl
    last_none stride (suc end) = refl
last-stops stride (suc end) (suc n) h = go (dec_le (suc n) 4294967296)
  where
    left : last_end stride (most_end (suc end)) (min (suc n) 4294967296) ≡ (min (suc n) 4294967296 - 1) * stride + most_end (suc end)
    left = last_entry stride (most_end (suc end)) (min (suc n) 4294967296) (omega arith) (omega arith)

    go : Dec (suc n ≤ 4294967296) → most_end (last_end stride (most_end (suc end)) (min (suc n) 4294967296)) ≡ most_end (n * stride + suc end)
    go (yes k) =
        let e : min (suc n) 4294967296 - 1 ≡ n = omega arith in
        let f = left ∙ ap (λ (j : ℕ). j * stride + most_end (suc end)) e in
        rw f (omega arith)
    go (no k) =
        let a = le-mul_of_pos_right (min (suc n) 4294967296 - 1) h in
        let b = le-mul_of_pos_right n h in
        rw left (omega (arith, a, b, k))
