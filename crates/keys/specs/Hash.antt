-- The hash of a record by its runs: arithmetic modulo the prime 2^33 - 9 = 8589934583, reduced to below 2^35 at each step and fully at the end.
use Rattle.std.specs.Prelude.{ℕ, zero, suc, ◌+◌, ◌*◌, ◌/◌, ◌%◌, List, [], ◌∷◌, length, take, drop}
use Rattle.format.specs.Bytes.{number_from}
use Rattle.format.specs.Image.{Field, compared_of}
use Rattle.keys.specs.declared.multipliers.Multipliers.{Multipliers}

-- two multipliers, any two numbers
pub record Factors : Type 0 where
  pub first : ℕ
  pub second : ℕ

abbrev pub factors : Multipliers → Factors
factors m = record { first = m.first; second = m.second }

unfoldable pub seeded_by : (seed : ℕ) → Factors
seeded_by s = record { first = (s % 4294967296 + 2654435761) % 268435455 + 1; second = (s / 4294967296 + 2246822507) % 268435455 + 1 }

-- a number with the same remainder: 2^33 leaves 9
unfoldable pub reduced : ℕ → ℕ
reduced t = t % 8589934592 + t / 8589934592 * 9

unfoldable pub step : Factors → (h v w : ℕ) → ℕ
step m h v w = reduced ((h + v) * m.first + w * m.second)

-- n times eight bytes, as two numbers of four; where bytes are missing, as if zeros followed
unfoldable pub hash_chunks : Factors → (h n : ℕ) → List ℕ → ℕ
hash_chunks m h zero s = h
hash_chunks m h (suc n) s = hash_chunks m (step m h (number_from (take 4 s)) (number_from (take 4 (drop 4 s)))) n (drop 8 s)

unfoldable pub hash_bytes : Factors → (h : ℕ) → List ℕ → ℕ
hash_bytes m h s = hash_chunks m h ((length s + 7) / 8) s

-- Two hashes take the runs in turn, so that neither waits for the other. Both begin at 1, so that what strings leave out at their end tells.
unfoldable pub hash_runs : Factors → (h g : ℕ) → List Field → List ℕ → ℕ × ℕ
hash_runs m h g [] r = (h, g)
hash_runs m h g (f ∷ fs) r = hash_runs m g (hash_bytes m h (compared_of f r)) fs r

-- made one: the second times the square of a multiplier, a power that no step of the first has
unfoldable pub join_hashes_of : Factors → (h g : ℕ) → ℕ
join_hashes_of m h g = (h + reduced (reduced (g * m.second) * m.second)) % 8589934583

unfoldable pub hash_of : Factors → List Field → List ℕ → ℕ
hash_of m rs r = join_hashes_of m (hash_runs m 1 1 rs r).0 (hash_runs m 1 1 rs r).1
