-- The ways out of `open_header`: each law's premises are the facts that the code has there.
use native.Mathlib.Omega.{arith}
use Rattle.std.specs.Prelude.{Err, Ok}
use mathlib.Core.Path.{◌≡◌, refl}
use mathlib.Core.List.{List}
use Prim.Native.Nat.{ℕ, suc, ◌<◌, ◌≤◌}
use lib.ListN.{length, get_or, take, drop}
use Rattle.refusal.specs.declared.Refusal.{Refusal}
use Rattle.refusal.specs.declared.Refusal.TheVariants.{TooMany, Short, TooNew}
use Rattle.format.specs.declared.Header.{Header}
use Rattle.format.specs.Bits.{low_bits, high_bits}
use Rattle.format.specs.Bytes.{number_from}
use Rattle.format.specs.Reading.{refused, read_type_of}
use Rattle.reading.specs.declared.Limits.{Limits}
use Rattle.reading.specs.Contract.{run, Begun, Heads}
use Rattle.reading.proofs.Contracts.{by_done, not_done, by_refused, not-refused}
use Rattle.reading.proofs.Steps.{header_is, type-full, type-short, type-new, type-begun}

module _ {d : List ℕ} {lim : Limits} {used : ℕ} where
  begins : {h : Header} → Begun d lim used h → Heads d lim used (Ok h)
  begins w = record { begun = by_done (Begun d lim used) w; shut = not-refused _ }

  shuts : {e : Refusal} → ((n pooled : ℕ) → run (read_type_of lim.version (suc n)) d lim 0 used pooled ≡ refused e) → Heads d lim used (Err e)
  shuts w = record { begun = not_done _; shut = by_refused (λ e. (n pooled : ℕ) → run (read_type_of lim.version (suc n)) d lim 0 used pooled ≡ refused e) w }

  pub heads-full : lim.rows ≤ used → Heads d lim used (Err TooMany)
  heads-full h = shuts (λ n pooled. type-full n pooled used d lim h)

  pub heads-short : used < lim.rows → length d < 8 → Heads d lim used (Err (Short 8 (length d)))
  heads-short free h = shuts (λ n pooled. type-short n pooled used d lim free h)

  pub heads-new : {v w : ℕ} → used < lim.rows → 8 ≤ length d → (v ≡ high_bits 4 (get_or d 0 0)) × (v < 16) → w ≡ v → lim.version < w → Heads d lim used (Err (TooNew v))
  heads-new {v} free long e same m =
      let q = header_is d (low_bits 4 (get_or d 0 0)) v (get_or d 1 0) (get_or d 2 0) (number_from (take 4 (drop 4 d))) long refl e.0 refl refl refl in
      shuts (λ n pooled. type-new n pooled used d lim free _ q long (omega (arith, same, m)))

  pub heads-head : {c v w z : ℕ} → used < lim.rows → 8 ≤ length d → (c ≡ low_bits 4 (get_or d 0 0)) × (c < 16) → (v ≡ high_bits 4 (get_or d 0 0)) × (v < 16)
      → z ≡ number_from (take 4 (drop 4 d)) → w ≡ v → w ≤ lim.version → Heads d lim used (Ok (record { class = c; version = v; f0 = get_or d 1 0; f1 = get_or d 2 0; size = z }))
  heads-head {c} {v} {w} {z} free long a b e same m =
      let q = header_is d c v (get_or d 1 0) (get_or d 2 0) z long a.0 b.0 refl refl e in
      begins (record { is = λ n pooled. type-begun n pooled used d lim free _ q long (omega (arith, same, m)); long = long; free = free })
