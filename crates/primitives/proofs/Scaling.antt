-- A size times the dimensions of an array, at most a cap: one chunk of four bytes a turn.
use Prim.Native.Nat.{ℕ, zero, suc, ◌+◌, ◌*◌, ◌/◌, ◌<◌, ◌≤◌, min}
use mathlib.Core.Path.{◌≡◌, refl, sym, ap, ◌∙◌}
use mathlib.Core.List.{List, [], ◌∷◌}
use native.Mathlib.Omega.{arith}
use native.Mathlib.Numerals.{add-one}
use native.Mathlib.Nat.{min-eq_left, mul_assoc, mul-one}
use mir.Syntax.{w32}
use lib.ListN.{length, get_or, take, drop}
use lib.Seq.{drop-cons}
use Rattle.std.proofs.lemmas.List.{drop_all, length-take, length-drop}
use Rattle.std.specs.Int.{from_le_bytes}
use Rattle.std.specs.Simd.{first_chunks}
use Rattle.format.specs.Bytes.{number_from, dimensions_from}
use Rattle.format.specs.Datatype.{product}
use Rattle.format.proofs.Lists.{length_part}
use Rattle.format.proofs.Scaling.{capped}

-- std's number of four bytes is the definitions'
pub four : (s : List ℕ) → length s ≡ 4 → from_le_bytes w32 s ≡ number_from s
unfolding number_from
four (a ∷ b ∷ c ∷ d ∷ []) l = omega arith
four [] l = absurd (omega arith)
four (a ∷ []) l = absurd (omega arith)
four (a ∷ b ∷ []) l = absurd (omega arith)
four (a ∷ b ∷ c ∷ []) l = absurd (omega arith)
four (a ∷ b ∷ c ∷ d ∷ e ∷ s) l = absurd (omega arith)

-- the numbers of the chunks
unfoldable pub numbers_of : List (List ℕ) → List ℕ
numbers_of [] = []
numbers_of (s ∷ ss) = number_from s ∷ numbers_of ss

numbers_chunks : (k : ℕ) (s : List ℕ) → dimensions_from k s ≡ numbers_of (first_chunks 4 k s)
unfolding dimensions_from numbers_of
numbers_chunks zero s = refl
numbers_chunks (suc k) s = ap (λ (l : List ℕ). number_from (take 4 s) ∷ l) (numbers_chunks k (drop 4 s))

-- a chunk of a part that is four bytes for each
length_chunk : (n : ℕ) (s : List ℕ) (i : ℕ) → n * 4 ≤ length s → i < n → length (get_or (first_chunks 4 n s) i []) ≡ 4
length_chunk zero s i h g = absurd (omega arith)
length_chunk (suc n) s zero h g = omega (arith, length-take 4 s)
length_chunk (suc n) s (suc i) h g = length_chunk n (drop 4 s) i (omega (arith, length-drop 4 s)) (omega arith)

module _ (cap : ℕ) (chunks : List (List ℕ)) (d : List ℕ) (place rank : ℕ) (q : chunks ≡ first_chunks 4 rank (take (rank * 4) (drop place d))) (long : place + rank * 4 ≤ length d) where
  pub scale_start : (size : ℕ) → min (size * product (dimensions_from rank (take (rank * 4) (drop place d)))) cap ≡ min (size * product (numbers_of chunks)) cap
  scale_start size = rw (q, numbers_chunks rank (take (rank * 4) (drop place d)))

  number_read : (i y : ℕ) → i < rank → y ≡ from_le_bytes w32 (get_or chunks i []) → y ≡ number_from (get_or chunks i [])
  number_read i y h e = e ∙ four (get_or chunks i []) (ap (λ (l : List (List ℕ)). length (get_or l i [])) q ∙ length_chunk rank (take (rank * 4) (drop place d)) i (omega (arith, length_part d place (rank * 4) long)) h)

  -- one dimension more
  pub scale_next : (i scaled next y z : ℕ) → i < rank → i < length chunks → y ≡ from_le_bytes w32 (get_or chunks i []) → z ≡ min (scaled * product (numbers_of (drop i chunks))) cap → next ≡ min (scaled * y) cap
      → z ≡ min (next * product (numbers_of (drop (i + 1) chunks))) cap
  unfolding product numbers_of
  scale_next i scaled next y z b h e w c =
      let p = product (numbers_of (drop (i + 1) chunks)) in
      let one : drop i chunks ≡ get_or chunks i [] ∷ drop (i + 1) chunks = drop-cons chunks i [] h ∙ rw add-one in
      w
      ∙ ap (λ (l : List (List ℕ)). min (scaled * product (numbers_of l)) cap) one
      ∙ ap (λ (k : ℕ). min (scaled * (k * p)) cap) (sym (number_read i y b e))
      ∙ ap (λ (k : ℕ). min k cap) (sym (mul_assoc scaled y p))
      ∙ sym (capped (scaled * y) p cap)
      ∙ ap (λ (k : ℕ). min (k * p) cap) (sym c)

pub scale_end : (cap : ℕ) (chunks : List (List ℕ)) (i scaled z : ℕ) → length chunks ≤ i → scaled ≤ cap → z ≡ min (scaled * product (numbers_of (drop i chunks))) cap → scaled ≡ z
unfolding product numbers_of
scale_end cap chunks i scaled z h m e = sym (e ∙ rw (drop_all i chunks h, mul-one, min-eq_left m))

-- the part of an array's dimensions, cut into fours
pub chunks_of : (chunks : List (List ℕ)) (d : List ℕ) (place rank n from : ℕ) → place + rank * 4 ≤ length d → n ≡ rank * 4 → from ≡ place
    → chunks ≡ first_chunks 4 (length (take n (drop from d)) / 4) (take n (drop from d))
    → chunks ≡ first_chunks 4 rank (take (rank * 4) (drop place d))
chunks_of chunks d place rank n from h k f e =
    let m : length (take (rank * 4) (drop place d)) / 4 ≡ rank = omega (arith, length_part d place (rank * 4) h) in
    e ∙ rw (k, f, m)
