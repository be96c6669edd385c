-- Numbers as little-endian bytes, padding, and the NUL that ends a name.
use Rattle.std.specs.Prelude.{ℕ, zero, suc, ◌+◌, ◌-◌, ◌*◌, ◌/◌, ◌%◌, ◌<◌, Bool, true, ◌&&◌, List, [], ◌∷◌, ◌++◌, length, replicate, take, drop, eqb}
use Rattle.std.proofs.Math.Option.{Option, none, some}

-- the width low bytes of a number, lowest first ("multi-byte numbers are little-endian")
unfoldable pub little_endian : (width number : ℕ) → List ℕ
little_endian zero n = []
little_endian (suc k) n = n % 256 ∷ little_endian k (n / 256)

-- the number that bytes stand for, lowest first
unfoldable pub number_from : List ℕ → ℕ
number_from [] = 0
number_from (b ∷ s) = b + 256 * number_from s

-- every byte is below 256
unfoldable pub AllBytes : List ℕ → Type 0
AllBytes [] = Unit {0}
AllBytes (b ∷ s) = (b < 256) × AllBytes s

unfoldable pub zeros : ℕ → List ℕ
zeros n = replicate n 0

-- a list and zeros behind it, n long in all
unfoldable pub padded : ℕ → List ℕ → List ℕ
padded n s = s ++ zeros (n - length s)

-- only zeros
unfoldable pub all_zero : List ℕ → Bool
all_zero [] = true
all_zero (b ∷ s) = eqb b 0 && all_zero s

-- how many bytes fill n up to a multiple of 8
unfoldable pub padding_to8 : ℕ → ℕ
padding_to8 n = (8 - n % 8) % 8

unfoldable pub one_more_of : Option ℕ → Option ℕ
one_more_of none = none
one_more_of (some n) = some (suc n)

-- the place of the first NUL
unfoldable pub first_nul : List ℕ → Option ℕ
first_nul [] = none
first_nul (zero ∷ s) = some zero
first_nul (suc b ∷ s) = one_more_of (first_nul s)

-- numbers of given widths, one behind another: how long they are, their bytes, and the numbers that bytes hold
unfoldable pub total_width : List ℕ → ℕ
total_width [] = 0
total_width (w ∷ ws) = w + total_width ws

unfoldable pub pack_numbers : (widths numbers : List ℕ) → List ℕ
pack_numbers [] ns = []
pack_numbers (w ∷ ws) [] = []
pack_numbers (w ∷ ws) (n ∷ ns) = little_endian w n ++ pack_numbers ws ns

unfoldable pub unpack_numbers : (widths bytes : List ℕ) → List ℕ
unpack_numbers [] s = []
unpack_numbers (w ∷ ws) s = number_from (take w s) ∷ unpack_numbers ws (drop w s)

-- an array's dimensions, 4 bytes each, and k of them from bytes
unfoldable pub dimension_bytes : List ℕ → List ℕ
dimension_bytes [] = []
dimension_bytes (d ∷ ds) = little_endian 4 d ++ dimension_bytes ds

unfoldable pub dimensions_from : ℕ → List ℕ → List ℕ
dimensions_from zero s = []
dimensions_from (suc k) s = number_from (take 4 s) ∷ dimensions_from k (drop 4 s)
