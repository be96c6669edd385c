-- Laws of numbers as bytes, of names and of padding.
use Prim.Native.Nat.{ℕ, zero, suc, ◌+◌, ◌-◌, ◌*◌, ◌/◌, ◌%◌, ◌^◌, ◌<◌, ◌≤◌}
use mathlib.Core.Path.{◌≡◌, refl, ap, sym, ◌∙◌}
use mathlib.Core.List.{List, [], ◌∷◌, ◌++◌, append_assoc}
use mathlib.Core.Option.{some}
use native.Mathlib.Omega.{arith}
use native.Mathlib.Nat.{zero-add, mod-eq_of_lt, div-eq_of_lt, add-mul-mod_self_left, add-mul-div_left, pow-suc}
use lib.ListN.{length, get_or, take, drop, length-replicate, length-append, length-take, length-drop, take-append-drop}
use lib.Seq.{take_at, drop_at, take-take}
use mir.Syntax.{w8, w32}
use mir.Val.{Fits}
use Rattle.format.specs.Bytes.{little_endian, number_from, AllBytes, zeros, padded, first_nul, one_more_of, total_width, pack_numbers, unpack_numbers, dimension_bytes, dimensions_from}
use Rattle.format.proofs.Facts.{Fit, NoNul, AllBelow}
use Rattle.format.proofs.Lists.{drop-take}

-- a number that fits its width is what its bytes stand for
pub number-back : (k n : ℕ) → n < 256 ^ k → number_from (little_endian k n) ≡ n
unfolding little_endian number_from
number-back zero n h = omega arith
number-back (suc k) n h = rw (number-back k (n / 256) (omega arith)) (omega arith)

pub length-little_endian : (k n : ℕ) → length (little_endian k n) ≡ k
unfolding little_endian
length-little_endian zero n = refl
length-little_endian (suc k) n = ap suc (length-little_endian k (n / 256))

pub bytes-little_endian : (k n : ℕ) → AllBytes (little_endian k n)
unfolding little_endian AllBytes
bytes-little_endian zero n = tt
bytes-little_endian (suc k) n = (omega arith, bytes-little_endian k (n / 256))

pub length-zeros : (n : ℕ) → length (zeros n) ≡ n
unfolding zeros
length-zeros n = length-replicate n 0

pub length-padded : (n : ℕ) (s : List ℕ) → length s ≤ n → length (padded n s) ≡ n
unfolding padded
length-padded n s h = rw (length-append, length-zeros) (omega arith)

pub bytes-zeros : (n : ℕ) → AllBytes (zeros n)
unfolding zeros AllBytes
bytes-zeros zero = tt
bytes-zeros (suc n) = (omega arith, bytes-zeros n)

-- a list whose every element is a byte
pub all-bytes : (l : List ℕ) → ((i : ℕ) → get_or l i 0 < 256) → AllBytes l
unfolding AllBytes
all-bytes [] h = tt
all-bytes (b ∷ l) h = (h 0, all-bytes l (λ i. h (suc i)))

pub bytes_append : (s t : List ℕ) → AllBytes s → AllBytes t → AllBytes (s ++ t)
unfolding AllBytes
bytes_append [] t h k = k
bytes_append (b ∷ s) t h k = (h.0, bytes_append s t h.1 k)

pub bytes_left : (s t : List ℕ) → AllBytes (s ++ t) → AllBytes s
unfolding AllBytes
bytes_left [] t h = tt
bytes_left (b ∷ s) t h = (h.0, bytes_left s t h.1)

pub bytes_right : (s t : List ℕ) → AllBytes (s ++ t) → AllBytes t
unfolding AllBytes
bytes_right [] t h = h
bytes_right (b ∷ s) t h = bytes_right s t h.1

pub bytes_take : (n : ℕ) (s : List ℕ) → AllBytes s → AllBytes (take n s)
unfolding AllBytes
bytes_take zero s h = tt
bytes_take (suc n) [] h = tt
bytes_take (suc n) (b ∷ s) h = (h.0, bytes_take n s h.1)

pub bytes_drop : (n : ℕ) (s : List ℕ) → AllBytes s → AllBytes (drop n s)
unfolding AllBytes
bytes_drop zero s h = h
bytes_drop (suc n) [] h = tt
bytes_drop (suc n) (b ∷ s) h = bytes_drop n s h.1

-- a name ends at the NUL behind it
pub nul-behind : (b s : List ℕ) → NoNul b → first_nul (b ++ (0 ∷ s)) ≡ some (length b)
unfolding first_nul one_more_of NoNul
nul-behind [] s h = refl
nul-behind (zero ∷ b) s h = absurd (omega arith)
nul-behind (suc x ∷ b) s h = rw (nul-behind b s h.1)

-- two numbers in one, the lower below m
pub lower_part : (m x y : ℕ) → x < m → (x + m * y) % m ≡ x
lower_part m x y h = add-mul-mod_self_left x m y ∙ mod-eq_of_lt h

pub upper_part : (m x y : ℕ) → x < m → (x + m * y) / m ≡ y
upper_part m x y h = add-mul-div_left x y (omega arith) ∙ rw (div-eq_of_lt h) (zero-add y)

pub length_dimensions : (ds : List ℕ) → length (dimension_bytes ds) ≡ 4 * length ds
unfolding dimension_bytes
length_dimensions [] = refl
length_dimensions (d ∷ ds) = rw (length-append, length-little_endian 4 d, length_dimensions ds) (omega arith)

pub bytes_dimensions : (ds : List ℕ) → AllBytes (dimension_bytes ds)
unfolding dimension_bytes AllBytes
bytes_dimensions [] = tt
bytes_dimensions (d ∷ ds) = bytes_append (little_endian 4 d) (dimension_bytes ds) (bytes-little_endian 4 d) (bytes_dimensions ds)

pub dimensions_back : (ds s : List ℕ) → AllBelow (2 ^ 32) ds → dimensions_from (length ds) (dimension_bytes ds ++ s) ≡ ds
unfolding dimension_bytes dimensions_from AllBelow
dimensions_back [] s h = refl
dimensions_back (d ∷ ds) s h =
    rw (
      append_assoc (little_endian 4 d),
      take_at (little_endian 4 d) (dimension_bytes ds ++ s) 4 (length-little_endian 4 d),
      drop_at (little_endian 4 d) (dimension_bytes ds ++ s) 4 (length-little_endian 4 d),
      number-back 4 d h.0,
      dimensions_back ds s h.1,
    )

pub length_packed : (ws ns : List ℕ) → Fit ws ns → length (pack_numbers ws ns) ≡ total_width ws
unfolding pack_numbers total_width Fit
length_packed [] [] h = refl
length_packed [] (n ∷ ns) h = absurd h
length_packed (w ∷ ws) [] h = absurd h
length_packed (w ∷ ws) (n ∷ ns) h = rw (length-append, length-little_endian w n, length_packed ws ns h.1)

pub packed_back : (ws ns : List ℕ) → Fit ws ns → unpack_numbers ws (pack_numbers ws ns) ≡ ns
unfolding pack_numbers unpack_numbers Fit
packed_back [] [] h = refl
packed_back [] (n ∷ ns) h = absurd h
packed_back (w ∷ ws) [] h = absurd h
packed_back (w ∷ ws) (n ∷ ns) h =
    rw (
      take_at (little_endian w n) (pack_numbers ws ns) w (length-little_endian w n),
      drop_at (little_endian w n) (pack_numbers ws ns) w (length-little_endian w n),
      number-back w n h.0,
      packed_back ws ns h.1,
    )

pub bytes_packed : (ws ns : List ℕ) → AllBytes (pack_numbers ws ns)
unfolding pack_numbers AllBytes
bytes_packed [] ns = tt
bytes_packed (w ∷ ws) [] = tt
bytes_packed (w ∷ ws) (n ∷ ns) = bytes_append (little_endian w n) (pack_numbers ws ns) (bytes-little_endian w n) (bytes_packed ws ns)

-- bytes are those of the number that they stand for
pub bytes_back : (s : List ℕ) → AllBytes s → little_endian (length s) (number_from s) ≡ s
unfolding little_endian number_from AllBytes
bytes_back [] h = refl
bytes_back (b ∷ s) h = rw (lower_part 256 b (number_from s) h.0, upper_part 256 b (number_from s) h.0, bytes_back s h.1)

pub number-below : (s : List ℕ) → AllBytes s → number_from s < 256 ^ length s
unfolding number_from AllBytes
number-below [] h = omega arith
number-below (b ∷ s) h = rw (pow-suc 256 (length s)) (below b (number_from s) (256 ^ length s) h.0 (number-below s h.1))
  where
    below : (b n m : ℕ) → b < 256 → n < m → b + 256 * n < m * 256
    below b n m h k = omega arith

four_first : (k : ℕ) (s : List ℕ) → length s ≡ 4 * suc k → length (take 4 s) ≡ 4
four_first k s e = length-take 4 s ∙ omega arith

pub dimension_bytes-back : (k : ℕ) (s : List ℕ) → length s ≡ 4 * k → AllBytes s → dimension_bytes (dimensions_from k s) ≡ s
unfolding dimension_bytes dimensions_from
dimension_bytes-back zero [] e h = refl
dimension_bytes-back zero (b ∷ s) e h = absurd (omega arith)
dimension_bytes-back (suc k) s e h =
    rw (
      ap (λ n. little_endian n (number_from (take 4 s))) (sym (four_first k s e)) ∙ bytes_back (take 4 s) (bytes_take 4 s h),
      dimension_bytes-back k (drop 4 s) (length-drop 4 s ∙ omega arith) (bytes_drop 4 s h),
    )
    (take-append-drop 4 s)

-- k dimensions want 4 * k bytes
pub dimensions_front : (k n : ℕ) (s : List ℕ) → 4 * k ≤ n → dimensions_from k (take n s) ≡ dimensions_from k s
unfolding dimensions_from
dimensions_front zero n s h = refl
dimensions_front (suc k) n s h = rw (take-take 4 n s (omega arith), drop-take 4 (n - 4) n s (omega arith), dimensions_front k (n - 4) (drop 4 s) (omega arith))

pub length-dimensions_from : (k : ℕ) (s : List ℕ) → length (dimensions_from k s) ≡ k
unfolding dimensions_from
length-dimensions_from zero s = refl
length-dimensions_from (suc k) s = ap suc (length-dimensions_from k (drop 4 s))

-- a byte or a word of a slice, by what is known of each
pub byte_below : (l : List ℕ) (i : ℕ) → ((j : ℕ) → Fits w8 (get_or l j 0)) → get_or l i 0 < 256
byte_below l i h = (h i).fits

pub word_below : (l : List ℕ) (i : ℕ) → ((j : ℕ) → Fits w32 (get_or l j 0)) → get_or l i 0 < 4294967296
word_below l i h = (h i).fits
