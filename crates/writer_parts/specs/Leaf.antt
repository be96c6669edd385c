-- The message of a leaf by its row: class, size, length of the tag, code and second code, and the columns of its numbers.
use Rattle.std.specs.Prelude.{Option}
use Rattle.writer_parts.specs.declared.Written.{Written}
use Rattle.std.specs.Prelude.{ℕ, zero, suc, ◌+◌, ◌-◌, ◌*◌, ◌%◌, ◌≡◌, Bool, true, cond, ◌&&◌, List, [], ◌∷◌, ◌++◌, get_or, take, drop, eqb, ltb}
use Rattle.format.specs.Bits.{fixed_flags_of, float_flags_of, nibbles}
use Rattle.format.specs.Bytes.{little_endian, zeros, padding_to8}
use Rattle.format.specs.Columns.{second_code_column, offset_column, precision_column, exponent_location_column, bias_column}
use Rattle.format.specs.Message.{header}
use Rattle.format.specs.Table.{word_at}
use Rattle.writer_parts.specs.Places.{Stands}

-- the codes that the flag byte can hold
unfoldable pub leaf_codes : (class code second length : ℕ) → Bool
leaf_codes c x s l =
    get_or
    ((ltb x 2 && ltb s 2)
    ∷ ltb x 3
    ∷ ltb x 256
    ∷ (ltb x 16 && ltb s 16)
    ∷ ltb x 256
    ∷ ltb l 256
    ∷ [])
    c
    (ltb x 256)

unfoldable pub leaf_flags_of : (class code second length : ℕ) → ℕ
leaf_flags_of c x s l = get_or (fixed_flags_of x s ∷ float_flags_of x ∷ x ∷ nibbles x s ∷ x ∷ l ∷ []) c x

-- the second flag byte: of class 1 the place of the sign bit
unfoldable pub leaf_bits_of : (class size : ℕ) → ℕ
leaf_bits_of c n = cond (eqb c 1) ((n * 8 - 1) % 256) 0

-- bytes of a column's number in a message: offset and precision 2, exponent and mantissa 1 each, bias 4
unfoldable pub column_width_of : (column : ℕ) → ℕ
column_width_of k = cond (ltb k exponent_location_column) 2 (cond (ltb k bias_column) 1 4)

-- n columns of a row from column k on
unfoldable pub column_bytes : (table : List ℕ) (row column n : ℕ) → List ℕ
column_bytes table r k zero = []
column_bytes table r k (suc n) = little_endian (column_width_of k) (word_at table r k) ++ column_bytes table r (suc k) n

-- a tag and its padding
abbrev pub tag_bytes : (pool : List ℕ) (place length : ℕ) → List ℕ
tag_bytes pool p l = take l (drop p pool) ++ zeros (padding_to8 l)

-- what stands behind the header
unfoldable pub leaf_rest : (table pool : List ℕ) (row place class length : ℕ) → List ℕ
leaf_rest table pool r p c l =
    get_or
    (column_bytes table r offset_column 2
    ∷ column_bytes table r offset_column 7
    ∷ column_bytes table r precision_column 1
    ∷ []
    ∷ column_bytes table r offset_column 2
    ∷ tag_bytes pool p l
    ∷ [])
    c
    []

unfoldable pub leaf_bytes : (table pool : List ℕ) (row place class size length code : ℕ) → List ℕ
leaf_bytes table pool r p c n l x = header c 1 (leaf_flags_of c x (word_at table r second_code_column) l) (leaf_bits_of c n) n ++ leaf_rest table pool r p c l

-- the leaf's bytes, where its codes can be stored
pub record PutsLeaf (table pool : List ℕ) (r p c n l x at : ℕ) (y : Option Written) (out out' : List ℕ) : Type 0 where
  pub puts : leaf_codes c x (word_at table r second_code_column) l ≡ true → Stands (leaf_bytes table pool r p c n l x) (r + 1) (p + l) at y out out'
