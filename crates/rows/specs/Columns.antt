-- Tests of a row's columns, as the code makes them (proofs/Columns.antt: for each kind they are the tests of `entry_at`).
use Rattle.std.specs.Prelude.{ℕ, ◌+◌, ◌-◌, ◌*◌, ◌≤◌, ◌≡◌, Bool, ◌&&◌, List, length, take, drop, leb, ltb, eqb}
use Rattle.format.specs.Bytes.{all_zero}
use Rattle.format.specs.Table.{word_at, words_at}

-- the words of row r, which lies in the table
pub record IsRow (table : List ℕ) (r : ℕ) (words : List ℕ) : Type 0 where
  pub fits : r * 16 + 16 ≤ length table
  pub words-are : words ≡ words_at table r

-- columns a up to b of row r are zero
unfoldable pub clear_columns_of : (table : List ℕ) (r a b : ℕ) → Bool
clear_columns_of table r a b = all_zero (take (b - a) (drop (r * 16 + a) table))

-- a leaf: columns 2 to 4, 6 up to `from`, and from `to` on are zero, and the code in column 5 is below a limit
unfoldable pub leaf_columns_of : (table : List ℕ) (r from to limit : ℕ) → Bool
leaf_columns_of table r from to limit =
    clear_columns_of table r 2 5 && clear_columns_of table r 6 from && clear_columns_of table r to 16 && ltb (word_at table r 5) limit

-- a compound or an enumeration: only columns 1 and 4
unfoldable pub group_columns_of : (table : List ℕ) (r : ℕ) → Bool
group_columns_of table r = clear_columns_of table r 2 4 && clear_columns_of table r 5 16

unfoldable pub variable_length_columns_of : (table : List ℕ) (r : ℕ) → Bool
variable_length_columns_of table r =
    clear_columns_of table r 1 5 && clear_columns_of table r 8 16 && ltb (word_at table r 5) 2 && ltb (word_at table r 6) 4 && ltb (word_at table r 7) 3

-- a piece of the pool at p, its length in column 3 counted in so many bytes; the columns from `from` on are zero
unfoldable pub piece_columns_of : (table pool : List ℕ) (r p from width : ℕ) → Bool
piece_columns_of table pool r p from width =
    eqb (word_at table r 2) p && (clear_columns_of table r from 16 && leb (p + word_at table r 3 * width) (length pool))
