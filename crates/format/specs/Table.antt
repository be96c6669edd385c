-- The table: 16 words a row, in reading order; the type that a lent table and pool set out, or BadTable.
use Rattle.std.specs.Prelude.{ℕ, zero, suc, ◌+◌, ◌*◌, ◌≤◌, ◌≡◌, Bool, true, false, cond, ◌&&◌, List, [], ◌∷◌, ◌++◌, length, take, drop, get_or, leb, ltb, eqb}
use Rattle.refusal.specs.declared.Refusal.TheVariants.{BadTable}
use Rattle.format.specs.Bytes.{padded, all_zero, dimension_bytes, dimensions_from}
use Rattle.format.specs.Columns.{kind_column, size_column, member_offset_column, place_column, length_column, count_column, value_length_column, order_column, padding_column, reference_column, is_string_column, signed_column, charset_column, variable_padding_column, offset_column, variable_charset_column, precision_column, exponent_location_column, exponent_size_column, mantissa_location_column, mantissa_size_column, bias_column}
use Rattle.format.specs.Datatype.{Leaf, leaf_class, fixed_point, floating_point, time, string, bit_field, opaque, reference, Datatype, leaf, compound, enumeration, variable_length, array, Members, no_members, member, EnumMember, member_count_of, depth, row_count, pool_bytes}
use Rattle.format.specs.Outcome.{Outcome, gives, refuses}

-- the value of a column, if those of some columns are given; the others are 0
abbrev pub value_in : List (ℕ × ℕ) → (column : ℕ) → ℕ
value_in [] c = 0
value_in (x ∷ xs) c = cond (eqb x.0 c) x.1 (value_in xs c)

-- of n columns from column c on
abbrev pub words_from_of : List (ℕ × ℕ) → (c n : ℕ) → List ℕ
words_from_of xs c zero = []
words_from_of xs c (suc n) = value_in xs c ∷ words_from_of xs (suc c) n

-- the 16 words of a row of a kind, by the columns that it uses: "zeros .. in whatever a row of its class doesn't use"
unfoldable pub row : (kind : ℕ) (columns : List (ℕ × ℕ)) → List ℕ
row k xs = words_from_of ((kind_column, k) ∷ xs) 0 16

-- the columns that a leaf uses beside its size; its tag begins at a place of the pool
unfoldable pub columns_of : (place : ℕ) → Leaf → List (ℕ × ℕ)
columns_of p (fixed_point order signed offset precision) =
    (order_column, order) ∷ (signed_column, signed) ∷ (offset_column, offset) ∷ (precision_column, precision) ∷ []
columns_of p (floating_point order layout) =
    (order_column, order)
    ∷ (offset_column, layout.offset)
    ∷ (precision_column, layout.precision)
    ∷ (exponent_location_column, layout.exponent_location_of)
    ∷ (exponent_size_column, layout.exponent_size_of)
    ∷ (mantissa_location_column, layout.mantissa_location_of)
    ∷ (mantissa_size_column, layout.mantissa_size_of)
    ∷ (bias_column, layout.bias)
    ∷ []
columns_of p (time order precision) = (order_column, order) ∷ (precision_column, precision) ∷ []
columns_of p (string padding charset) = (padding_column, padding) ∷ (charset_column, charset) ∷ []
columns_of p (bit_field order offset precision) = (order_column, order) ∷ (offset_column, offset) ∷ (precision_column, precision) ∷ []
columns_of p (opaque tag) = (place_column, p) ∷ (length_column, length tag) ∷ []
columns_of p (reference kind) = (reference_column, kind) ∷ []

-- the row of each kind: class + 1 for a type, 12 and 13 for the members of a compound and of an enumeration
unfoldable pub leaf_row : (place size : ℕ) → Leaf → List ℕ
leaf_row p n x = row (suc (leaf_class x)) ((size_column, n) ∷ columns_of p x)

unfoldable pub compound_row : (size count : ℕ) → List ℕ
compound_row n k = row 7 ((size_column, n) ∷ (count_column, k) ∷ [])

unfoldable pub enumeration_row : (size count : ℕ) → List ℕ
enumeration_row n k = row 9 ((size_column, n) ∷ (count_column, k) ∷ [])

unfoldable pub variable_length_row : (is_string_of padding charset : ℕ) → List ℕ
variable_length_row i a c = row 10 ((is_string_column, i) ∷ (variable_padding_column, a) ∷ (variable_charset_column, c) ∷ [])

unfoldable pub array_row : (place rank : ℕ) → List ℕ
array_row p k = row 11 ((place_column, p) ∷ (length_column, k) ∷ [])

unfoldable pub member_row : (place offset name_length_of : ℕ) → List ℕ
member_row p o n = row 12 ((member_offset_column, o) ∷ (place_column, p) ∷ (length_column, n) ∷ [])

unfoldable pub enum_member_row : (place name_length_of valueLength : ℕ) → List ℕ
enum_member_row p n v = row 13 ((place_column, p) ∷ (length_column, n) ∷ (value_length_column, v) ∷ [])

unfoldable pub enum_rows : (place : ℕ) → List EnumMember → List ℕ
enum_rows p [] = []
enum_rows p (m ∷ ms) = enum_member_row p (length m.name) (length m.value) ++ enum_rows (p + length m.name) ms

unfoldable mutual
  -- a type's words; its pool bytes begin at a place
  pub rows : (place : ℕ) → Datatype → List ℕ
  rows p (leaf n x) = leaf_row p n x
  rows p (compound n ms) = compound_row n (member_count_of ms) ++ member_rows p ms
  rows p (enumeration n t ms) = enumeration_row n (length ms) ++ (rows p t ++ enum_rows (p + length (pool_bytes t)) ms)
  rows p (variable_length i a c t) = variable_length_row i a c ++ rows p t
  rows p (array ds t) = array_row p (length ds) ++ rows (p + length (dimension_bytes ds)) t

  pub member_rows : (place : ℕ) → Members → List ℕ
  member_rows p no_members = []
  member_rows p (member b o t ms) =
      member_row p o (length b) ++ (rows (p + length b) t ++ member_rows (p + length b + length (pool_bytes t)) ms)

unfoldable pub all_below : ℕ → List ℕ → Bool
all_below k [] = true
all_below k (d ∷ ds) = ltb d k && all_below k ds

-- a leaf has "known codes"
unfoldable pub leaf_known : Leaf → Bool
leaf_known (fixed_point order signed offset precision) = ltb order 3 && ltb signed 2
leaf_known (floating_point order layout) = ltb order 3
leaf_known (time order precision) = ltb order 3
leaf_known (string padding charset) = ltb padding 3 && ltb charset 2
leaf_known (bit_field order offset precision) = ltb order 3
leaf_known (opaque tag) = true
leaf_known (reference kind) = ltb kind 2

unfoldable mutual
  -- a type has "known codes", and dimensions of 32 bits
  pub known : Datatype → Bool
  known (leaf n x) = leaf_known x
  known (compound n ms) = known_members ms
  known (enumeration n t ms) = known t
  known (variable_length i a c t) = ltb i 2 && (ltb a 4 && (ltb c 3 && known t))
  known (array ds t) = all_below 4294967296 ds && known t

  pub known_members : Members → Bool
  known_members no_members = true
  known_members (member b o t ms) = known t && known_members ms

-- "Limits: 32 levels, outermost 1; 4,096 rows; 65,536 pool bytes"
abbrev pub max_levels : ℕ
max_levels = 32

abbrev pub max_rows : ℕ
max_rows = 4096

abbrev pub max_pool : ℕ
max_pool = 65536

pub record WithinLimits (t : Datatype) : Type 0 where
  pub levels : depth t ≤ max_levels
  pub rows_fit : row_count t ≤ max_rows
  pub pool-fits : length (pool_bytes t) ≤ max_pool

-- "The rows and pool set out exactly one type in reading order, packed, within the limits, with known codes, and zeros after it"
pub record SetsOut (t : Datatype) (table pool : List ℕ) : Type 0 where
  pub within : WithinLimits t
  pub codes : known t ≡ true
  pub holds_rows : length (rows 0 t) ≤ length table
  pub holds-pool : length (pool_bytes t) ≤ length pool
  pub table_is : table ≡ padded (length table) (rows 0 t)
  pub pool-is : pool ≡ padded (length pool) (pool_bytes t)

-- what is found from a row and a pool place on, with the next row and place; or nothing
pub data Found (A : Type 0) : Type 0 where
  found : A → (row place : ℕ) → Found A
  bad : Found A

abbrev pub Walk : Type 0 → Type 0
Walk A = (row place : ℕ) → Found A

unfoldable pub and_then : {A B : Type 0} → Found A → (A → Walk B) → Found B
and_then (found a r p) k = k a r p
and_then bad k = bad

infixl 20 ◌>>=◌
abbrev pub ◌>>=◌ : {A B : Type 0} → Walk A → (A → Walk B) → Walk B
◌>>=◌ m f = λ r p. and_then (m r p) f

infixl 20 ◌>>◌
abbrev pub ◌>>◌ : {A B : Type 0} → Walk A → Walk B → Walk B
◌>>◌ m n = λ r p. and_then (m r p) (λ a. n)

abbrev pub give : {A : Type 0} → A → Walk A
give a = λ r p. found a r p

-- the place in the pool
abbrev pub place_here : Walk ℕ
place_here r p = found p r p

unfoldable pub test : Bool → Walk (Unit {0})
test c r p = cond c (found tt r p) bad

-- the words of a row: fewer than 16 where the table ends before
unfoldable pub words_at : List ℕ → ℕ → List ℕ
words_at table r = take 16 (drop (r * 16) table)

unfoldable pub next_row_of : List ℕ → Walk (List ℕ)
next_row_of table r p = found (words_at table r) (suc r) p

-- the next n pool bytes
unfoldable pub next_piece : List ℕ → ℕ → Walk (List ℕ)
next_piece pool n r p = cond (leb (p + n) (length pool)) (found (take n (drop p pool)) r (p + n)) bad

unfoldable pub same_words : List ℕ → List ℕ → Bool
same_words [] [] = true
same_words [] (b ∷ y) = false
same_words (a ∷ x) [] = false
same_words (a ∷ x) (b ∷ y) = eqb a b && same_words x y

-- word c of a row, by the row's words and in the table
abbrev pub column : List ℕ → ℕ → ℕ
column w c = get_or w c 0

abbrev pub word_at : (table : List ℕ) (r c : ℕ) → ℕ
word_at table r c = get_or table (r * 16 + c) 0

-- row r has exactly these words
abbrev pub row_is_of : (table : List ℕ) (r : ℕ) (words : List ℕ) → Bool
row_is_of table r v = same_words (words_at table r) v

-- so many members of a compound
unfoldable pub members_at : Walk Datatype → (table pool : List ℕ) → ℕ → Walk Members
members_at rd table pool zero = give no_members
members_at rd table pool (suc n) = do
  w ← next_row_of table
  p ← place_here
  test (same_words w (member_row p (column w member_offset_column) (column w length_column)))
  b ← next_piece pool (column w length_column)
  t ← rd
  ms ← members_at rd table pool n
  give (member b (column w member_offset_column) t ms)

-- the names of so many members of an enumeration, each with the length of its value
unfoldable pub enum_names_at : (table pool : List ℕ) → ℕ → Walk (List (List ℕ × ℕ))
enum_names_at table pool zero = give []
enum_names_at table pool (suc n) = do
  w ← next_row_of table
  p ← place_here
  test (same_words w (enum_member_row p (column w length_column) (column w value_length_column)))
  b ← next_piece pool (column w length_column)
  ns ← enum_names_at table pool n
  give ((b, column w value_length_column) ∷ ns)

-- and their values, behind all names
unfoldable pub enum_values_at : (pool : List ℕ) → List (List ℕ × ℕ) → Walk (List EnumMember)
enum_values_at pool [] = give []
enum_values_at pool (x ∷ ns) = do
  v ← next_piece pool x.1
  ms ← enum_values_at pool ns
  give (record { name = x.0; value = v } ∷ ms)

-- the kinds of leaves, and of all types
pub data LeafKind : Type 0 where
  isFixedPoint isFloatingPoint isTime is_string_of isBitField isOpaque isReference : LeafKind

pub data Kind : Type 0 where
  is_leaf : LeafKind → Kind
  isCompound isEnumeration isVariableLength isArray isUnknown : Kind

-- the classes that a table has, 0 to 10
abbrev pub classes : List Kind
classes =
    is_leaf isFixedPoint
    ∷ is_leaf isFloatingPoint
    ∷ is_leaf isTime
    ∷ is_leaf is_string_of
    ∷ is_leaf isBitField
    ∷ is_leaf isOpaque
    ∷ isCompound
    ∷ is_leaf isReference
    ∷ isEnumeration
    ∷ isVariableLength
    ∷ isArray
    ∷ []

-- "kind: class + 1 (1 to 11) for a type"
unfoldable pub kind_of : ℕ → Kind
kind_of k = get_or (isUnknown ∷ classes) k isUnknown

-- only an opaque has a tag
abbrev pub has_tag : LeafKind → Bool
has_tag isFixedPoint = false
has_tag isFloatingPoint = false
has_tag isTime = false
has_tag is_string_of = false
has_tag isBitField = false
has_tag isOpaque = true
has_tag isReference = false

-- a leaf's tag, of so many pool bytes; a leaf that has none does not look at the pool
unfoldable pub tag_at : (pool : List ℕ) (length : ℕ) → LeafKind → Walk (List ℕ)
tag_at pool n k = cond (has_tag k) (next_piece pool n) (give [])

-- the leaf of a kind, by the words of its row and its tag
unfoldable pub leaf_of : (word : ℕ → ℕ) (tag : List ℕ) → LeafKind → Leaf
leaf_of w g isFixedPoint = fixed_point (w order_column) (w signed_column) (w offset_column) (w precision_column)
leaf_of w g isFloatingPoint =
    floating_point (w order_column)
    (record {
      offset = w offset_column;
      precision = w precision_column;
      exponent_location_of = w exponent_location_column;
      exponent_size_of = w exponent_size_column;
      mantissa_location_of = w mantissa_location_column;
      mantissa_size_of = w mantissa_size_column;
      bias = w bias_column;
    })
leaf_of w g isTime = time (w order_column) (w precision_column)
leaf_of w g is_string_of = string (w padding_column) (w charset_column)
leaf_of w g isBitField = bit_field (w order_column) (w offset_column) (w precision_column)
leaf_of w g isOpaque = opaque g
leaf_of w g isReference = reference (w reference_column)

-- a type whose row has these words, over the walk to the types inside
unfoldable pub type_from : Walk Datatype → (table pool w : List ℕ) → Kind → Walk Datatype
type_from rd table pool w (is_leaf k) = do
  p ← place_here
  g ← tag_at pool (column w length_column) k
  test (same_words w (leaf_row p (column w size_column) (leaf_of (column w) g k)))
  test (leaf_known (leaf_of (column w) g k))
  give (leaf (column w size_column) (leaf_of (column w) g k))
type_from rd table pool w isCompound = do
  test (same_words w (compound_row (column w size_column) (column w count_column)))
  ms ← members_at rd table pool (column w count_column)
  give (compound (column w size_column) ms)
type_from rd table pool w isEnumeration = do
  test (same_words w (enumeration_row (column w size_column) (column w count_column)))
  t ← rd
  ns ← enum_names_at table pool (column w count_column)
  ms ← enum_values_at pool ns
  give (enumeration (column w size_column) t ms)
type_from rd table pool w isVariableLength = do
  test (same_words w (variable_length_row (column w is_string_column) (column w variable_padding_column) (column w variable_charset_column)))
  test (ltb (column w is_string_column) 2 && (ltb (column w variable_padding_column) 4 && ltb (column w variable_charset_column) 3))
  t ← rd
  give (variable_length (column w is_string_column) (column w variable_padding_column) (column w variable_charset_column) t)
type_from rd table pool w isArray = do
  p ← place_here
  test (same_words w (array_row p (column w length_column)))
  b ← next_piece pool (column w length_column * 4)
  t ← rd
  give (array (dimensions_from (column w length_column) b) t)
type_from rd table pool w isUnknown = λ r p. bad

-- the type at a row, with so many levels left
unfoldable pub type_at : (levels : ℕ) (table pool : List ℕ) → Walk Datatype
type_at zero table pool = λ r p. bad
type_at (suc k) table pool = do
  w ← next_row_of table
  type_from (type_at k table pool) table pool w (kind_of (column w kind_column))

-- "zeros after it", within the limits of rows and pool bytes
unfoldable pub whole_type : (table pool : List ℕ) → Found Datatype → Outcome Datatype
whole_type table pool (found t r p) =
    cond (leb r max_rows && (leb p max_pool && (all_zero (drop (r * 16) table) && all_zero (drop p pool)))) (gives t) (refuses BadTable)
whole_type table pool bad = refuses BadTable

-- the one type that a table and pool set out, or BadTable
unfoldable pub type_of : (table pool : List ℕ) → Outcome Datatype
type_of table pool = whole_type table pool (type_at max_levels table pool 0 0)

-- the table and the pool, of given lengths, that set a type out
unfoldable pub table_of : (words : ℕ) → Datatype → List ℕ
table_of n t = padded n (rows 0 t)

unfoldable pub pool_of : (bytes : ℕ) → Datatype → List ℕ
pool_of n t = padded n (pool_bytes t)
