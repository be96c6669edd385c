-- The type as a tree: a leaf of one of seven classes, or one of the four classes that hold other types. Every number that a row can hold is
-- here, what no message can store included. Codes are those of a row: order 0 little-endian, 1 big-endian, 2 VAX; signed, padding, charset
-- and kind as document 01 has them; a variable-length type's padding and charset are 0 where absent, else the code + 1.
--
-- Letters in clauses, here and in the other definitions: t a type, n its size, x a leaf, ms members, b a name, o a member's offset,
-- ds dimensions, i a c a variable-length type's is-string, padding and charset, p a place in the pool, e an edition, v a version.
use Rattle.std.specs.Prelude.{ℕ, suc, ◌+◌, ◌*◌, min, max, Bool, false, List, [], ◌∷◌, ◌++◌, length, get_or}
use Rattle.format.specs.Bytes.{dimension_bytes}

-- a member of an enumeration
pub record EnumMember : Type 0 where
  pub name : List ℕ
  pub value : List ℕ

-- where a float has its bits, and the exponent's bias
pub record FloatLayout : Type 0 where
  pub offset : ℕ
  pub precision : ℕ
  pub exponent_location_of : ℕ
  pub exponent_size_of : ℕ
  pub mantissa_location_of : ℕ
  pub mantissa_size_of : ℕ
  pub bias : ℕ

-- its numbers, in the order of a message and of a row
unfoldable pub float_numbers : FloatLayout → List ℕ
float_numbers y = y.offset ∷ y.precision ∷ y.exponent_location_of ∷ y.exponent_size_of ∷ y.mantissa_location_of ∷ y.mantissa_size_of ∷ y.bias ∷ []

-- a layout from numbers in that order
unfoldable pub float_layout : List ℕ → FloatLayout
float_layout x =
    record {
      offset = get_or x 0 0;
      precision = get_or x 1 0;
      exponent_location_of = get_or x 2 0;
      exponent_size_of = get_or x 3 0;
      mantissa_location_of = get_or x 4 0;
      mantissa_size_of = get_or x 5 0;
      bias = get_or x 6 0;
    }

-- a type that holds no other, but for its size
pub data Leaf : Type 0 where
  fixed_point : (order signed offset precision : ℕ) → Leaf
  floating_point : (order : ℕ) (layout : FloatLayout) → Leaf
  time : (order precision : ℕ) → Leaf
  string : (padding charset : ℕ) → Leaf
  bit_field : (order offset precision : ℕ) → Leaf
  opaque : (tag : List ℕ) → Leaf
  reference : (kind : ℕ) → Leaf

mutual
  pub data Datatype : Type 0 where
    leaf : (size : ℕ) → Leaf → Datatype
    compound : (size : ℕ) (members : Members) → Datatype
    enumeration : (size : ℕ) (base : Datatype) (members : List EnumMember) → Datatype
    variable_length : (is_string_of padding charset : ℕ) (base : Datatype) → Datatype
    array : (dimensions : List ℕ) (base : Datatype) → Datatype

  -- a compound's members, in order
  pub data Members : Type 0 where
    no_members : Members
    member : (name : List ℕ) (offset : ℕ) (type : Datatype) (others : Members) → Members

unfoldable pub member_count_of : Members → ℕ
member_count_of no_members = 0
member_count_of (member b o t ms) = suc (member_count_of ms)

unfoldable pub product : List ℕ → ℕ
product [] = 1
product (d ∷ ds) = d * product ds

-- the greatest size: "An array is base size × dimensions, at most 4,294,967,295"
abbrev pub max_size : ℕ
max_size = 4294967295

-- "Variable length is 16"
unfoldable pub type_size_of : Datatype → ℕ
type_size_of (leaf n x) = n
type_size_of (compound n ms) = n
type_size_of (enumeration n t ms) = n
type_size_of (variable_length i a c t) = 16
type_size_of (array ds t) = min (type_size_of t * product ds) max_size

unfoldable pub leaf_class : Leaf → ℕ
leaf_class (fixed_point order signed offset precision) = 0
leaf_class (floating_point order layout) = 1
leaf_class (time order precision) = 2
leaf_class (string padding charset) = 3
leaf_class (bit_field order offset precision) = 4
leaf_class (opaque tag) = 5
leaf_class (reference kind) = 7

-- the class, "the table's": a class 11 message gives a compound
unfoldable pub class_number : Datatype → ℕ
class_number (leaf n x) = leaf_class x
class_number (compound n ms) = 6
class_number (enumeration n t ms) = 8
class_number (variable_length i a c t) = 9
class_number (array ds t) = 10

unfoldable mutual
  -- the levels of a type, its own counted ("outermost 1")
  pub depth : Datatype → ℕ
  depth (leaf n x) = 1
  depth (compound n ms) = suc (member_depth ms)
  depth (enumeration n t ms) = suc (depth t)
  depth (variable_length i a c t) = suc (depth t)
  depth (array ds t) = suc (depth t)

  pub member_depth : Members → ℕ
  member_depth no_members = 0
  member_depth (member b o t ms) = max (depth t) (member_depth ms)

unfoldable mutual
  -- "one per type and per member"
  pub row_count : Datatype → ℕ
  row_count (leaf n x) = 1
  row_count (compound n ms) = suc (member_row_count ms)
  row_count (enumeration n t ms) = suc (row_count t + length ms)
  row_count (variable_length i a c t) = suc (row_count t)
  row_count (array ds t) = suc (row_count t)

  pub member_row_count : Members → ℕ
  member_row_count no_members = 0
  member_row_count (member b o t ms) = suc (row_count t + member_row_count ms)

unfoldable pub enum_names : List EnumMember → List ℕ
enum_names [] = []
enum_names (m ∷ ms) = m.name ++ enum_names ms

unfoldable pub enum_values : List EnumMember → List ℕ
enum_values [] = []
enum_values (m ∷ ms) = m.value ++ enum_values ms

-- a leaf's pool bytes: only an opaque has some
unfoldable pub leaf_pool : Leaf → List ℕ
leaf_pool (fixed_point order signed offset precision) = []
leaf_pool (floating_point order layout) = []
leaf_pool (time order precision) = []
leaf_pool (string padding charset) = []
leaf_pool (bit_field order offset precision) = []
leaf_pool (opaque tag) = tag
leaf_pool (reference kind) = []

unfoldable mutual
  -- the pool bytes: "names, tags, values and dimensions, packed in message order, an enumeration's names before its values"
  pub pool_bytes : Datatype → List ℕ
  pool_bytes (leaf n x) = leaf_pool x
  pool_bytes (compound n ms) = member_pool ms
  pool_bytes (enumeration n t ms) = pool_bytes t ++ (enum_names ms ++ enum_values ms)
  pool_bytes (variable_length i a c t) = pool_bytes t
  pool_bytes (array ds t) = dimension_bytes ds ++ pool_bytes t

  pub member_pool : Members → List ℕ
  member_pool no_members = []
  member_pool (member b o t ms) = b ++ (pool_bytes t ++ member_pool ms)

-- a leaf is a reference whose kind passes a test
unfoldable pub refers : (ℕ → Bool) → Leaf → Bool
refers test (fixed_point order signed offset precision) = false
refers test (floating_point order layout) = false
refers test (time order precision) = false
refers test (string padding charset) = false
refers test (bit_field order offset precision) = false
refers test (opaque tag) = false
refers test (reference kind) = test kind
