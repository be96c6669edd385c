-- What a row says, by its words: the same tests that `type_at` makes of a row (proofs/Decode.antt: typeAt by entries).
use Rattle.std.specs.Prelude.{ℕ, suc, ◌+◌, ◌-◌, ◌*◌, ◌≤◌, max, Bool, true, not, ◌&&◌, ◌||◌, ◌≡◌, List, [], ◌∷◌, length, get_or, take, drop, leb, ltb, eqb, Option, Some, None, is_some}
use Rattle.std.specs.Bool.{then_some}
use Rattle.format.specs.Bytes.{dimensions_from}
use Rattle.format.specs.Columns.{kind_column, size_column, member_offset_column, length_column, count_column, value_length_column, code_column, is_string_column, variable_padding_column, variable_charset_column}
use Rattle.format.specs.Datatype.{Leaf as LeafType, leaf_class, leaf_pool, Datatype, leaf, compound, enumeration, variable_length, array, Members, member}
use Rattle.format.specs.Table.{leaf_row, compound_row, enumeration_row, variable_length_row, array_row, member_row, enum_member_row, leaf_known, Found, found, bad, Walk, and_then, word_at, row_is_of, LeafKind, isFixedPoint, isFloatingPoint, isTime, is_string_of, isBitField, isOpaque, isReference, Kind, is_leaf, isCompound, isEnumeration, isVariableLength, isArray, isUnknown, has_tag, leaf_of, kind_of, members_at, enum_names_at, enum_values_at}
use Rattle.rows.specs.declared.Entry.{Entry}
use Rattle.rows.specs.declared.Entry.TheVariants.{Leaf, Compound, Enumeration, VariableLength, Array}
use Rattle.rows.specs.declared.EnumPlace.{EnumPlace}
use Rattle.rows.specs.declared.Member.{Member}

-- the leaf of a kind that row r says, its tag at p
unfoldable pub leaf_at : (table pool : List ℕ) (r p : ℕ) → LeafKind → LeafType
leaf_at table pool r p k = leaf_of (word_at table r) (take (word_at table r length_column) (drop p pool)) k

-- its tag, if it has one, lies in the pool
unfoldable pub tag_inside : (table pool : List ℕ) (r p : ℕ) → LeafKind → Bool
tag_inside table pool r p k = not (has_tag k) || leb (p + word_at table r length_column) (length pool)

-- the entry of a row that says leaf x: class, size, length of the tag, code
unfoldable pub leaf_entry : (table : List ℕ) (r : ℕ) → LeafType → Entry
leaf_entry table r x = Leaf (leaf_class x) (word_at table r size_column) (length (leaf_pool x)) (word_at table r code_column)

-- the entry of a row of a kind
unfoldable pub entry_of : (table pool : List ℕ) (r p : ℕ) → Kind → Option Entry
entry_of table pool r p (is_leaf k) =
    then_some (tag_inside table pool r p k && (row_is_of table r (leaf_row p (word_at table r size_column) (leaf_at table pool r p k)) && leaf_known (leaf_at table pool r p k)))
    (leaf_entry table r (leaf_at table pool r p k))
entry_of table pool r p isCompound =
    then_some (row_is_of table r (compound_row (word_at table r size_column) (word_at table r count_column))) (Compound (word_at table r size_column) (word_at table r count_column))
entry_of table pool r p isEnumeration =
    then_some (row_is_of table r (enumeration_row (word_at table r size_column) (word_at table r count_column))) (Enumeration (word_at table r size_column) (word_at table r count_column))
entry_of table pool r p isVariableLength =
    then_some (row_is_of table r (variable_length_row (word_at table r is_string_column) (word_at table r variable_padding_column) (word_at table r variable_charset_column)) && (ltb (word_at table r is_string_column) 2 && (ltb (word_at table r variable_padding_column) 4 && ltb (word_at table r variable_charset_column) 3)))
    (VariableLength (word_at table r is_string_column) (word_at table r variable_padding_column) (word_at table r variable_charset_column))
entry_of table pool r p isArray =
    then_some (row_is_of table r (array_row p (word_at table r length_column)) && leb (p + word_at table r length_column * 4) (length pool)) (Array (word_at table r length_column))
entry_of table pool r p isUnknown = None

-- the row of a type, its pool bytes beginning at p
unfoldable pub entry_at : (table pool : List ℕ) (r p : ℕ) → Option Entry
entry_at table pool r p = entry_of table pool r p (kind_of (word_at table r kind_column))

-- a member as row r says it, its number in a column
unfoldable pub member_in : (table : List ℕ) (r column : ℕ) → Member
member_in table r k = record { name = word_at table r length_column; number = word_at table r k }

-- the row of a compound's member, its name at p: length of the name, offset
unfoldable pub member_at_of : (table pool : List ℕ) (r p : ℕ) → Option Member
member_at_of table pool r p =
    then_some (row_is_of table r (member_row p (word_at table r member_offset_column) (word_at table r length_column)) && leb (p + word_at table r length_column) (length pool))
    (member_in table r member_offset_column)

-- the row of an enumeration's member, its name at p: length of the name, length of the value
unfoldable pub enum_member_at_of : (table pool : List ℕ) (r p : ℕ) → Option Member
enum_member_at_of table pool r p =
    then_some (row_is_of table r (enum_member_row p (word_at table r length_column) (word_at table r value_length_column)) && leb (p + word_at table r length_column) (length pool))
    (member_in table r value_length_column)

-- an entry's piece, at p, lies in a pool of so many bytes; a leaf's may be empty, and then begins anywhere
unfoldable pub PieceInside : Entry → (bytes p : ℕ) → Type 0
PieceInside (Leaf c n l x) bytes p = p + l ≤ max bytes p
PieceInside (Compound n k) bytes p = Unit {0}
PieceInside (Enumeration n k) bytes p = Unit {0}
PieceInside (VariableLength i a c) bytes p = Unit {0}
PieceInside (Array k) bytes p = p + k * 4 ≤ bytes

-- the row of an entry or a member lies in the table, and its piece in the pool
unfoldable pub EntryInside : Option Entry → (words bytes r p : ℕ) → Type 0
EntryInside (Some e) words bytes r p = (r * 16 + 16 ≤ words) × PieceInside e bytes p
EntryInside None words bytes r p = Unit {0}

unfoldable pub MemberInside : Option Member → (words bytes r p : ℕ) → Type 0
MemberInside (Some m) words bytes r p = (r * 16 + 16 ≤ words) × (p + m.name ≤ bytes)
MemberInside None words bytes r p = Unit {0}

-- the place behind an enumeration's member, if the values up to it are no longer than a pool of so many bytes
unfoldable pub behind_of : (bytes : ℕ) → EnumPlace → Member → Option EnumPlace
behind_of bytes at m = then_some (leb m.number (bytes - at.values)) (record { row = at.row + 1; place = at.place + m.name; values = at.values + m.number })

-- whether an entry's piece of the pool, at p, lies in a pool of so many bytes
unfoldable pub entry_fits_of : Entry → (p bytes : ℕ) → Bool
entry_fits_of (Leaf c n l x) p bytes = eqb l 0 || leb (p + l) bytes
entry_fits_of (Compound n k) p bytes = true
entry_fits_of (Enumeration n k) p bytes = true
entry_fits_of (VariableLength i a c) p bytes = true
entry_fits_of (Array k) p bytes = leb (p + k * 4) bytes

-- an answer that is the row's entry, or member, unless the row is unknown: of an unknown row nothing is said
unfoldable pub IfKnown : {A : Type 0} → (row answer : Option A) → Type 0
IfKnown (Some x) y = y ≡ Some x
IfKnown None y = Unit {0}

-- what is said of a row by its words alone: its entry, or member, wherever its piece of the pool begins, unless the row is unknown there
pub record RowSays (table : List ℕ) (r : ℕ) (e : Option Entry) : Type 0 where
  pub is : (pool : List ℕ) (p : ℕ) → IfKnown (entry_at table pool r p) e
  pub inside : is_some e ≡ true → r * 16 + 16 ≤ length table

pub record RowNames (table : List ℕ) (r : ℕ) (m : Option Member) : Type 0 where
  pub is : (pool : List ℕ) (p : ℕ) → IfKnown (member_at_of table pool r p) m
  pub inside : is_some m ≡ true → r * 16 + 16 ≤ length table

-- a leaf's kind, by its class
unfoldable pub leaf_kind_of : (class : ℕ) → LeafKind
leaf_kind_of c = get_or (isFixedPoint ∷ isFloatingPoint ∷ isTime ∷ is_string_of ∷ isBitField ∷ isOpaque ∷ []) c isReference

-- a leaf's type, by its class
unfoldable pub leaf_type : (table pool : List ℕ) (r p class : ℕ) → Datatype
leaf_type table pool r p c = leaf (word_at table r size_column) (leaf_at table pool r p (leaf_kind_of c))

-- the walk by entries: law `typeAt-entry` says that it is `type_at`
unfoldable pub from_entry : Walk Datatype → (table pool : List ℕ) (r p : ℕ) → Option Entry → Found Datatype
from_entry rd table pool r p (Some (Leaf c n l x)) = found (leaf_type table pool r p c) (suc r) (p + l)
from_entry rd table pool r p (Some (Compound n k)) = and_then (members_at rd table pool k (suc r) p) (λ ms r' p'. found (compound n ms) r' p')
from_entry rd table pool r p (Some (Enumeration n k)) =
    and_then (rd (suc r) p) (λ t r₁ p₁. and_then (enum_names_at table pool k r₁ p₁) (λ ns r₂ p₂. and_then (enum_values_at pool ns r₂ p₂) (λ ms r₃ p₃. found (enumeration n t ms) r₃ p₃)))
from_entry rd table pool r p (Some (VariableLength i a c)) = and_then (rd (suc r) p) (λ t r' p'. found (variable_length i a c t) r' p')
from_entry rd table pool r p (Some (Array k)) = and_then (rd (suc r) (p + k * 4)) (λ t r' p'. found (array (dimensions_from k (take (k * 4) (drop p pool))) t) r' p')
from_entry rd table pool r p None = bad

-- the walk over a compound's members, and over the names of an enumeration's: laws `membersAt-entry` and `enumNamesAt-entry`
unfoldable pub from_member : Walk Datatype → Walk Members → (pool : List ℕ) (r p : ℕ) → Option Member → Found Members
from_member rd rest pool r p (Some m) =
    and_then (rd (suc r) (p + m.name)) (λ t r₁ p₁. and_then (rest r₁ p₁) (λ ms r₂ p₂. found (member (take m.name (drop p pool)) m.number t ms) r₂ p₂))
from_member rd rest pool r p None = bad

unfoldable pub from_enum_member : Walk (List (List ℕ × ℕ)) → (pool : List ℕ) (r p : ℕ) → Option Member → Found (List (List ℕ × ℕ))
from_enum_member rest pool r p (Some m) = and_then (rest (suc r) (p + m.name)) (λ ns r' p'. found ((take m.name (drop p pool), m.number) ∷ ns) r' p')
from_enum_member rest pool r p None = bad
