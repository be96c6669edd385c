-- What the measuring walk answers, as a function of the type that is found.
use Rattle.std.specs.Prelude.{Option, Some, None}
use Rattle.std.specs.Prelude.{ℕ, ◌+◌, ◌*◌, ◌^◌, min, Bool, true, ◌&&◌, List, [], ◌∷◌, length, take, drop, get_or, leb, ltb, eqb}
use Rattle.format.specs.Bytes.{padding_to8}
use Rattle.format.specs.Columns.{order_column, offset_column, precision_column, exponent_location_column, exponent_size_column, mantissa_location_column, mantissa_size_column}
use Rattle.format.specs.Datatype.{Datatype, Members, EnumMember, enum_values, type_size_of, product}
use Rattle.format.specs.Message.{no_nul, storable, storable_members, storable_enum, storable_variable, carried, carried_members, message_length, members_length, enum_name_length, name_padding_of, offset_width, skipped_bytes_of, reserved_bytes_of, permutation_bytes_of}
use Rattle.format.specs.Utf8.{well_formed}
use Rattle.format.specs.Table.{word_at, Found, found, bad, and_then, enum_names_at, enum_values_at}
use Rattle.measure.specs.declared.EnumNames.{EnumNames}
use Rattle.measure.specs.declared.Measure.{Measure}

-- a length, which stops at 4,294,967,296
unfoldable pub most_length : ℕ → ℕ
most_length n = min n 4294967296

unfoldable pub measure_of : (edition : ℕ) → Found Datatype → Option Measure
measure_of e (found t r p) = Some (record { row = r; place = p; size = type_size_of t; storable = storable t; carried = carried e t; length = most_length (message_length e t) })
measure_of e bad = None

-- of the members of a compound of size n
unfoldable pub measure_in : (edition size : ℕ) → Found Members → Option Measure
measure_in e n (found ms r p) = Some (record { row = r; place = p; size = n; storable = storable_members n ms; carried = carried_members e ms; length = most_length (members_length e n ms) })
measure_in e n bad = None

-- of the members of an enumeration over a base of size n
unfoldable pub measure_enum : (edition size : ℕ) → Found (List EnumMember) → Option Measure
measure_enum e n (found ms r p) = Some (record { row = r; place = p; size = n; storable = storable_enum n ms; carried = true; length = most_length (enum_name_length e ms + length (enum_values ms)) })
measure_enum e n bad = None

unfoldable pub enum_measure_of : (edition size : ℕ) (table pool : List ℕ) (count row place : ℕ) → Option Measure
enum_measure_of e n table pool k r p = measure_enum e n (and_then (enum_names_at table pool k r p) (enum_values_at pool))

-- place and size of exponent and mantissa fit a byte each
unfoldable pub parts_fit_of : (table : List ℕ) (row : ℕ) → Bool
parts_fit_of table r = (ltb (word_at table r exponent_location_column) 256 && ltb (word_at table r exponent_size_column) 256) && (ltb (word_at table r mantissa_location_column) 256 && ltb (word_at table r mantissa_size_column) 256)

-- the tests of Storable on a leaf's row whose codes are known
unfoldable pub leaf_storable_of : (table : List ℕ) (row class size length : ℕ) → Bool
leaf_storable_of table r c n l =
    ltb 0 n && get_or
    ((ltb (word_at table r order_column) 2 && (ltb (word_at table r offset_column) 65536 && ltb (word_at table r precision_column) 65536))
    ∷ (leb n 536870911 && (ltb (word_at table r offset_column) 65536 && (ltb (word_at table r precision_column) 65536 && parts_fit_of table r)))
    ∷ (ltb (word_at table r order_column) 2 && ltb (word_at table r precision_column) 65536)
    ∷ true
    ∷ (ltb (word_at table r order_column) 2 && (ltb (word_at table r offset_column) 65536 && ltb (word_at table r precision_column) 65536))
    ∷ ltb l 256
    ∷ [])
    c
    true

unfoldable pub leaf_length_of : (class length : ℕ) → ℕ
leaf_length_of c l = get_or (12 ∷ 20 ∷ 10 ∷ 8 ∷ 12 ∷ (8 + l + padding_to8 l) ∷ []) c 8

unfoldable pub offset_fits_of : (offset size : ℕ) → Bool
offset_fits_of o n = ltb o (256 ^ offset_width 3 n)

-- the bytes of a name of a length, with its NUL and padding; those before a member's type; those before an array's base
unfoldable pub name_length_of_lem : (edition long : ℕ) → ℕ
name_length_of_lem e l = l + 1 + name_padding_of e (l + 1)

unfoldable pub member_head_of : (edition size long : ℕ) → ℕ
member_head_of e n l = name_length_of_lem e l + offset_width e n + skipped_bytes_of e

unfoldable pub array_head_of : (edition rank : ℕ) → ℕ
array_head_of e k = 8 + (1 + reserved_bytes_of e + (4 * k + permutation_bytes_of e k))

-- the n bytes of a name at a place of the pool are valid UTF-8 without NUL
unfoldable pub valid_at : (pool : List ℕ) (place n : ℕ) → Bool
valid_at pool p n = no_nul (take n (drop p pool)) && well_formed (take n (drop p pool))

-- what is measured of an enumeration's names, and one more of n bytes, whose value has v bytes
unfoldable pub with_enum_name_of : (pool : List ℕ) (edition width : ℕ) → EnumNames → (place n v : ℕ) → EnumNames
with_enum_name_of pool e w names p n v = record { storable = names.storable && (valid_at pool p n && eqb v w); length = most_length (names.length + name_length_of_lem e n) }

-- what is measured of a type, from what is measured of the types inside
unfoldable pub with_member_of : Measure → (valid : Bool) (offset head : ℕ) → Measure → Measure
with_member_of s v o h m =
    record {
      row = m.row;
      place = m.place;
      size = s.size;
      storable = s.storable && (v && (offset_fits_of o s.size && m.storable));
      carried = s.carried && m.carried;
      length = most_length (s.length + most_length (h + m.length));
    }

unfoldable pub leaf_measure_of : (table : List ℕ) (row place class size length : ℕ) → Measure
leaf_measure_of table r p c n l = record { row = r + 1; place = p + l; size = n; storable = leaf_storable_of table r c n l; carried = true; length = most_length (leaf_length_of c l) }

unfoldable pub compound_measure_of : (size count : ℕ) → Measure → Measure
compound_measure_of n k m =
    record {
      row = m.row;
      place = m.place;
      size = n;
      storable = ltb 0 n && (ltb k 65536 && m.storable);
      carried = m.carried;
      length = most_length (8 + m.length);
    }

unfoldable pub enumeration_measure_of : (size count : ℕ) (base members : Measure) → Measure
enumeration_measure_of n k b m =
    record {
      row = m.row;
      place = m.place;
      size = n;
      storable = ltb 0 n && (ltb k 65536 && (m.storable && b.storable));
      carried = b.carried;
      length = most_length (8 + most_length (b.length + m.length));
    }

unfoldable pub variable_measure_of : (is_string_of padding charset : ℕ) → Measure → Measure
variable_measure_of i a c b =
    record {
      row = b.row;
      place = b.place;
      size = 16;
      storable = storable_variable i a c && b.storable;
      carried = b.carried;
      length = most_length (8 + b.length);
    }

unfoldable pub array_measure_of : (edition rank : ℕ) (dimensions : List ℕ) → Measure → Measure
array_measure_of e k ds b =
    record {
      row = b.row;
      place = b.place;
      size = min (min (b.size * product ds) 4294967296) 4294967295;
      storable = ltb k 256 && (ltb 0 (min (min (b.size * product ds) 4294967296) 4294967295) && b.storable);
      carried = ltb 1 e && b.carried;
      length = most_length (array_head_of e k + b.length);
    }
