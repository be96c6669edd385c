-- N3: for each record of a block the earliest record that is the same, and the sizes of the groups.
use Rattle.std.specs.Prelude.{ℕ, ◌*◌, ◌/◌, ◌%◌, List, [], length, take, drop, leb, eqb}
use Rattle.refusal.specs.declared.Refusal.TheVariants.{WrongLength, NoRoom}
use Rattle.format.specs.Datatype.{Datatype, type_size_of}
use Rattle.format.specs.Image.{Field, fields_of, image_from}
use Rattle.format.specs.Outcome.{Outcome, gives, refuses, when_given, unless, needed}
use Rattle.format.specs.Ownership.{admitting}
use Rattle.format.specs.Table.{type_of}
use Rattle.groups.specs.Groups.{listed, numbers_of, sizes_of, distinct_of}

-- the bytes of a record, by its number from 0
unfoldable pub record_at_of : (block : List ℕ) (size k : ℕ) → List ℕ
record_at_of block size k = take size (drop (k * size) block)

-- the records as they are compared, by their fields: two are the same exactly when these are equal
unfoldable pub key_of : List Field → (block : List ℕ) (size k : ℕ) → List ℕ
key_of fs block size k = image_from fs (record_at_of block size k) 0 size

unfoldable pub keys_of : List Field → (block : List ℕ) (size : ℕ) → List (List ℕ)
keys_of fs block size = listed (key_of fs block size) (length block / size)

-- the fields of the type that a table and pool set out
unfoldable pub fields_given : Outcome Datatype → List Field
fields_given (gives t) = fields_of t
fields_given (refuses e) = []

unfoldable pub fields_in_of : (table pool : List ℕ) → List Field
fields_in_of table pool = fields_given (type_of table pool)

-- "list for each the number, from 0, of the earliest record that is the same" and "the size of each group, groups by first record"
pub record Groups : Type 0 where
  pub numbers : List ℕ
  pub sizes : List ℕ

unfoldable pub groups_of : List (List ℕ) → Groups
groups_of keys = record { numbers = numbers_of keys; sizes = sizes_of keys }

-- "a list lent too short is NoRoom, numbers before sizes"
unfoldable pub fitting : (room places : ℕ) → List (List ℕ) → Outcome Groups
fitting room places keys =
    unless (leb (length keys) room) (NoRoom (needed (length keys)))
    (unless (leb (distinct_of keys) places) (NoRoom (needed (distinct_of keys)))
    (gives (groups_of keys)))

-- "Type checks come as for comparing two records. A block that isn't a whole number of records is WrongLength"
unfoldable pub duplicating_records : (block : List ℕ) (room places : ℕ) → Datatype → Outcome Groups
duplicating_records block room places t =
    admitting t (unless (eqb (length block % type_size_of t) 0) WrongLength (fitting room places (keys_of (fields_of t) block (type_size_of t))))

-- refusals 1, 12, 16, 17, 18, 21 for the numbers and 21 for the sizes, in this order, then the groups
unfoldable pub duplicating : (table pool block : List ℕ) (room places : ℕ) → Outcome Groups
duplicating table pool block room places = when_given (type_of table pool) (duplicating_records block room places)
