-- Reading a datatype message (`Datatype::parse`), over any bytes: the type, or the first refusal in message order.
use Rattle.std.specs.Prelude.{ℕ, zero, suc, ◌+◌, ◌-◌, ◌*◌, ◌/◌, min, Bool, true, false, cond, List, [], ◌∷◌, ◌++◌, length, take, drop, get_or, leb, ltb, eqb}
use Rattle.std.proofs.Math.Option.{Option, none, some}
use Rattle.refusal.specs.declared.Refusal.{Refusal}
use Rattle.refusal.specs.declared.Refusal.TheVariants.{TooDeep, TooMany, Short, TooNew, BadClass, BadVersion, BadPadding, BadCharset, BadReferenceKind, PoolFull, ZeroSize}
use Rattle.format.specs.declared.Header.{Header}
use Rattle.format.specs.Bytes.{number_from, padding_to8, first_nul, total_width, unpack_numbers, dimensions_from, padded}
use Rattle.format.specs.Bits.{low_bits, high_bits, bit_at, float_order_of}
use Rattle.format.specs.Utf8.{mended}
use Rattle.format.specs.Datatype.{float_layout, fixed_point, floating_point, time, string, bit_field, opaque, reference, Datatype, leaf, compound, enumeration, variable_length, array, Members, no_members, member, EnumMember, type_size_of}
use Rattle.format.specs.Message.{name_padding_of, offset_width, skipped_bytes_of, reserved_bytes_of, permutation_bytes_of, bit_widths, float_widths, time_widths}
use Rattle.format.specs.Table.{LeafKind, isFixedPoint, isFloatingPoint, isTime, is_string_of, isBitField, isOpaque, isReference, Kind, is_leaf, isCompound, isEnumeration, isVariableLength, isArray, isUnknown, classes, max_levels, max_rows, max_pool, table_of, pool_of}
use Rattle.format.specs.Outcome.{Outcome, gives, refuses}

-- what was read, with the place in the innermost message, the bytes from there on, and the rows and pool bytes still free
pub data Answer (A : Type 0) : Type 0 where
  got : A → (at : ℕ) (bytes : List ℕ) (rows pool : ℕ) → Answer A
  refused : Refusal → Answer A

-- over what is available, the bytes from the innermost message's start to the end of the data; in clauses s is the bytes from the place on,
-- r and p the rows and pool bytes still free
abbrev pub Reader : Type 0 → Type 0
Reader A = (available at : ℕ) (bytes : List ℕ) (rows pool : ℕ) → Answer A

unfoldable pub then : {A B : Type 0} → Answer A → (A → ℕ → List ℕ → ℕ → ℕ → Answer B) → Answer B
then (got a at s r p) k = k a at s r p
then (refused e) k = refused e

infixl 20 ◌>>=◌
abbrev pub ◌>>=◌ : {A B : Type 0} → Reader A → (A → Reader B) → Reader B
◌>>=◌ m f = λ available at s r p. then (m available at s r p) (λ a. f a available)

infixl 20 ◌>>◌
abbrev pub ◌>>◌ : {A B : Type 0} → Reader A → Reader B → Reader B
◌>>◌ m n = λ available at s r p. then (m available at s r p) (λ a. n available)

abbrev pub give : {A : Type 0} → A → Reader A
give a = λ available at s r p. got a at s r p

abbrev pub refuse : {A : Type 0} → Refusal → Reader A
refuse e = λ available at s r p. refused e

-- a test that has to be passed
unfoldable pub require : Bool → Refusal → Reader (Unit {0})
require passed e available at s r p = cond passed (got tt at s r p) (refused e)

-- n bytes, which have to be there: "as the Rust's `UnexpectedEof`, counted within the innermost message"
unfoldable pub bytes : ℕ → Reader (List ℕ)
bytes n available at s r p = cond (leb n (length s)) (got (take n s) (at + n) (drop n s) r p) (refused (Short (at + n) available))

-- n bytes, counted and not required to be there
unfoldable pub skip : ℕ → Reader (Unit {0})
skip n available at s r p = got tt (at + n) (drop n s) r p

-- a number of so many bytes
unfoldable pub number : ℕ → Reader ℕ
number n = do
  b ← bytes n
  give (number_from b)

-- numbers of given widths, which have to be there together
unfoldable pub numbers : List ℕ → Reader (List ℕ)
numbers ws = do
  b ← bytes (total_width ws)
  give (unpack_numbers ws b)

-- a name that ends at a place of the bytes
unfoldable pub name_to : Option ℕ → Reader (List ℕ)
name_to none available at s r p = refused (Short (at + 1) available)
name_to (some n) available at s r p = got (take n s) (at + (n + 1)) (drop (n + 1) s) r p

-- a name that ends in NUL
unfoldable pub name : Reader (List ℕ)
name available at s r p = name_to (first_nul s) available at s r p

-- "A further row is wanted, before its bytes are sought"
unfoldable pub take_row : Reader (Unit {0})
take_row available at s zero p = refused TooMany
take_row available at s (suc r) p = got tt at s r p

-- "A piece is found whole but doesn't fit"
unfoldable pub piece : List ℕ → Reader (Unit {0})
piece b available at s r p = cond (leb (length b) p) (got tt at s r (p - length b)) (refused PoolFull)

-- a message inside a message is counted from its own start
unfoldable pub moved : {A : Type 0} → ℕ → Answer A → Answer A
moved at (got a n s r p) = got a (at + n) s r p
moved at (refused e) = refused e

unfoldable pub inner : {A : Type 0} → Reader A → Reader A
inner m available at s r p = moved at (m (length s) 0 s r p)

-- "class is the low four bits of the first byte, version the high four; three flag bytes f0, f1, f2; size, 4 bytes"
unfoldable pub header_of_lem : List ℕ → Header
header_of_lem b = record { class = low_bits 4 (get_or b 0 0); version = high_bits 4 (get_or b 0 0); f0 = get_or b 1 0; f1 = get_or b 2 0; size = number_from (drop 4 b) }

-- "above the limit, once the header is whole"
unfoldable pub read_header : (limit : ℕ) → Reader Header
read_header l = do
  b ← bytes 8
  require (leb (header_of_lem b).version l) (TooNew (header_of_lem b).version)
  give (header_of_lem b)

-- classes 0 to 11; class 11 "gives a compound"
unfoldable pub class_kind : ℕ → Kind
class_kind c = get_or (classes ++ (isCompound ∷ [])) c isUnknown

-- "Class 11 reads as version 3, whichever version it bears"
unfoldable pub layout_version : Header → ℕ
layout_version h = cond (eqb h.class 11) 3 h.version

-- "member count f0 + 256 × f1"
unfoldable pub count_of : Header → ℕ
count_of h = h.f0 + 256 * h.f1

-- a member's row and name, up to what stands behind its padding
unfoldable pub read_name_of : (version : ℕ) → Reader (List ℕ)
read_name_of v = do
  take_row
  b ← name
  piece (mended b)
  skip (name_padding_of v (length b + 1))
  give (mended b)

-- so many members of a compound
unfoldable pub read_members_of : Reader Datatype → (version size count : ℕ) → Reader Members
read_members_of rd v size zero = give no_members
read_members_of rd v size (suc k) = do
  b ← read_name_of v
  o ← number (offset_width v size)
  bytes (skipped_bytes_of v)
  t ← inner rd
  ms ← read_members_of rd v size k
  give (member b o t ms)

-- the names of so many members of an enumeration
unfoldable pub read_names_of : (version count : ℕ) → Reader (List (List ℕ))
read_names_of v zero = give []
read_names_of v (suc k) = do
  b ← read_name_of v
  bs ← read_names_of v k
  give (b ∷ bs)

-- their values, "each as long as the base's size"
unfoldable pub read_values_of : (size : ℕ) → List (List ℕ) → Reader (List EnumMember)
read_values_of n [] = give []
read_values_of n (b ∷ bs) = do
  x ← bytes n
  piece x
  ms ← read_values_of n bs
  give (record { name = b; value = x } ∷ ms)

-- class 9: "f0 low four bits 1 is a string, with padding in the high four and charset in f1's low four; all else is a sequence"
unfoldable pub read_variable : Reader Datatype → Header → Bool → Reader Datatype
read_variable rd h true = do
  require (leb (high_bits 4 h.f0) 2) (BadPadding (high_bits 4 h.f0))
  require (leb (low_bits 4 h.f1) 1) (BadCharset (low_bits 4 h.f1))
  t ← inner rd
  give (variable_length 1 (suc (high_bits 4 h.f0)) (suc (low_bits 4 h.f1)) t)
read_variable rd h false = do
  t ← inner rd
  give (variable_length 0 0 0 t)

-- class 10: only the dimensions are kept
unfoldable pub read_array : Reader Datatype → (version : ℕ) → Reader Datatype
read_array rd v = do
  x ← bytes (1 + reserved_bytes_of v)
  b ← bytes (4 * get_or x 0 0 + permutation_bytes_of v (get_or x 0 0))
  piece (take (4 * get_or x 0 0) b)
  t ← inner rd
  give (array (dimensions_from (get_or x 0 0) b) t)

-- the properties of a leaf; codes are checked before anything behind the header
unfoldable pub leaf_properties : Header → LeafKind → Reader Datatype
leaf_properties h isFixedPoint = do
  x ← numbers bit_widths
  give (leaf h.size (fixed_point (bit_at 0 h.f0) (bit_at 3 h.f0) (get_or x 0 0) (get_or x 1 0)))
leaf_properties h isFloatingPoint = do
  x ← numbers float_widths
  give (leaf h.size (floating_point (float_order_of h.f0) (float_layout x)))
leaf_properties h isTime = do
  x ← numbers time_widths
  give (leaf h.size (time (bit_at 0 h.f0) (get_or x 0 0)))
leaf_properties h is_string_of = do
  require (leb (low_bits 4 h.f0) 2) (BadPadding (low_bits 4 h.f0))
  require (leb (high_bits 4 h.f0) 1) (BadCharset (high_bits 4 h.f0))
  give (leaf h.size (string (low_bits 4 h.f0) (high_bits 4 h.f0)))
leaf_properties h isBitField = do
  x ← numbers bit_widths
  give (leaf h.size (bit_field (bit_at 0 h.f0) (get_or x 0 0) (get_or x 1 0)))
leaf_properties h isOpaque = do
  g ← bytes h.f0
  piece g
  skip (padding_to8 h.f0)
  give (leaf h.size (opaque g))
leaf_properties h isReference = do
  require (leb (low_bits 4 h.f0) 1) (BadReferenceKind (low_bits 4 h.f0))
  give (leaf h.size (reference (low_bits 4 h.f0)))

-- the properties of a class, over the reader of the messages inside
unfoldable pub read_properties : Reader Datatype → Header → Kind → Reader Datatype
read_properties rd h (is_leaf k) = leaf_properties h k
read_properties rd h isCompound = do
  require (ltb 0 (layout_version h)) (BadVersion h.class (layout_version h))
  require (leb (layout_version h) 4) (BadVersion h.class (layout_version h))
  ms ← read_members_of rd (layout_version h) h.size (count_of h)
  give (compound h.size ms)
read_properties rd h isEnumeration = do
  t ← inner rd
  bs ← read_names_of h.version (count_of h)
  ms ← read_values_of (type_size_of t) bs
  give (enumeration h.size t ms)
read_properties rd h isVariableLength = read_variable rd h (eqb (low_bits 4 h.f0) 1)
read_properties rd h isArray = do
  require (ltb 1 h.version) (BadVersion h.class h.version)
  require (leb h.version 3) (BadVersion h.class h.version)
  read_array rd h.version
read_properties rd h isUnknown = refuse (BadClass h.class)

-- "the size check comes last for each type"; "Reading gives the header's class, 11 included"
unfoldable pub sized : Header → Reader Datatype → Reader Datatype
sized h m = do
  t ← m
  require (ltb 0 (type_size_of t)) (ZeroSize h.class)
  give t

-- a message, with so many levels left
unfoldable pub read_type_of : (limit levels : ℕ) → Reader Datatype
read_type_of l zero = refuse TooDeep
read_type_of l (suc n) = do
  take_row
  h ← read_header l
  sized h (read_properties (read_type_of l n) h (class_kind h.class))

-- a type and the number of bytes that its message takes
pub record Read : Type 0 where
  pub type : Datatype
  pub consumed : ℕ

unfoldable pub read_outcome_of : Answer Datatype → Outcome Read
read_outcome_of (got t at s r p) = gives (record { type = t; consumed = at })
read_outcome_of (refused e) = refuses e

-- reading into so many rows and pool bytes
unfoldable pub reading_into : (limit rows pool : ℕ) → List ℕ → Outcome Read
reading_into l r p s = read_outcome_of (read_type_of l max_levels (length s) 0 s r p)

-- reading into a lent table and pool, of which no more counts than the limits
unfoldable pub reading : (limit words pool : ℕ) → List ℕ → Outcome Read
reading l n m s = reading_into l (min (n / 16) max_rows) (min m max_pool) s

-- "What isn't used is zero"; "A refused reading leaves table and pool all zero"
unfoldable pub table_after : (words : ℕ) → Outcome Read → List ℕ
table_after n (gives x) = table_of n x.type
table_after n (refuses e) = padded n []

unfoldable pub pool_after : (bytes : ℕ) → Outcome Read → List ℕ
pool_after n (gives x) = pool_of n x.type
pool_after n (refuses e) = padded n []

-- Demand 3: what the message written for a type reads as, if this is the first header version above the limit: TooNew with that
-- version, or "that same type", "its length is the count consumed"
unfoldable pub reads_back : (above : Option ℕ) → Datatype → (length : ℕ) → Outcome Read
reads_back none t n = gives (record { type = t; consumed = n })
reads_back (some v) t n = refuses (TooNew v)
