-- The message of a type in editions 1 to 3, what can be stored, and what an edition carries.
use Rattle.std.specs.Prelude.{ℕ, zero, suc, ◌+◌, ◌-◌, ◌*◌, ◌/◌, ◌%◌, ◌^◌, Bool, true, false, cond, ◌&&◌, ◌||◌, List, [], ◌∷◌, ◌++◌, length, leb, ltb, eqb}
use Rattle.std.proofs.Math.Option.{Option, none, some}
use Rattle.refusal.specs.declared.Refusal.TheVariants.{NoSuchEdition, Unstorable, NotInEdition, NoRoom}
use Rattle.format.specs.Bytes.{little_endian, zeros, padding_to8, pack_numbers, dimension_bytes}
use Rattle.format.specs.Bits.{class_and_version_of, fixed_flags_of, float_flags_of, nibbles}
use Rattle.format.specs.Utf8.{well_formed}
use Rattle.format.specs.Datatype.{Leaf, float_numbers, fixed_point, floating_point, time, string, bit_field, opaque, reference, Datatype, leaf, compound, enumeration, variable_length, array, Members, no_members, member, EnumMember, member_count_of, type_size_of, enum_values}
use Rattle.format.specs.Outcome.{Outcome, gives, when_given, unless, needed}
use Rattle.format.specs.Table.{all_below, type_of}

-- `build_header`: class and version, three flag bytes of which the third is 0, size
unfoldable pub header : (class version f0 f1 size : ℕ) → List ℕ
header c v f0 f1 size = class_and_version_of c v ∷ f0 ∷ f1 ∷ 0 ∷ little_endian 4 size

-- bytes behind a name whose length with its NUL is n: "Names are padded below version 3"
unfoldable pub name_padding_of : (version n : ℕ) → ℕ
name_padding_of v n = cond (ltb v 3) (padding_to8 n) 0

-- a member's offset: "Versions 1 and 2: offset 4"; versions 3 and 4: "width 1 for size up to 255, 2 up to 65,535, else 4"
unfoldable pub offset_width : (version size : ℕ) → ℕ
offset_width v size = cond (ltb v 3) 4 (cond (leb size 255) 1 (cond (leb size 65535) 2 4))

-- "version 1 then skips 28 bytes"
unfoldable pub skipped_bytes_of : (version : ℕ) → ℕ
skipped_bytes_of v = cond (leb v 1) 28 0

-- "version 2 has rank 1, reserved 3, dimensions 4 each, as many bytes of permutation again; version 3 has rank 1 and dimensions"
unfoldable pub reserved_bytes_of : (version : ℕ) → ℕ
reserved_bytes_of v = cond (ltb v 3) 3 0

unfoldable pub permutation_bytes_of : (version rank : ℕ) → ℕ
permutation_bytes_of v k = cond (ltb v 3) (4 * k) 0

-- a name with its NUL and padding
unfoldable pub name_bytes : (version : ℕ) → List ℕ → List ℕ
name_bytes v b = b ++ (0 ∷ zeros (name_padding_of v (length b + 1)))

unfoldable pub enum_name_bytes : (version : ℕ) → List EnumMember → List ℕ
enum_name_bytes v [] = []
enum_name_bytes v (m ∷ ms) = name_bytes v m.name ++ enum_name_bytes v ms

unfoldable pub array_bytes : (version : ℕ) (dimensions : List ℕ) → List ℕ
array_bytes v ds = (little_endian 1 (length ds) ++ zeros (reserved_bytes_of v)) ++ (dimension_bytes ds ++ zeros (permutation_bytes_of v (length ds)))

-- "offset 2, precision 2"
abbrev pub bit_widths : List ℕ
bit_widths = 2 ∷ 2 ∷ []

-- "offset 2, precision 2, exponent place and size, mantissa place and size 1 each, bias 4"
abbrev pub float_widths : List ℕ
float_widths = 2 ∷ 2 ∷ 1 ∷ 1 ∷ 1 ∷ 1 ∷ 4 ∷ []

-- "precision 2"
abbrev pub time_widths : List ℕ
time_widths = 2 ∷ []

-- a present padding or charset without its offset by one
unfoldable pub code_of : ℕ → ℕ
code_of zero = 0
code_of (suc k) = k

-- a variable-length type's flag bytes: a sequence has none
unfoldable pub variable_flags : (is_string_of padding : ℕ) → ℕ
variable_flags zero a = 0
variable_flags (suc i) a = nibbles 1 (code_of a)

unfoldable pub variable_charset : (is_string_of charset : ℕ) → ℕ
variable_charset zero c = 0
variable_charset (suc i) c = code_of c

-- a leaf's message: version 1 in every edition
unfoldable pub leaf_message : (size : ℕ) → Leaf → List ℕ
leaf_message n (fixed_point order signed offset precision) = header 0 1 (fixed_flags_of order signed) 0 n ++ pack_numbers bit_widths (offset ∷ precision ∷ [])
leaf_message n (floating_point order layout) = header 1 1 (float_flags_of order) ((n * 8 - 1) % 256) n ++ pack_numbers float_widths (float_numbers layout)
leaf_message n (time order precision) = header 2 1 order 0 n ++ pack_numbers time_widths (precision ∷ [])
leaf_message n (string padding charset) = header 3 1 (nibbles padding charset) 0 n
leaf_message n (bit_field order offset precision) = header 4 1 order 0 n ++ pack_numbers bit_widths (offset ∷ precision ∷ [])
leaf_message n (opaque tag) = header 5 1 (length tag) 0 n ++ (tag ++ zeros (padding_to8 (length tag)))
leaf_message n (reference kind) = header 7 1 kind 0 n

unfoldable mutual
  -- "Edition 3 equals `serialize`: classes 6, 8, 10 in version 3, all others 1. Edition 2 writes 6, 8, 10 in version 2; edition 1 writes
  -- version 1 throughout. Padding, reserved, permutation and skipped bytes are zero."
  pub message : (edition : ℕ) → Datatype → List ℕ
  message e (leaf n x) = leaf_message n x
  message e (compound n ms) = header 6 e (member_count_of ms % 256) (member_count_of ms / 256) n ++ member_bytes e n ms
  message e (enumeration n t ms) = header 8 e (length ms % 256) (length ms / 256) n ++ (message e t ++ (enum_name_bytes e ms ++ enum_values ms))
  message e (variable_length i a c t) = header 9 1 (variable_flags i a) (variable_charset i c) 16 ++ message e t
  message e (array ds t) = header 10 e 0 0 (type_size_of (array ds t)) ++ (array_bytes e ds ++ message e t)

  -- "Each member is a name ending in NUL, an offset and a message"
  pub member_bytes : (edition size : ℕ) → Members → List ℕ
  member_bytes e n no_members = []
  member_bytes e n (member b o t ms) =
      name_bytes e b ++ (little_endian (offset_width e n) o ++ (zeros (skipped_bytes_of e) ++ (message e t ++ member_bytes e n ms)))

-- bytes of a name with its NUL and padding
unfoldable pub name_length_of : (version : ℕ) → List ℕ → ℕ
name_length_of v b = length b + 1 + name_padding_of v (length b + 1)

unfoldable pub enum_name_length : (version : ℕ) → List EnumMember → ℕ
enum_name_length v [] = 0
enum_name_length v (m ∷ ms) = name_length_of v m.name + enum_name_length v ms

unfoldable pub leaf_message_length : Leaf → ℕ
leaf_message_length (fixed_point order signed offset precision) = 12
leaf_message_length (floating_point order layout) = 20
leaf_message_length (time order precision) = 10
leaf_message_length (string padding charset) = 8
leaf_message_length (bit_field order offset precision) = 12
leaf_message_length (opaque tag) = 8 + (length tag + padding_to8 (length tag))
leaf_message_length (reference kind) = 8

unfoldable mutual
  -- the length of the message, without its bytes
  pub message_length : (edition : ℕ) → Datatype → ℕ
  message_length e (leaf n x) = leaf_message_length x
  message_length e (compound n ms) = 8 + members_length e n ms
  message_length e (enumeration n t ms) = 8 + (message_length e t + (enum_name_length e ms + length (enum_values ms)))
  message_length e (variable_length i a c t) = 8 + message_length e t
  message_length e (array ds t) = 8 + (1 + reserved_bytes_of e + (4 * length ds + permutation_bytes_of e (length ds)) + message_length e t)

  pub members_length : (edition size : ℕ) → Members → ℕ
  members_length e n no_members = 0
  members_length e n (member b o t ms) = name_length_of e b + (offset_width e n + (skipped_bytes_of e + (message_length e t + members_length e n ms)))

unfoldable mutual
  -- "Its headers are its own and those of every message inside it": their versions, in message order
  pub versions : (edition : ℕ) → Datatype → List ℕ
  versions e (leaf n x) = 1 ∷ []
  versions e (compound n ms) = e ∷ member_versions e ms
  versions e (enumeration n t ms) = e ∷ versions e t
  versions e (variable_length i a c t) = 1 ∷ versions e t
  versions e (array ds t) = e ∷ versions e t

  pub member_versions : (edition : ℕ) → Members → List ℕ
  member_versions e no_members = []
  member_versions e (member b o t ms) = versions e t ++ member_versions e ms

-- "one passes a limit if its version is the greater, and TooNew bears the version of the first that does"
unfoldable pub first_above : (limit : ℕ) → List ℕ → Option ℕ
first_above l [] = none
first_above l (v ∷ vs) = cond (leb v l) (first_above l vs) (some v)

-- every test is passed
unfoldable pub all : List Bool → Bool
all [] = true
all (b ∷ bs) = b && all bs

unfoldable pub no_nul : List ℕ → Bool
no_nul [] = true
no_nul (b ∷ s) = ltb 0 b && no_nul s

-- "no greater than its bits there can hold"
unfoldable pub fit : (widths numbers : List ℕ) → Bool
fit [] [] = true
fit [] (n ∷ ns) = false
fit (w ∷ ws) [] = false
fit (w ∷ ws) (n ∷ ns) = ltb n (256 ^ w) && fit ws ns

-- "names valid UTF-8 without NUL; enumeration values as long as the base"
unfoldable pub storable_enum : (baseSize : ℕ) → List EnumMember → Bool
storable_enum n [] = true
storable_enum n (m ∷ ms) = all (no_nul m.name ∷ well_formed m.name ∷ eqb (length m.value) n ∷ storable_enum n ms ∷ [])

-- "padding and charset of a variable-length type present exactly if it is a string"
unfoldable pub storable_variable : (is_string_of padding charset : ℕ) → Bool
storable_variable i a c = (eqb i 0 && (eqb a 0 && eqb c 0)) || (eqb i 1 && ((ltb 0 a && ltb a 4) && (ltb 0 c && ltb c 3)))

-- a leaf's codes and numbers; "float size at most 536,870,911", "VAX only in floats"
unfoldable pub storable_leaf : (size : ℕ) → Leaf → Bool
storable_leaf n (fixed_point order signed offset precision) = all (ltb order 2 ∷ ltb signed 2 ∷ fit bit_widths (offset ∷ precision ∷ []) ∷ [])
storable_leaf n (floating_point order layout) = all (leb n 536870911 ∷ ltb order 3 ∷ fit float_widths (float_numbers layout) ∷ [])
storable_leaf n (time order precision) = all (ltb order 2 ∷ fit time_widths (precision ∷ []) ∷ [])
storable_leaf n (string padding charset) = all (ltb padding 3 ∷ ltb charset 2 ∷ [])
storable_leaf n (bit_field order offset precision) = all (ltb order 2 ∷ fit bit_widths (offset ∷ precision ∷ []) ∷ [])
storable_leaf n (opaque tag) = ltb (length tag) 256
storable_leaf n (reference kind) = ltb kind 2

unfoldable mutual
  -- "Storable". "each offset at most 255, 65,535 or 4,294,967,295 by the width above": the width of edition 3, in every edition
  pub storable : Datatype → Bool
  storable (leaf n x) = all (ltb 0 n ∷ ltb n (2 ^ 32) ∷ storable_leaf n x ∷ [])
  storable (compound n ms) = all (ltb 0 n ∷ ltb n (2 ^ 32) ∷ ltb (member_count_of ms) (2 ^ 16) ∷ storable_members n ms ∷ [])
  storable (enumeration n t ms) = all (ltb 0 n ∷ ltb n (2 ^ 32) ∷ ltb (length ms) (2 ^ 16) ∷ storable_enum (type_size_of t) ms ∷ storable t ∷ [])
  storable (variable_length i a c t) = all (storable_variable i a c ∷ storable t ∷ [])
  storable (array ds t) = all (ltb (length ds) 256 ∷ ltb 0 (type_size_of (array ds t)) ∷ all_below (2 ^ 32) ds ∷ storable t ∷ [])

  pub storable_members : (size : ℕ) → Members → Bool
  storable_members n no_members = true
  storable_members n (member b o t ms) =
      all (no_nul b ∷ well_formed b ∷ ltb o (256 ^ offset_width 3 n) ∷ storable t ∷ storable_members n ms ∷ [])

unfoldable mutual
  -- "an edition can carry it unless 15 meets it": "edition 1 carries no array"
  pub carried : (edition : ℕ) → Datatype → Bool
  carried e (leaf n x) = true
  carried e (compound n ms) = carried_members e ms
  carried e (enumeration n t ms) = carried e t
  carried e (variable_length i a c t) = carried e t
  carried e (array ds t) = ltb 1 e && carried e t

  pub carried_members : (edition : ℕ) → Members → Bool
  carried_members e no_members = true
  carried_members e (member b o t ms) = carried e t && carried_members e ms

-- the names of an enumeration are valid UTF-8
unfoldable pub valid_enum_names : List EnumMember → Bool
valid_enum_names [] = true
valid_enum_names (m ∷ ms) = well_formed m.name && valid_enum_names ms

unfoldable mutual
  -- every name in a type is valid UTF-8
  pub valid_names : Datatype → Bool
  valid_names (leaf n x) = true
  valid_names (compound n ms) = valid_member_names ms
  valid_names (enumeration n t ms) = valid_enum_names ms && valid_names t
  valid_names (variable_length i a c t) = valid_names t
  valid_names (array ds t) = valid_names t

  pub valid_member_names : Members → Bool
  valid_member_names no_members = true
  valid_member_names (member b o t ms) = well_formed b && (valid_names t && valid_member_names ms)

-- writing a type into so much room: refusals 13, 14, 15 and 21, in this order
unfoldable pub writing_type : (edition room : ℕ) → Datatype → Outcome (List ℕ)
writing_type e room t =
    unless (leb 1 e && leb e 3) NoSuchEdition
    (unless (storable t) Unstorable
    (unless (carried e t) NotInEdition
    (unless (leb (length (message e t)) room) (NoRoom (needed (length (message e t)))) (gives (message e t)))))

-- writing the type that a table and pool set out: refusal 1 first
unfoldable pub writing : (table pool : List ℕ) (edition room : ℕ) → Outcome (List ℕ)
writing table pool e room = when_given (type_of table pool) (writing_type e room)
