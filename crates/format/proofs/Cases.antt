-- Document 01's starred cases, as one table, by computation.
use Prim.Native.Nat.{ℕ, zero, suc, ◌+◌, ◌*◌}
use mathlib.Core.Path.{◌≡◌, refl}
use mathlib.Core.Bool.{Bool, true, false, cond}
use mathlib.Core.List.{List, [], ◌∷◌, ◌++◌}
use lib.ListN.{length}
use Rattle.refusal.specs.Refusal.{number_of, values_of}
use Rattle.format.specs.Bytes.{little_endian, number_from, zeros, padded, all_zero, padding_to8, one_more_of, first_nul, total_width, pack_numbers, unpack_numbers, dimension_bytes, dimensions_from}
use Rattle.format.specs.Bits.{low_bits, high_bits, join_bits, bit_at, class_and_version_of, fixed_flags_of, float_flags_of, float_order_of, nibbles}
use Rattle.format.specs.Utf8.{up_to, leads, replacement, begin, broken, going, step, at_end, mended_from, mended, is_ready, well_formed_from, well_formed}
use Rattle.format.specs.Datatype.{float_numbers, float_layout, fixed_point, string, opaque, reference, leaf_class, leaf_pool, refers, Datatype, leaf, compound, enumeration, variable_length, array, no_members, member, member_count_of, product, type_size_of, class_number, row_count, enum_names, enum_values, pool_bytes}
use Rattle.format.specs.Outcome.{Outcome, gives, refuses, when_given, unless, needed}
use Rattle.format.specs.Table.{row, compound_row, enumeration_row, variable_length_row, array_row, member_row, enum_member_row, enum_rows, columns_of, leaf_row, rows, leaf_known, all_below, and_then, test, words_at, next_row_of, next_piece, same_words, members_at, enum_names_at, enum_values_at, kind_of, tag_at, leaf_of, type_from, type_at, whole_type, type_of, table_of, pool_of}
use Rattle.format.specs.Message.{header, name_padding_of, offset_width, skipped_bytes_of, reserved_bytes_of, permutation_bytes_of, name_bytes, enum_name_bytes, array_bytes, code_of, variable_flags, variable_charset, leaf_message, message, name_length_of, enum_name_length, leaf_message_length, message_length, all, no_nul, fit, storable_enum, storable_variable, storable_leaf, storable, carried, writing_type, writing}
use Rattle.format.specs.Reading.{Read, then, require, bytes, skip, number, numbers, name_to, name, take_row, piece, moved, inner, header_of_lem, read_header, class_kind, layout_version, count_of, read_name_of, read_members_of, read_names_of, read_values_of, read_variable, read_array, leaf_properties, read_properties, sized, read_type_of, read_outcome_of, reading_into, reading}
use Rattle.format.specs.Sizes.{sizing, holds_object_address}
use Rattle.format.specs.Slots.{is_slot, shifted, entries, slots, holds_other_reference, holds_hidden_reference, some_outside_of, unmapped, or_else, zero_class, first_zero, unless_zero, slotting, finding_slots}
use Rattle.format.specs.Image.{leaf_ends, ends, field_of, move_field, move_fields, field_entries, fields_of, no_nul_between, owned_by, counted_by, some_field, counted_in, taken_in, image_from, counts as countsAt, taken, image, agree}
use Rattle.format.specs.Ownership.{in_entries, owned, outside, heap_held, admitting, comparing_records, comparing}

-- all definitions that a computed case opens
unfoldable pub computing : Unit {0}
unfolding little_endian number_from zeros padded all_zero padding_to8 one_more_of first_nul total_width pack_numbers unpack_numbers dimension_bytes dimensions_from low_bits high_bits join_bits bit_at class_and_version_of fixed_flags_of float_flags_of float_order_of nibbles up_to leads replacement begin broken going step at_end mended_from mended is_ready well_formed_from well_formed member_count_of product type_size_of class_number row_count enum_names enum_values float_numbers float_layout leaf_class leaf_pool refers pool_bytes when_given unless needed row compound_row enumeration_row variable_length_row array_row member_row enum_member_row enum_rows columns_of leaf_row rows leaf_known all_below and_then test words_at next_row_of next_piece same_words members_at enum_names_at enum_values_at kind_of tag_at leaf_of type_from type_at whole_type type_of table_of pool_of header name_padding_of offset_width skipped_bytes_of reserved_bytes_of permutation_bytes_of name_bytes enum_name_bytes array_bytes code_of variable_flags variable_charset leaf_message message name_length_of enum_name_length leaf_message_length message_length all no_nul fit storable_enum storable_variable storable_leaf storable carried writing_type writing then require bytes skip number numbers name_to name take_row piece moved inner header_of_lem read_header class_kind layout_version count_of read_name_of read_members_of read_names_of read_values_of read_variable read_array leaf_properties read_properties sized read_type_of read_outcome_of reading_into reading sizing holds_object_address is_slot shifted entries slots holds_other_reference holds_hidden_reference some_outside_of unmapped or_else zero_class first_zero unless_zero slotting finding_slots in_entries owned outside heap_held leaf_ends ends field_of move_field move_fields field_entries fields_of no_nul_between owned_by counted_by some_field counted_in taken_in image_from countsAt taken image agree admitting comparing_records comparing
computing = tt

-- what is asked. All but the first are asked of the type that a message gives
pub data Question : Type 0 where
  -- reading under a limit: the count consumed, then the table's words and the pool's bytes
  reads : (limit : ℕ) (message : List ℕ) → Question
  -- the message that an edition writes, and how many bytes it has
  writes counts : (edition : ℕ) (message : List ℕ) → Question
  -- 0 if two records are the same, 1 if they differ
  compares : (message a b : List ℕ) → Question
  sizes finds : (message : List ℕ) → Question

-- a type's words and its pool bytes
unfoldable pub set_out_of : Datatype → List ℕ
set_out_of t = rows 0 t ++ pool_bytes t

-- a table of 1,024 rows and a pool of 65,536 bytes
unfoldable pub read_here : (limit : ℕ) → List ℕ → Outcome Read
read_here l s = reading l (16 * 1024) 65536 s

-- a call on the table and pool that hold the type of a message, with a row and 8 pool bytes to spare
unfoldable pub on_table : {A : Type 0} → List ℕ → ((table pool : List ℕ) → Outcome A) → Outcome A
on_table s call = when_given (read_here 15 s) λ x. call (table_of (16 * row_count x.type + 16) x.type) (pool_of (length (pool_bytes x.type) + 8) x.type)

unfoldable pub ask : Question → Outcome (List ℕ)
ask (reads l s) = when_given (read_here l s) λ x. gives (x.consumed ∷ set_out_of x.type)
ask (writes e s) = on_table s λ table pool. writing table pool e 1024
ask (counts e s) = on_table s λ table pool. when_given (writing table pool e 1024) λ b. gives (length b ∷ [])
ask (compares s a b) = on_table s λ table pool. when_given (comparing table pool a b) λ same. gives (cond same 0 1 ∷ [])
ask (sizes s) = on_table s λ table pool. when_given (sizing table pool) λ n. gives (n ∷ [])
ask (finds s) = on_table s λ table pool. finding_slots table pool 1024

-- 0 and the result, or document 01's number of the refusal and its values
unfoldable pub answer : Outcome (List ℕ) → List ℕ
answer (gives ns) = 0 ∷ ns
answer (refuses e) = number_of e ∷ values_of e

pub record Case : Type 0 where
  pub question : Question
  pub says : List ℕ

unfoldable pub answers : List Case → List (List ℕ)
answers [] = []
answers (c ∷ cs) = answer (ask c.question) ∷ answers cs

unfoldable pub expected : List Case → List (List ℕ)
expected [] = []
expected (c ∷ cs) = c.says ∷ expected cs

abbrev pub U1 : List ℕ
U1 = 0x10 ∷ 0 ∷ 0 ∷ 0 ∷ 1 ∷ 0 ∷ 0 ∷ 0 ∷ 0 ∷ 0 ∷ 8 ∷ 0 ∷ []

abbrev pub U2 : List ℕ
U2 = 0x10 ∷ 0 ∷ 0 ∷ 0 ∷ 2 ∷ 0 ∷ 0 ∷ 0 ∷ 0 ∷ 0 ∷ 0x10 ∷ 0 ∷ []

abbrev pub R : List ℕ
R = 0x17 ∷ 0 ∷ 0 ∷ 0 ∷ 8 ∷ 0 ∷ 0 ∷ 0 ∷ []

abbrev pub P : List ℕ
P = 0x36 ∷ 2 ∷ 0 ∷ 0 ∷ 4 ∷ 0 ∷ 0 ∷ 0 ∷ 0x61 ∷ 0 ∷ 0 ∷ (U1 ++ (0x62 ∷ 0 ∷ 2 ∷ U2))

abbrev pub type_p : Datatype
type_p = compound 4 (member (0x61 ∷ []) 0 (leaf 1 (fixed_point 0 0 0 8)) (member (0x62 ∷ []) 2 (leaf 2 (fixed_point 0 0 0 16)) no_members))

abbrev pub seven_zeros : List ℕ
seven_zeros = 0 ∷ 0 ∷ 0 ∷ 0 ∷ 0 ∷ 0 ∷ 0 ∷ []

-- an array of two references
abbrev pub two_r : List ℕ
two_r = 0x3a ∷ (seven_zeros ++ (1 ∷ 2 ∷ 0 ∷ 0 ∷ 0 ∷ R))

unfoldable pub starred : List Case
starred =
    record { question = reads 15 []; says = 4 ∷ 8 ∷ 0 ∷ [] }
    ∷ record { question = reads 15 U1; says = 0 ∷ 12 ∷ set_out_of (leaf 1 (fixed_point 0 0 0 8)) }
    ∷ record { question = reads 15 (0x15 ∷ 3 ∷ 0 ∷ 0 ∷ 5 ∷ 0 ∷ 0 ∷ 0 ∷ 0x61 ∷ 0x62 ∷ 0x63 ∷ []); says = 0 ∷ 16 ∷ set_out_of (leaf 5 (opaque (0x61 ∷ 0x62 ∷ 0x63 ∷ []))) }
    ∷ record { question = reads 15 (0x1c ∷ seven_zeros); says = 6 ∷ 12 ∷ [] }
    ∷ record { question = reads 15 (0x06 ∷ seven_zeros); says = 7 ∷ 6 ∷ 0 ∷ [] }
    ∷ record { question = reads 15 (0x13 ∷ 0x23 ∷ 0 ∷ 0 ∷ 1 ∷ 0 ∷ 0 ∷ 0 ∷ []); says = 8 ∷ 3 ∷ [] }
    ∷ record { question = reads 15 (0x13 ∷ 0x20 ∷ 0 ∷ 0 ∷ 1 ∷ 0 ∷ 0 ∷ 0 ∷ []); says = 9 ∷ 2 ∷ [] }
    ∷ record { question = reads 15 P; says = 0 ∷ 38 ∷ set_out_of type_p }
    ∷ record { question = writes 3 P; says = 0 ∷ P }
    ∷ record { question = counts 3 P; says = 0 ∷ 38 ∷ [] }
    ∷ record { question = counts 2 P; says = 0 ∷ 56 ∷ [] }
    ∷ record { question = counts 1 P; says = 0 ∷ 112 ∷ [] }
    ∷ record { question = reads 2 P; says = 5 ∷ 3 ∷ [] }
    ∷ record { question = compares P (0x01 ∷ 0xff ∷ 0x05 ∷ 0x00 ∷ []) (0x01 ∷ 0x00 ∷ 0x05 ∷ 0x00 ∷ []); says = 0 ∷ 0 ∷ [] }
    ∷ record { question = compares P (0x01 ∷ 0xff ∷ 0x05 ∷ 0x00 ∷ []) (0x02 ∷ 0x00 ∷ 0x05 ∷ 0x00 ∷ []); says = 0 ∷ 1 ∷ [] }
    ∷ record { question = compares P (0x01 ∷ 0x00 ∷ 0x05 ∷ 0x00 ∷ []) (0x02 ∷ 0x00 ∷ 0x05 ∷ 0x00 ∷ []); says = 0 ∷ 1 ∷ [] }
    ∷ record { question = reads 15 (0x3a ∷ (seven_zeros ++ (1 ∷ 0 ∷ 0 ∷ 0 ∷ 0 ∷ U1))); says = 12 ∷ 10 ∷ [] }
    ∷ record { question = reads 15 two_r; says = 0 ∷ 21 ∷ set_out_of (array (2 ∷ []) (leaf 8 (reference 0))) }
    ∷ record { question = sizes two_r; says = 0 ∷ 16 ∷ [] }
    ∷ record { question = finds two_r; says = 0 ∷ 0 ∷ 8 ∷ [] }
    ∷ []

pub starred-cases : answers starred ≡ expected starred
unfolding answers expected starred ask answer read_here on_table set_out_of computing
starred-cases = refl

-- the document's two cases of bounds that are not starred
unfoldable pub sequences : ℕ → List ℕ
sequences zero = R
sequences (suc n) = 0x19 ∷ 0 ∷ 0 ∷ 0 ∷ 16 ∷ 0 ∷ 0 ∷ 0 ∷ sequences n

unfoldable pub sequence_type : ℕ → Datatype
sequence_type zero = leaf 8 (reference 0)
sequence_type (suc n) = variable_length 0 0 0 (sequence_type n)

unfoldable pub others : List Case
others =
    record { question = sizes (0x3a ∷ (seven_zeros ++ (2 ∷ 0 ∷ 0 ∷ 1 ∷ 0 ∷ 0 ∷ 0 ∷ 1 ∷ 0 ∷ U1))); says = 0 ∷ 4294967295 ∷ [] }
    ∷ record { question = reads 15 (sequences 31); says = 0 ∷ 256 ∷ set_out_of (sequence_type 31) }
    ∷ record { question = reads 15 (sequences 32); says = 2 ∷ [] }
    ∷ []

pub other_cases : answers others ≡ expected others
unfolding answers expected others sequences sequence_type ask answer read_here on_table set_out_of computing
other_cases = refl

-- Document 01's "Errors that sound reasonable": a nested Short is counted in the nested message; a compound of size 0 whose member is
-- lacking is Short; an enumeration of size 2 over a base of size 1 is compared in both bytes
unfoldable pub reasonable : List Case
reasonable =
    record { question = reads 15 (0x36 ∷ 1 ∷ 0 ∷ 0 ∷ 4 ∷ 0 ∷ 0 ∷ 0 ∷ 0x61 ∷ 0 ∷ 0 ∷ 0x10 ∷ 0 ∷ []); says = 4 ∷ 8 ∷ 2 ∷ [] }
    ∷ record { question = reads 15 (0x36 ∷ 1 ∷ 0 ∷ 0 ∷ 0 ∷ 0 ∷ 0 ∷ 0 ∷ 0x61 ∷ 0 ∷ 0 ∷ []); says = 4 ∷ 8 ∷ 0 ∷ [] }
    ∷ record { question = compares (0x38 ∷ 0 ∷ 0 ∷ 0 ∷ 2 ∷ 0 ∷ 0 ∷ 0 ∷ U1) (0 ∷ 0 ∷ []) (0 ∷ 1 ∷ []); says = 0 ∷ 1 ∷ [] }
    ∷ []

pub reasonable-cases : answers reasonable ≡ expected reasonable
unfolding answers expected reasonable ask answer read_here on_table set_out_of computing
reasonable-cases = refl

-- Document 02, N2: two records of a type, and whether they are the same
pub record Pair : Type 0 where
  pub type : Datatype
  pub first : List ℕ
  pub second : List ℕ
  pub same : Bool

unfoldable pub agreements : List Pair → List Bool
agreements [] = []
agreements (x ∷ xs) = agree x.type x.first x.second ∷ agreements xs

unfoldable pub said_same : List Pair → List Bool
said_same [] = []
said_same (x ∷ xs) = x.same ∷ said_same xs

-- a NUL-terminated string, and a compound of two members
abbrev pub nul_string : ℕ → Datatype
nul_string n = leaf n (string 0 0)

abbrev pub two_members : (size o : ℕ) (t : Datatype) (p : ℕ) (u : Datatype) → Datatype
two_members n o t p u = compound n (member (0x61 ∷ []) o t (member (0x62 ∷ []) p u no_members))

-- entries of an array by themselves; strings that overlap; a string and a number; a string and an array of strings; an enumeration over a
-- string, and a NUL-padded one; strings without a NUL, and with one at the start
unfoldable pub names : List Pair
names =
    record { type = array (2 ∷ []) (nul_string 2); first = 0x00 ∷ 0x58 ∷ 0x62 ∷ 0x00 ∷ []; second = 0x00 ∷ 0x59 ∷ 0x62 ∷ 0x00 ∷ []; same = true }
    ∷ record { type = array (2 ∷ []) (nul_string 2); first = 0x00 ∷ 0x58 ∷ 0x62 ∷ 0x00 ∷ []; second = 0x00 ∷ 0x58 ∷ 0x63 ∷ 0x00 ∷ []; same = false }
    ∷ record { type = two_members 6 0 (nul_string 4) 2 (nul_string 4); first = 0x41 ∷ 0x00 ∷ 0x42 ∷ 0x00 ∷ 0x55 ∷ 0x66 ∷ []; second = 0x41 ∷ 0x00 ∷ 0x42 ∷ 0x00 ∷ 0x77 ∷ 0x88 ∷ []; same = true }
    ∷ record { type = two_members 6 0 (nul_string 4) 2 (nul_string 4); first = 0x41 ∷ 0x00 ∷ 0x42 ∷ 0x43 ∷ 0x55 ∷ 0x66 ∷ []; second = 0x41 ∷ 0x00 ∷ 0x42 ∷ 0x44 ∷ 0x55 ∷ 0x66 ∷ []; same = false }
    ∷ record { type = two_members 6 0 (nul_string 4) 2 (nul_string 4); first = 0x41 ∷ 0x00 ∷ 0x00 ∷ 0x43 ∷ 0x55 ∷ 0x66 ∷ []; second = 0x41 ∷ 0x00 ∷ 0x00 ∷ 0x99 ∷ 0x98 ∷ 0x97 ∷ []; same = true }
    ∷ record { type = two_members 4 0 (nul_string 4) 3 (leaf 1 (fixed_point 0 0 0 8)); first = 0x41 ∷ 0x00 ∷ 0x42 ∷ 0x01 ∷ []; second = 0x41 ∷ 0x00 ∷ 0x43 ∷ 0x01 ∷ []; same = true }
    ∷ record { type = two_members 4 0 (nul_string 4) 3 (leaf 1 (fixed_point 0 0 0 8)); first = 0x41 ∷ 0x00 ∷ 0x42 ∷ 0x01 ∷ []; second = 0x41 ∷ 0x00 ∷ 0x43 ∷ 0x02 ∷ []; same = false }
    ∷ record { type = two_members 6 0 (nul_string 4) 2 (array (2 ∷ []) (nul_string 2)); first = 0x41 ∷ 0x00 ∷ 0x00 ∷ 0x58 ∷ 0x62 ∷ 0x00 ∷ []; second = 0x41 ∷ 0x00 ∷ 0x00 ∷ 0x59 ∷ 0x62 ∷ 0x00 ∷ []; same = true }
    ∷ record { type = two_members 6 0 (nul_string 4) 2 (array (2 ∷ []) (nul_string 2)); first = 0x41 ∷ 0x00 ∷ 0x42 ∷ 0x58 ∷ 0x62 ∷ 0x00 ∷ []; second = 0x41 ∷ 0x00 ∷ 0x42 ∷ 0x59 ∷ 0x62 ∷ 0x00 ∷ []; same = false }
    ∷ record { type = enumeration 4 (nul_string 4) []; first = 0x41 ∷ 0x00 ∷ 0x42 ∷ 0x01 ∷ []; second = 0x41 ∷ 0x00 ∷ 0x43 ∷ 0x01 ∷ []; same = false }
    ∷ record { type = leaf 4 (string 1 0); first = 0x41 ∷ 0x00 ∷ 0x42 ∷ 0x01 ∷ []; second = 0x41 ∷ 0x00 ∷ 0x43 ∷ 0x01 ∷ []; same = false }
    ∷ record { type = nul_string 2; first = 0x41 ∷ 0x42 ∷ []; second = 0x41 ∷ 0x43 ∷ []; same = false }
    ∷ record { type = nul_string 2; first = 0x41 ∷ 0x42 ∷ []; second = 0x41 ∷ 0x00 ∷ []; same = false }
    ∷ record { type = nul_string 4; first = 0x00 ∷ 0x42 ∷ 0x43 ∷ 0x44 ∷ []; second = 0x00 ∷ 0x00 ∷ 0x00 ∷ 0x00 ∷ []; same = true }
    ∷ []

pub names-compared : agreements names ≡ said_same names
unfolding agreements said_same names computing
names-compared = refl
