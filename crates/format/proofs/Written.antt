-- What is written: how long the message is, that it consists of bytes, and what writing answers, refusal by refusal.
use Prim.Native.Nat.{ℕ, zero, suc, ◌-◌, ◌*◌, ◌/◌, ◌%◌, ◌<◌, ◌≤◌}
use mathlib.Core.Path.{◌≡◌, refl, ◌∙◌}
use mathlib.Core.Logic.{◌⊎◌, inl, inr}
use mathlib.Core.Bool.{true, false, ◌&&◌}
use mathlib.Core.List.{List, [], ◌∷◌, ◌++◌}
use native.Mathlib.Omega.{arith}
use lib.ListN.{length, length-append}
use lib.Dec.{leb}
use borrow.Author.Tests.{le-leb, lt-leb}
use Rattle.refusal.specs.declared.Refusal.TheVariants.{BadTable, NoSuchEdition, Unstorable, NotInEdition, NoRoom}
use Rattle.format.specs.Bytes.{little_endian, AllBytes, zeros, pack_numbers, dimension_bytes}
use Rattle.format.specs.Bits.{fixed_flags_of, float_flags_of, nibbles}
use Rattle.format.specs.Datatype.{float_numbers, Leaf, fixed_point, floating_point, time, string, bit_field, opaque, reference, leaf_pool, Datatype, leaf, compound, enumeration, variable_length, array, Members, no_members, member, EnumMember, enum_names, type_size_of, member_count_of, pool_bytes, member_pool}
use Rattle.format.specs.Message.{header, reserved_bytes_of, bit_widths, float_widths, time_widths, array_bytes, enum_name_bytes, enum_name_length, name_length_of, offset_width, skipped_bytes_of, name_bytes, variable_flags, variable_charset, code_of, leaf_message, message, member_bytes, leaf_message_length, message_length, members_length, storable, carried, writing_type, writing}
use Rattle.format.specs.Outcome.{gives, refuses, when_given, unless, needed}
use Rattle.format.specs.Table.{type_of}
use Rattle.format.proofs.Bits.{class_version_lt, nibbles-lt, fixed_flags_lt, float_flags_lt}
use Rattle.format.proofs.Bytes.{length-little_endian, length-zeros, length_dimensions, bytes-little_endian, bytes-zeros, bytes_append, bytes_left, bytes_right, bytes_packed, bytes_dimensions}
use Rattle.format.proofs.Facts.{StorableLeaf, Storable, StorableMembers, StorableVariable}
use Rattle.format.proofs.Steps.{length-header}
use Rattle.format.proofs.Storable.{storable_fact}

-- ---- the length

length-name : (e : ℕ) (b : List ℕ) → length (name_bytes e b) ≡ name_length_of e b
unfolding name_bytes name_length_of
length-name e b = simp (length-append, length-zeros) (omega arith)

length-names : (e : ℕ) (ms : List EnumMember) → length (enum_name_bytes e ms) ≡ enum_name_length e ms
unfolding enum_name_bytes enum_name_length
length-names e [] = refl
length-names e (m ∷ ms) = rw (length-append, length-name e m.name, length-names e ms)

ruleset lengths = (length-append, length-header, length-little_endian, length-zeros, length_dimensions, length-name, length-names)

length-leaf : (n : ℕ) (x : Leaf) → length (leaf_message n x) ≡ leaf_message_length x
unfolding leaf_message leaf_message_length pack_numbers float_numbers
length-leaf n (fixed_point o s f q) = simp lengths
length-leaf n (floating_point o y) = simp lengths
length-leaf n (time o q) = simp lengths
length-leaf n (string a c) = simp lengths
length-leaf n (bit_field o f q) = simp lengths
length-leaf n (opaque g) = simp lengths
length-leaf n (reference k) = simp lengths

mutual
  unfolding message message_length array_bytes

  -- the length that is measured is that of the bytes written
  pub length-message : (e : ℕ) (t : Datatype) → length (message e t) ≡ message_length e t
  length-message e (leaf n x) = length-leaf n x
  length-message e (compound n ms) = simp (lengths, length-members e n ms)
  length-message e (enumeration n t ms) = simp (lengths, length-message e t)
  length-message e (variable_length i a c t) = simp (lengths, length-message e t)
  length-message e (array ds t) = simp (lengths, length-message e t)

  pub length-members : (e n : ℕ) (ms : Members) → length (member_bytes e n ms) ≡ members_length e n ms
  length-members e n no_members = refl
  length-members e n (member b o t ms) = simp (lengths, length-message e t, length-members e n ms)

-- ---- every byte is below 256

bytes-header : (c v f0 f1 size : ℕ) → c < 16 → v < 16 → f0 < 256 → f1 < 256 → AllBytes (header c v f0 f1 size)
unfolding header AllBytes
bytes-header c v f0 f1 size hc hv h0 h1 = (class_version_lt c v hc hv, (h0, (h1, (omega arith, bytes-little_endian 4 size))))

bytes-name : (e : ℕ) (b : List ℕ) → AllBytes b → AllBytes (name_bytes e b)
unfolding name_bytes AllBytes
bytes-name e b h = bytes_append b _ h (omega arith, bytes-zeros _)

bytes-names : (e : ℕ) (ms : List EnumMember) → AllBytes (enum_names ms) → AllBytes (enum_name_bytes e ms)
unfolding enum_name_bytes enum_names AllBytes
bytes-names e [] h = tt
bytes-names e (m ∷ ms) h =
    bytes_append (name_bytes e m.name) _ (bytes-name e m.name (bytes_left m.name _ h)) (bytes-names e ms (bytes_right m.name _ h))

bytes-array : (e : ℕ) (ds : List ℕ) → AllBytes (array_bytes e ds)
unfolding array_bytes
bytes-array e ds =
    bytes_append (little_endian 1 (length ds) ++ zeros (reserved_bytes_of e)) _ (bytes_append (little_endian 1 (length ds)) _ (bytes-little_endian 1 _) (bytes-zeros _))
    (bytes_append (dimension_bytes ds) _ (bytes_dimensions ds) (bytes-zeros _))

-- the flag bytes of a variable-length type
variable_bytes : (i a c : ℕ) → StorableVariable i a c → (variable_flags i a < 256) × (variable_charset i c < 256)
unfolding StorableVariable variable_flags variable_charset code_of
variable_bytes i a c (inl h) = rw h.0 (omega arith, omega arith)
variable_bytes i a c (inr h) = rw (h.2, h.3, h.4) (nibbles-lt 1 h.0 (omega arith) (omega arith), omega arith)

-- a header and bytes behind it
framed : (c v f0 f1 size : ℕ) (s : List ℕ) → c < 16 → v < 16 → f0 < 256 → f1 < 256 → AllBytes s → AllBytes (header c v f0 f1 size ++ s)
framed c v f0 f1 size s hc hv h0 h1 h = bytes_append (header c v f0 f1 size) s (bytes-header c v f0 f1 size hc hv h0 h1) h

bytes-leaf : (n : ℕ) (x : Leaf) → StorableLeaf n x → AllBytes (leaf_pool x) → AllBytes (leaf_message n x)
unfolding leaf_message StorableLeaf leaf_pool
bytes-leaf n (fixed_point o s f q) h b =
    framed 0 1 (fixed_flags_of o s) 0 n _ (omega arith) (omega arith) (omega (arith, fixed_flags_lt o s h.0 h.1)) (omega arith) (bytes_packed bit_widths _)
bytes-leaf n (floating_point o y) h b =
    framed 1 1 (float_flags_of o) ((n * 8 - 1) % 256) n _ (omega arith) (omega arith) (float_flags_lt o) (omega arith) (bytes_packed float_widths _)
bytes-leaf n (time o q) h b = framed 2 1 o 0 n _ (omega arith) (omega arith) (omega (arith, h.0)) (omega arith) (bytes_packed time_widths _)
bytes-leaf n (string a c) h b = bytes-header 3 1 (nibbles a c) 0 n (omega arith) (omega arith) (nibbles-lt a c (omega (arith, h.0)) (omega (arith, h.1))) (omega arith)
bytes-leaf n (bit_field o f q) h b = framed 4 1 o 0 n _ (omega arith) (omega arith) (omega (arith, h.0)) (omega arith) (bytes_packed bit_widths _)
bytes-leaf n (opaque g) h b = framed 5 1 (length g) 0 n _ (omega arith) (omega arith) h (omega arith) (bytes_append g _ b (bytes-zeros _))
bytes-leaf n (reference k) h b = bytes-header 7 1 k 0 n (omega arith) (omega arith) (omega (arith, h)) (omega arith)

mutual
  unfolding message Storable pool_bytes

  -- in any version that a header can bear
  pub bytes-message : (e : ℕ) (t : Datatype) → e < 16 → Storable e t → AllBytes (pool_bytes t) → AllBytes (message e t)
  bytes-message e (leaf n x) small h b = bytes-leaf n x h.2 b
  bytes-message e (compound n ms) small h b =
      framed 6 e (member_count_of ms % 256) (member_count_of ms / 256) n _ (omega arith) small (omega arith) (omega (arith, h.2)) (bytes-members e n ms small h.3 b)
  bytes-message e (enumeration n t ms) small h b =
      let r = bytes_right (pool_bytes t) _ b in
      framed 8 e (length ms % 256) (length ms / 256) n _ (omega arith) small (omega arith) (omega (arith, h.2))
      (bytes_append (message e t) _ (bytes-message e t small h.4 (bytes_left (pool_bytes t) _ b))
      (bytes_append (enum_name_bytes e ms) _ (bytes-names e ms (bytes_left (enum_names ms) _ r)) (bytes_right (enum_names ms) _ r)))
  bytes-message e (variable_length i a c t) small h b =
      let f = variable_bytes i a c h.0 in
      framed 9 1 (variable_flags i a) (variable_charset i c) 16 _ (omega arith) (omega arith) f.0 f.1 (bytes-message e t small h.1 b)
  bytes-message e (array ds t) small h b =
      framed 10 e 0 0 (type_size_of (array ds t)) _ (omega arith) small (omega arith) (omega arith)
      (bytes_append (array_bytes e ds) _ (bytes-array e ds) (bytes-message e t small h.4 (bytes_right (dimension_bytes ds) _ b)))

  pub bytes-members : (e n : ℕ) (ms : Members) → e < 16 → StorableMembers e n ms → AllBytes (member_pool ms) → AllBytes (member_bytes e n ms)
  bytes-members e n no_members small h b = b
  bytes-members e n (member g o t ms) small h b =
      let r = bytes_right g _ b in
      bytes_append (name_bytes e g) _ (bytes-name e g (bytes_left g _ b))
      (bytes_append (little_endian (offset_width e n) o) _ (bytes-little_endian _ o)
      (bytes_append (zeros (skipped_bytes_of e)) _ (bytes-zeros _)
      (bytes_append (message e t) _ (bytes-message e t small h.3 (bytes_left (pool_bytes t) _ r)) (bytes-members e n ms small h.4 (bytes_right (pool_bytes t) _ r)))))

-- a storable type that the edition carries, over a pool of bytes, is written as bytes
pub message-is-bytes : (e : ℕ) (t : Datatype) → e ≤ 3 → storable t ≡ true → carried e t ≡ true → AllBytes (pool_bytes t) → AllBytes (message e t)
message-is-bytes e t h s c b = bytes-message e t (omega arith) (storable_fact e t s c) b

-- ---- what writing answers, in the order of the refusals

no_edition : (e : ℕ) → (e < 1) ⊎ (3 < e) → (leb 1 e && leb e 3) ≡ false
no_edition zero h = refl
no_edition (suc e) (inl h) = absurd (omega arith)
no_edition (suc e) (inr h) = rw (le-leb 1 (suc e) (omega arith), lt-leb (suc e) 3 h)

-- the type that is written, under the facts that are found one after another
module _ (e room : ℕ) (t : Datatype) where
  pub writing_type_no_edition : (e < 1) ⊎ (3 < e) → writing_type e room t ≡ refuses NoSuchEdition
  unfolding writing_type unless
  writing_type_no_edition h = rw (no_edition e h)

  pub writing_type_unstorable : 1 ≤ e → e ≤ 3 → storable t ≡ false → writing_type e room t ≡ refuses Unstorable
  unfolding writing_type unless
  writing_type_unstorable lo hi s = rw (le-leb 1 e lo, le-leb e 3 hi, s)

  pub writing_type-not_in_edition : 1 ≤ e → e ≤ 3 → storable t ≡ true → carried e t ≡ false → writing_type e room t ≡ refuses NotInEdition
  unfolding writing_type unless
  writing_type-not_in_edition lo hi s c = rw (le-leb 1 e lo, le-leb e 3 hi, s, c)

  pub writing_type_no_room : 1 ≤ e → e ≤ 3 → storable t ≡ true → carried e t ≡ true → room < message_length e t
      → writing_type e room t ≡ refuses (NoRoom (needed (message_length e t)))
  unfolding writing_type unless
  writing_type_no_room lo hi s c h = rw (le-leb 1 e lo, le-leb e 3 hi, s, c, length-message e t, lt-leb (message_length e t) room h)

  pub writing_type-given : 1 ≤ e → e ≤ 3 → storable t ≡ true → carried e t ≡ true → message_length e t ≤ room → writing_type e room t ≡ gives (message e t)
  unfolding writing_type unless
  writing_type-given lo hi s c h = rw (le-leb 1 e lo, le-leb e 3 hi, s, c, length-message e t, le-leb (message_length e t) room h)

module _ (table pool : List ℕ) (e room : ℕ) where
  pub writing-bad-table : type_of table pool ≡ refuses BadTable → writing table pool e room ≡ refuses BadTable
  unfolding writing when_given
  writing-bad-table h = rw h

  -- from here on the table and pool set out a type
  pub writing-found : (t : Datatype) → type_of table pool ≡ gives t → writing table pool e room ≡ writing_type e room t
  unfolding writing when_given
  writing-found t h = rw h

module _ (table pool : List ℕ) (e room : ℕ) (t : Datatype) (found : type_of table pool ≡ gives t) where
  pub writing_no_edition : (e < 1) ⊎ (3 < e) → writing table pool e room ≡ refuses NoSuchEdition
  writing_no_edition h = writing-found table pool e room t found ∙ writing_type_no_edition e room t h

  pub writing_unstorable : 1 ≤ e → e ≤ 3 → storable t ≡ false → writing table pool e room ≡ refuses Unstorable
  writing_unstorable lo hi s = writing-found table pool e room t found ∙ writing_type_unstorable e room t lo hi s

  pub writing-not_in_edition : 1 ≤ e → e ≤ 3 → storable t ≡ true → carried e t ≡ false → writing table pool e room ≡ refuses NotInEdition
  writing-not_in_edition lo hi s c = writing-found table pool e room t found ∙ writing_type-not_in_edition e room t lo hi s c

  pub writing_no_room : 1 ≤ e → e ≤ 3 → storable t ≡ true → carried e t ≡ true → room < message_length e t
      → writing table pool e room ≡ refuses (NoRoom (needed (message_length e t)))
  writing_no_room lo hi s c h = writing-found table pool e room t found ∙ writing_type_no_room e room t lo hi s c h

  pub writing-given : 1 ≤ e → e ≤ 3 → storable t ≡ true → carried e t ≡ true → message_length e t ≤ room → writing table pool e room ≡ gives (message e t)
  writing-given lo hi s c h = writing-found table pool e room t found ∙ writing_type-given e room t lo hi s c h
