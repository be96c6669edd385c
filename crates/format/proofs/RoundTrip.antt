-- Demand 3, first half: what the writer writes, the reader reads.
use Prim.Native.Nat.{ℕ, zero, suc, ◌+◌, ◌-◌, ◌*◌, ◌/◌, ◌%◌, ◌^◌, ◌<◌, ◌≤◌}
use mathlib.Core.Path.{◌≡◌, refl, ap}
use mathlib.Core.Logic.{inl, inr}
use mathlib.Core.List.{List, [], ◌∷◌, ◌++◌, map, append_assoc, append-nil}
use native.Mathlib.Omega.{arith}
use native.Mathlib.Nat.{zero-add, suc-add, add_assoc, mod-eq_of_lt}
use lib.ListN.{length, get_or, length-append}
use lib.Seq.{take_at}
use borrow.Author.Tests.{le-leb, lt-ltb}
use Rattle.format.specs.Bytes.{little_endian, zeros, padding_to8, pack_numbers, total_width, dimension_bytes}
use Rattle.format.specs.Bits.{fixed_flags_of, float_flags_of, nibbles}
use Rattle.format.specs.Datatype.{float_numbers, float_layout, Leaf, fixed_point, floating_point, time, string, bit_field, opaque, reference, leaf_pool, Datatype, leaf, compound, enumeration, variable_length, array, Members, no_members, member, EnumMember, enum_names, enum_values, type_size_of, member_count_of, depth, member_depth, pool_bytes, member_pool, row_count, member_row_count}
use Rattle.format.specs.Message.{header, reserved_bytes_of, permutation_bytes_of, bit_widths, float_widths, time_widths, array_bytes, enum_name_bytes, name_padding_of, offset_width, skipped_bytes_of, name_bytes, variable_flags, variable_charset, code_of, leaf_message, message, member_bytes, versions, member_versions}
use Rattle.format.specs.Reading.{got, Reader, class_kind, layout_version, count_of, then, moved, inner, read_members_of, read_names_of, read_values_of, read_variable, read_array, leaf_properties, read_properties, sized, read_type_of}
use Rattle.format.proofs.Bits.{order_back, signed_back, float_order_back, bit0_of, low_mod, nibbles-low, nibbles_high}
use Rattle.format.proofs.Bytes.{length_packed, length-little_endian, length-zeros, length_dimensions, dimensions_back}
use Rattle.format.proofs.Facts.{StorableLeaf, Storable, StorableMembers, StorableEnum, StorableVariable}
use Rattle.format.proofs.Steps.{held, then-held, moved-held, held_append, bytes-at, skip_at, number_at, numbers-at, row_at, piece-at, read_name-at, got_path, header_at, require-at, length-header}

-- a reader takes the message of t off the bytes, and its rows and pool bytes off what is free
abbrev pub Reads : (limit edition : ℕ) → Reader Datatype → Datatype → Type 0
Reads l e rd t =
    (v at : ℕ) (s : List ℕ) (r p : ℕ)
    → rd v at (message e t ++ s) (row_count t + r) (length (pool_bytes t) + p) ≡ held l (versions e t) (got t (at + length (message e t)) s r p)

module _ (l k v at : ℕ) (s : List ℕ) (r p : ℕ) where
  -- a type's row, its header and its size check, round its properties
  framed : (c n f0 f1 size : ℕ) → c < 16 → size < 2 ^ 32 → (b vs : List ℕ) (m q : ℕ) (t : Datatype) → 0 < type_size_of t
      → read_properties (read_type_of l k) (record { class = c; version = n; f0 = f0; f1 = f1; size = size }) (class_kind c) v (at + 8) (b ++ s) (m + r) q
      ≡ held l vs (got t (at + 8 + length b) s r p)
      → read_type_of l (suc k) v at (header c n f0 f1 size ++ b ++ s) (suc m + r) q ≡ held l (n ∷ vs) (got t (at + length (header c n f0 f1 size ++ b)) s r p)
  unfolding read_type_of then held sized
  framed c n f0 f1 size hc hs b vs m q t pos h =
      rw (append_assoc, row_at, header_at, then-held l (n ∷ []), h, then-held l vs, require-at _ _ _ _ _ _ _ (lt-ltb 0 (type_size_of t) pos), length-append, length-header, add_assoc)

-- the parts of a member's bytes, rows and pool bytes, one behind another
module _ (e n : ℕ) (b : List ℕ) (o : ℕ) (t : Datatype) (ms : Members) where
  member-bytes : (s : List ℕ)
      → member_bytes e n (member b o t ms) ++ s
      ≡ name_bytes e b ++ (little_endian (offset_width e n) o ++ (zeros (skipped_bytes_of e) ++ (message e t ++ (member_bytes e n ms ++ s))))
  unfolding message
  member-bytes s = simp append_assoc

  member-length : length (member_bytes e n (member b o t ms))
      ≡ length b + 1 + name_padding_of e (length b + 1) + offset_width e n + skipped_bytes_of e + length (message e t) + length (member_bytes e n ms)
  unfolding message name_bytes
  member-length = simp (length-append, length-zeros, length-little_endian) (omega arith)

  member-rows : (r : ℕ) → member_row_count (member b o t ms) + r ≡ suc (row_count t + (member_row_count ms + r))
  unfolding row_count
  member-rows r = omega arith

  member-pool : (p : ℕ) → length (member_pool (member b o t ms)) + p ≡ length b + (length (pool_bytes t) + (length (member_pool ms) + p))
  unfolding pool_bytes
  member-pool p = simp length-append (omega arith)

array_size : (ds : List ℕ) (t : Datatype) → type_size_of (array ds t) < 2 ^ 32
unfolding type_size_of
array_size ds t = omega arith

-- the bytes of an array, one part behind another
array-bytes : (e : ℕ) (ds : List ℕ) (t : Datatype) (s : List ℕ)
    → array_bytes e ds ++ message e t ++ s
    ≡ little_endian 1 (length ds) ++ zeros (reserved_bytes_of e) ++ ((dimension_bytes ds ++ zeros (permutation_bytes_of e (length ds))) ++ (message e t ++ s))
unfolding array_bytes
array-bytes e ds t s = simp append_assoc

rank_length : (e : ℕ) (ds : List ℕ) → length (little_endian 1 (length ds) ++ zeros (reserved_bytes_of e)) ≡ 1 + reserved_bytes_of e
rank_length e ds = simp (length-append, length-zeros, length-little_endian)

rank_back : (e : ℕ) (ds : List ℕ) → length ds < 256 → get_or (little_endian 1 (length ds) ++ zeros (reserved_bytes_of e)) 0 0 ≡ length ds
unfolding little_endian
rank_back e ds h = mod-eq_of_lt h

dims_length : (e : ℕ) (ds : List ℕ) → length (dimension_bytes ds ++ zeros (permutation_bytes_of e (length ds))) ≡ 4 * length ds + permutation_bytes_of e (length ds)
dims_length e ds = simp (length-append, length-zeros, length_dimensions)

array-length : (e : ℕ) (ds : List ℕ) → length (array_bytes e ds) ≡ 1 + reserved_bytes_of e + (4 * length ds + permutation_bytes_of e (length ds))
unfolding array_bytes
array-length e ds = simp (length-append, length-zeros, length-little_endian, length_dimensions)

names-bytes : (e : ℕ) (m : EnumMember) (ms : List EnumMember) (s : List ℕ) → enum_name_bytes e (m ∷ ms) ++ s ≡ name_bytes e m.name ++ (enum_name_bytes e ms ++ s)
unfolding enum_name_bytes
names-bytes e m ms s = simp append_assoc

names-length : (e : ℕ) (m : EnumMember) (ms : List EnumMember)
    → length (enum_name_bytes e (m ∷ ms)) ≡ length m.name + 1 + name_padding_of e (length m.name + 1) + length (enum_name_bytes e ms)
unfolding enum_name_bytes name_bytes
names-length e m ms = simp (length-append, length-zeros) (omega arith)

pub no_levels : (t : Datatype) → depth t ≤ 0 → ⊥
unfolding depth
no_levels (leaf n x) h = omega arith
no_levels (compound n ms) h = omega arith
no_levels (enumeration n t ms) h = omega arith
no_levels (variable_length i a c t) h = omega arith
no_levels (array ds t) h = omega arith

module _ (l e : ℕ) where
  reads-leaf : (k n : ℕ) (x : Leaf) → 0 < n → n < 2 ^ 32 → StorableLeaf n x → Reads l e (read_type_of l (suc k)) (leaf n x)
  unfolding row_count pool_bytes leaf_pool message leaf_message versions StorableLeaf type_size_of total_width read_properties leaf_properties float_layout float_numbers then held class_kind
  reads-leaf k n (fixed_point o g f q) pos small h v at s r p =
      framed l k v at s r p 0 1 (fixed_flags_of o g) 0 n (omega arith) small (pack_numbers bit_widths (f ∷ q ∷ [])) [] 0 (0 + p) _ pos
      (rw (numbers-at _ _ _ _ _ _ _ h.2, length_packed _ _ h.2, order_back o g h.0 h.1, signed_back o g h.0 h.1) (got_path refl refl (omega arith) (omega arith)))
  reads-leaf k n (floating_point o y) pos small h v at s r p =
      framed l k v at s r p 1 1 (float_flags_of o) ((n * 8 - 1) % 256) n (omega arith) small (pack_numbers float_widths (float_numbers y)) [] 0 (0 + p) _ pos
      (rw (numbers-at _ _ _ _ _ _ _ h.2, length_packed _ _ h.2, float_order_back o h.1) (got_path refl refl (omega arith) (omega arith)))
  reads-leaf k n (time o q) pos small h v at s r p =
      framed l k v at s r p 2 1 o 0 n (omega arith) small (pack_numbers time_widths (q ∷ [])) [] 0 (0 + p) _ pos
      (rw (numbers-at _ _ _ _ _ _ _ h.1, bit0_of o h.0, length_packed _ _ h.1) (got_path refl refl (omega arith) (omega arith)))
  reads-leaf k n (string a c) pos small h v at s r p =
      rw (← append-nil (header 3 1 (nibbles a c) 0 n))
      (framed l k v at s r p 3 1 (nibbles a c) 0 n (omega arith) small [] [] 0 (0 + p) (leaf n (string a c)) pos
      (rw (nibbles-low a c (omega arith), nibbles_high a c (omega arith), require-at _ _ _ _ _ _ _ (le-leb a 2 (omega arith)), require-at _ _ _ _ _ _ _ (le-leb c 1 (omega arith)))
      (got_path refl (omega arith) (omega arith) (omega arith))))
  reads-leaf k n (bit_field o f q) pos small h v at s r p =
      framed l k v at s r p 4 1 o 0 n (omega arith) small (pack_numbers bit_widths (f ∷ q ∷ [])) [] 0 (0 + p) _ pos
      (rw (numbers-at _ _ _ _ _ _ _ h.1, length_packed _ _ h.1, bit0_of o h.0) (got_path refl refl (omega arith) (omega arith)))
  reads-leaf k n (opaque g) pos small h v at s r p =
      framed l k v at s r p 5 1 (length g) 0 n (omega arith) small (g ++ zeros (padding_to8 (length g))) [] 0 (length g + p) _ pos
      (rw (append_assoc, bytes-at _ _ _ _ _ _ g refl, piece-at, skip_at _ _ _ _ _ _ (zeros (padding_to8 (length g))) (length-zeros _), length-append, length-zeros)
      (got_path refl (omega arith) (omega arith) refl))
  reads-leaf k n (reference x) pos small h v at s r p =
      rw (← append-nil (header 7 1 x 0 n))
      (framed l k v at s r p 7 1 x 0 n (omega arith) small [] [] 0 (0 + p) (leaf n (reference x)) pos
      (rw (low_mod 4 x, mod-eq_of_lt {n = x} {m = 16} (omega arith), require-at _ _ _ _ _ _ _ (le-leb x 1 (omega arith)))
      (got_path refl (omega arith) (omega arith) (omega arith))))

  reads-members : (k n : ℕ) (ms : Members) → StorableMembers e n ms → ((t : Datatype) → depth t ≤ k → Storable e t → Reads l e (read_type_of l k) t) → member_depth ms ≤ k
      → (v at : ℕ) (s : List ℕ) (r p : ℕ)
      → read_members_of (read_type_of l k) e n (member_count_of ms) v at (member_bytes e n ms ++ s) (member_row_count ms + r) (length (member_pool ms) + p)
      ≡ held l (member_versions e ms) (got ms (at + length (member_bytes e n ms)) s r p)
  unfolding row_count pool_bytes message versions Storable then held read_members_of member_count_of depth inner moved
  reads-members k n no_members h ih d v at s r p = got_path refl (omega arith) (omega arith) (omega arith)
  reads-members k n (member b o t ms) h ih d v at s r p =
      rw (
        member-bytes e n b o t ms s,
        member-rows e n b o t ms r,
        member-pool e n b o t ms p,
        read_name-at _ _ _ _ _ e b h.0 h.1,
        number_at _ _ _ _ _ _ o h.2,
        bytes-at _ _ _ _ _ _ (zeros (skipped_bytes_of e)) (length-zeros _),
        ih t (omega arith) h.3,
        moved-held,
        then-held,
        reads-members k n ms h.4 ih (omega arith),
        then-held,
        held_append,
        member-length e n b o t ms,
      )
      (ap (λ a. held l (versions e t) (held l (member_versions e ms) (got (member b o t ms) a s r p))) (omega arith))

  reads-compound : (k n : ℕ) (ms : Members) → 0 < e → e ≤ 3 → Storable e (compound n ms) → ((t : Datatype) → depth t ≤ k → Storable e t → Reads l e (read_type_of l k) t)
      → member_depth ms ≤ k → Reads l e (read_type_of l (suc k)) (compound n ms)
  unfolding row_count pool_bytes message versions Storable type_size_of read_properties then held class_kind layout_version count_of
  reads-compound k n ms lo hi h ih d v at s r p =
      let number : member_count_of ms % 256 + 256 * (member_count_of ms / 256) ≡ member_count_of ms = omega arith in
      framed l k v at s r p 6 e (member_count_of ms % 256) (member_count_of ms / 256) n (omega arith) h.1 (member_bytes e n ms) (member_versions e ms) (member_row_count ms) (length (member_pool ms) + p) (compound n ms) h.0
      (rw (require-at _ _ _ _ _ _ _ (lt-ltb 0 e lo), require-at _ _ _ _ _ _ _ (le-leb e 4 (omega arith)), number, reads-members k n ms h.3 ih d, then-held))

  reads-names : (ms : List EnumMember) (n : ℕ) → StorableEnum n ms → (v at : ℕ) (s : List ℕ) (r p : ℕ)
      → read_names_of e (length ms) v at (enum_name_bytes e ms ++ s) (length ms + r) (length (enum_names ms) + p)
      ≡ got (map (λ m. m.name) ms) (at + length (enum_name_bytes e ms)) s r p
  unfolding read_names_of enum_name_bytes enum_names StorableEnum then
  reads-names [] n h v at s r p = got_path refl (omega arith) (omega arith) (omega arith)
  reads-names (m ∷ ms) n h v at s r p =
      rw (
        names-bytes e m ms s,
        suc-add (length ms) r,
        length-append m.name (enum_names ms),
        add_assoc (length m.name),
        read_name-at _ _ _ _ _ e m.name h.0 h.1,
        reads-names ms n h.3,
        names-length e m ms,
      )
      (got_path refl (omega arith) refl refl)

  reads-values : (ms : List EnumMember) (n : ℕ) → StorableEnum n ms → (v at : ℕ) (s : List ℕ) (r p : ℕ)
      → read_values_of n (map (λ m. m.name) ms) v at (enum_values ms ++ s) r (length (enum_values ms) + p)
      ≡ got ms (at + length (enum_values ms)) s r p
  unfolding read_values_of enum_values StorableEnum then
  reads-values [] n h v at s r p = got_path refl (omega arith) refl (omega arith)
  reads-values (m ∷ ms) n h v at s r p =
      rw (
        append_assoc m.value (enum_values ms) s,
        length-append m.value (enum_values ms),
        add_assoc (length m.value),
        bytes-at _ _ _ _ _ _ m.value h.2,
        piece-at,
        reads-values ms n h.3,
      )
      (got_path refl (omega (arith, h.2)) refl refl)

  reads-enumeration : (k n : ℕ) (t : Datatype) (ms : List EnumMember) → Storable e (enumeration n t ms) → Reads l e (read_type_of l k) t → Reads l e (read_type_of l (suc k)) (enumeration n t ms)
  unfolding row_count pool_bytes message versions Storable type_size_of read_properties then held class_kind count_of inner moved
  reads-enumeration k n t ms h ih v at s r p =
      let number : length ms % 256 + 256 * (length ms / 256) ≡ length ms = omega arith in
      framed l k v at s r p 8 e (length ms % 256) (length ms / 256) n (omega arith) h.1 (message e t ++ (enum_name_bytes e ms ++ enum_values ms)) (versions e t) (row_count t + length ms) (length (pool_bytes t ++ (enum_names ms ++ enum_values ms)) + p) (enumeration n t ms) h.0
      (rw (
        append_assoc (message e t),
        append_assoc (enum_name_bytes e ms),
        add_assoc (row_count t),
        length-append (pool_bytes t),
        length-append (enum_names ms),
        add_assoc (length (pool_bytes t)),
        add_assoc (length (enum_names ms)),
        ih,
        moved-held,
        then-held,
        number,
        reads-names ms (type_size_of t) h.3,
        reads-values ms (type_size_of t) h.3,
        length-append (message e t),
        length-append (enum_name_bytes e ms),
      )
      (ap (λ a. held l (versions e t) (got (enumeration n t ms) a s r p)) (omega arith)))

  reads_sequence : (k : ℕ) (t : Datatype) → Reads l e (read_type_of l k) t → Reads l e (read_type_of l (suc k)) (variable_length 0 0 0 t)
  unfolding row_count pool_bytes message versions type_size_of variable_flags variable_charset read_properties read_variable then held class_kind inner moved
  reads_sequence k t ih v at s r p =
      framed l k v at s r p 9 1 0 0 16 (omega arith) (omega arith) (message e t) (versions e t) (row_count t) (length (pool_bytes t) + p) (variable_length 0 0 0 t) (omega arith)
      (rw (low_mod 4 0, ih, moved-held, then-held, zero-add (length (message e t))))

  reads_variable_string : (k x y : ℕ) (t : Datatype) → x < 3 → y < 2 → Reads l e (read_type_of l k) t → Reads l e (read_type_of l (suc k)) (variable_length 1 (suc x) (suc y) t)
  unfolding row_count pool_bytes message versions type_size_of variable_flags variable_charset code_of read_properties read_variable then held class_kind inner moved
  reads_variable_string k x y t hx hy ih v at s r p =
      framed l k v at s r p 9 1 (nibbles 1 x) y 16 (omega arith) (omega arith) (message e t) (versions e t) (row_count t) (length (pool_bytes t) + p) (variable_length 1 (suc x) (suc y) t) (omega arith)
      (rw (
        nibbles-low 1 x (omega arith),
        read_variable,
        nibbles_high 1 x (omega arith),
        low_mod 4 y,
        mod-eq_of_lt {n = y} {m = 16} (omega arith),
        require-at _ _ _ _ _ _ _ (le-leb x 2 (omega arith)),
        require-at _ _ _ _ _ _ _ (le-leb y 1 (omega arith)),
        ih,
        moved-held,
        then-held,
        zero-add (length (message e t)),
      ))

  reads-variable_length : (k i a c : ℕ) (t : Datatype) → StorableVariable i a c → Reads l e (read_type_of l k) t → Reads l e (read_type_of l (suc k)) (variable_length i a c t)
  unfolding StorableVariable
  reads-variable_length k i a c t (inl h) ih v at s r p = rw (h.0, h.1, h.2) (reads_sequence k t ih v at s r p)
  reads-variable_length k i a c t (inr h) ih v at s r p = rw (h.2, h.3, h.4) (reads_variable_string k h.0 h.1 t h.5 h.6 ih v at s r p)

  reads-array : (k : ℕ) (ds : List ℕ) (t : Datatype) → e ≤ 3 → Storable e (array ds t) → Reads l e (read_type_of l k) t → Reads l e (read_type_of l (suc k)) (array ds t)
  unfolding row_count pool_bytes message versions Storable read_properties read_array then held class_kind inner moved
  reads-array k ds t hi h ih v at s r p =
      framed l k v at s r p 10 e 0 0 (type_size_of (array ds t)) (omega arith) (array_size ds t) (array_bytes e ds ++ message e t) (versions e t) (row_count t) (length (dimension_bytes ds ++ pool_bytes t) + p) (array ds t) h.2
      (rw (
        array-bytes e ds t s,
        require-at _ _ _ _ _ _ _ (lt-ltb 1 e h.0),
        require-at _ _ _ _ _ _ _ (le-leb e 3 hi),
        bytes-at _ _ _ _ _ _ (little_endian 1 (length ds) ++ zeros (reserved_bytes_of e)) (rank_length e ds),
        rank_back e ds h.1,
        bytes-at _ _ _ _ _ _ (dimension_bytes ds ++ zeros (permutation_bytes_of e (length ds))) (dims_length e ds),
        take_at (dimension_bytes ds) (zeros (permutation_bytes_of e (length ds))) (4 * length ds) (length_dimensions ds),
        length-append (dimension_bytes ds) (pool_bytes t),
        add_assoc (length (dimension_bytes ds)),
        piece-at,
        ih,
        moved-held,
        then-held,
        dimensions_back ds _ h.3,
        length-append (array_bytes e ds),
        array-length e ds,
      )
      (ap (λ a. held l (versions e t) (got (array ds t) a s r p)) (omega arith)))

  -- by levels: the reader of the messages inside is the same law one level down
  pub reads : 0 < e → e ≤ 3 → (k : ℕ) (t : Datatype) → depth t ≤ k → Storable e t → Reads l e (read_type_of l k) t
  unfolding depth Storable
  reads lo hi zero t d h = absurd (no_levels t d)
  reads lo hi (suc k) (leaf n x) d h = reads-leaf k n x h.0 h.1 h.2
  reads lo hi (suc k) (compound n ms) d h = reads-compound k n ms lo hi h (reads lo hi k) (omega arith)
  reads lo hi (suc k) (enumeration n t ms) d h = reads-enumeration k n t ms h (reads lo hi k t (omega arith) h.4)
  reads lo hi (suc k) (variable_length i a c t) d h = reads-variable_length k i a c t h.0 (reads lo hi k t (omega arith) h.1)
  reads lo hi (suc k) (array ds t) d h = reads-array k ds t hi h (reads lo hi k t (omega arith) h.4)
