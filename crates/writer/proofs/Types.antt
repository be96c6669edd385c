-- The message of a type, by the entry of its row: one law for each way out of `put_type`.
use Rattle.std.specs.Prelude.{Option, Some, None}
use Prim.Native.Nat.{ℕ, zero, suc, ◌+◌, ◌-◌, ◌*◌, ◌/◌, ◌%◌, ◌<◌, ◌≤◌}
use mathlib.Core.Path.{◌≡◌, refl, sym, ap, ◌∙◌}
use mathlib.Core.Bool.{true}
use mathlib.Core.List.{List, ◌++◌, append_assoc}
use native.Mathlib.Omega.{arith}
use native.Mathlib.Numerals.{add-one}
use lib.ListN.{length, get_or, take, drop, length-append, length-drop}
use lib.Seq.{length-take-le}
use lib.Dec.{ltb}
use borrow.Author.Tests.{ltb-true}
use Rattle.format.specs.Bytes.{AllBytes, little_endian, zeros, dimensions_from}
use Rattle.format.specs.Datatype.{Datatype, compound, enumeration, variable_length, array, Members, EnumMember, member_count_of, enum_values, type_size_of}
use Rattle.format.specs.Message.{header, message, member_bytes, enum_name_bytes, array_bytes, reserved_bytes_of, permutation_bytes_of, variable_flags, variable_charset, storable, storable_members, storable_variable, carried, carried_members}
use Rattle.format.specs.Table.{Found, found, bad, and_then, type_at, members_at, enum_names_at, enum_values_at}
use Rattle.format.proofs.Booleans.{and_both}
use Rattle.format.proofs.Bytes.{all-bytes, bytes_take, bytes_drop, dimension_bytes-back, length-dimensions_from}
use Rattle.format.proofs.Storable.{Facts, all_facts}
use Rattle.format.proofs.TableSteps.{then-assoc}
use Rattle.rows.specs.Entries.{entry_at, EntryInside, IfKnown, from_entry}
use Rattle.rows.specs.declared.Entry.{Entry}
use Rattle.rows.specs.declared.Entry.TheVariants.{Leaf, Compound, Enumeration, VariableLength, Array}
use Rattle.rows.proofs.Decode.{type_at_entry, array-inside}
use Rattle.rows.proofs.Known.{claim_of-type}
use Rattle.writer_parts.specs.Places.{Places, PlacesFrom, Stands}
use Rattle.writer_parts.specs.Leaf.{PutsLeaf}
use Rattle.writer_parts.specs.Enum.{PutsEnumOf, PutsEnum}
use Rattle.writer_parts.specs.declared.Written.{Written}
use Rattle.writer_parts.proofs.Placing.{stands-behind, lost-behind, row-known, placed, unplaced, where_fits}
use Rattle.writer_parts.proofs.Leaves.{leaf-class, leaf-codes, leaf-message}
use Rattle.writer_parts.proofs.Enums.{enum_count}
use Rattle.table.specs.Known.{SizedTo, SizedAt}
use Rattle.writer.specs.Writes.{PutsFound, PutsType, PutsMembers}
use Rattle.writer.proofs.Compounds.{member-count, found-puts, found-members}

-- ---- what a type that can be stored says of the types inside

module _ (e n : ℕ) (ms : Members) where
  compound-storable : storable (compound n ms) ≡ true → (member_count_of ms < 65536) × (storable_members n ms ≡ true)
  unfolding storable Facts
  compound-storable h = let f = all_facts _ h in (ltb-true _ 65536 f.1.1.0, f.1.1.1.0)

module _ (n : ℕ) (t : Datatype) (ms : List EnumMember) where
  enumeration-storable : storable (enumeration n t ms) ≡ true → (length ms < 65536) × (storable t ≡ true)
  unfolding storable Facts
  enumeration-storable h = let f = all_facts _ h in (ltb-true _ 65536 f.1.1.0, f.1.1.1.1.0)

module _ (i a c : ℕ) (t : Datatype) where
  variable_storable_lem : storable (variable_length i a c t) ≡ true → (storable_variable i a c ≡ true) × (storable t ≡ true)
  unfolding storable Facts
  variable_storable_lem h = let f = all_facts _ h in (f.0, f.1.0)

module _ (ds : List ℕ) (t : Datatype) where
  array-storable : storable (array ds t) ≡ true → (length ds < 256) × (storable t ≡ true)
  unfolding storable Facts
  array-storable h = let f = all_facts _ h in (ltb-true _ 256 f.0, f.1.1.1.0)

  array-carried : (e : ℕ) → carried e (array ds t) ≡ true → carried e t ≡ true
  unfolding carried
  array-carried e h = (and_both (ltb 1 e) (carried e t) h).1

-- what is ensured of an enumeration's members that are found
enum_stands : {e at : ℕ} {table pool : List ℕ} {k r p : ℕ} {x : Option Written} {out out' : List ℕ} {ms : List EnumMember} {r' p' : ℕ} → PutsEnum e at table pool k r p x out out'
    → and_then (enum_names_at table pool k r p) (enum_values_at pool) ≡ found ms r' p' → Stands (enum_name_bytes e ms ++ enum_values ms) r' p' at x out out'
unfolding PutsEnumOf
enum_stands h q = rw q at h.puts

-- an array's dimensions stand in the message as in the pool
array_body : (e k p : ℕ) (pool : List ℕ) → ((i : ℕ) → get_or pool i 0 < 256) → p + k * 4 ≤ length pool
    → array_bytes e (dimensions_from k (take (k * 4) (drop p pool))) ≡ (little_endian 1 k ++ zeros (reserved_bytes_of e)) ++ (take (k * 4) (drop p pool) ++ zeros (permutation_bytes_of e k))
unfolding array_bytes
array_body e k p pool small h =
    let l : length (take (k * 4) (drop p pool)) ≡ 4 * k = length-take-le (k * 4) (drop p pool) (omega (arith, length-drop p pool)) ∙ omega arith in
    let b : AllBytes (take (k * 4) (drop p pool)) = bytes_take (k * 4) (drop p pool) (bytes_drop p pool (all-bytes pool small)) in
    rw (length-dimensions_from k (take (k * 4) (drop p pool)), dimension_bytes-back k (take (k * 4) (drop p pool)) l b)

-- what stands before the message of an array's base
abbrev pub array_head_of : (e size k p : ℕ) (pool : List ℕ) → List ℕ
array_head_of e size k p pool = header 10 e 0 0 size ++ ((little_endian 1 k ++ zeros (reserved_bytes_of e)) ++ (take (k * 4) (drop p pool) ++ zeros (permutation_bytes_of e k)))

-- ---- by the entry of the row

module _ (levels e at : ℕ) (table pool : List ℕ) (r p : ℕ) (out : List ℕ) where
  pub type-shallow : levels ≡ 0 → PutsType e at (type_at levels table pool r p) None out out
  type-shallow h = rw h (record { puts = unfold PutsFound type_at in tt })

  module _ (h : levels ≡ 0 → ⊥) {o : Option Entry} (known : IfKnown (entry_at table pool r p) o) where
    -- nothing is said where the row that is read again is unknown; elsewhere its entry is `o`
    where_known : {x : Option Written} {out₁ : List ℕ} → (o ≡ entry_at table pool r p → PutsType e at (type_at levels table pool r p) x out out₁) → PutsType e at (type_at levels table pool r p) x out out₁
    where_known {x = x} {out₁ = out₁} c = go levels h c
      where
        go : (l : ℕ) → (l ≡ 0 → ⊥) → (o ≡ entry_at table pool r p → PutsType e at (type_at l table pool r p) x out out₁) → PutsType e at (type_at l table pool r p) x out out₁
        go zero n c = absurd (n refl)
        go (suc k) n c =
            claim_of-type table pool r p (λ t. PutsType e at t x out out₁) (record { puts = unfold PutsFound in tt }) k o known (λ q. rw (type_at_entry k table pool r p, ← q) at (c q))

    by_entry : o ≡ entry_at table pool r p → {z : Option Entry} → o ≡ z → type_at levels table pool r p ≡ from_entry (type_at (levels - 1) table pool) table pool r p z
    by_entry q {z = z} i = go levels h
      where
        go : (l : ℕ) → (l ≡ 0 → ⊥) → type_at l table pool r p ≡ from_entry (type_at (l - 1) table pool) table pool r p z
        go zero n = absurd (n refl)
        go (suc k) n =
            let j : suc k - 1 ≡ k = omega arith in
            type_at_entry k table pool r p ∙ ap (from_entry (type_at k table pool) table pool r p) (sym q ∙ i) ∙ rw j

    pub type_unknown : o ≡ None → PutsType e at (type_at levels table pool r p) None out out
    type_unknown i = where_known λ q. rw (by_entry q i) (record { puts = unfold PutsFound from_entry in tt })

    module _ {y : Entry} (says : o ≡ Some y) where
      pub type-leaf : {c n l x : ℕ} {z : Option Written} {out' : List ℕ} → y ≡ Leaf c n l x → (c ≤ 7 → PutsLeaf table pool r p c n l x at z out out') → PutsType e at (type_at levels table pool r p) z out out'
      type-leaf {c = c} i k =
          where_known λ q.
          rw (by_entry q (says ∙ ap Some i))
          (record { puts = unfold PutsFound from_entry in λ s d. rw (leaf-message table pool r p q says i e s, ← add-one r) ((k (leaf-class table pool r p q says i)).puts (leaf-codes table pool r p q says i e s)) })

      -- ---- a compound

      module _ {n k : ℕ} (i : y ≡ Compound n k) {w : Option ℕ} {out₁ : List ℕ} (g : k < 65536 → Places (header 6 e (k % 256) (k / 256) n) at w out out₁) where
        compound-is : (z : Found Members) → members_at (type_at (levels - 1) table pool) table pool k (r + 1) p ≡ z → (x : Option Written) (out₂ : List ℕ)
            → ((ms : Members) (r' p' : ℕ) → z ≡ found ms r' p' → Places (header 6 e (k % 256) (k / 256) n) at w out out₁ → storable_members n ms ≡ true → carried_members e ms ≡ true
            → Stands (header 6 e (k % 256) (k / 256) n ++ member_bytes e n ms) r' p' at x out out₂)
            → PutsFound e at (and_then z (λ ms r' p'. found (compound n ms) r' p')) x out out₂
        unfolding PutsFound and_then message carried
        compound-is (found ms r' p') f x out₂ s =
            let c : member_count_of ms ≡ k = member-count (type_at (levels - 1) table pool) table pool k (r + 1) p f in
            λ u d.
            let v = compound-storable e n ms u in
            rw c (s ms r' p' refl (g (rw c at v.0)) v.1 d)
        compound-is bad f x out₂ s = tt

        as_compound : {x : Option Written} {out₂ : List ℕ} → PutsFound e at (and_then (members_at (type_at (levels - 1) table pool) table pool k (r + 1) p) (λ ms r' p'. found (compound n ms) r' p')) x out out₂
            → PutsType e at (type_at levels table pool r p) x out out₂
        as_compound f = where_known λ q. rw (by_entry q (says ∙ ap Some i)) (unfold from_entry in rw (← add-one r) (record { puts = f }))

        pub type-compound-full : w ≡ None → PutsType e at (type_at levels table pool r p) None out out₁
        type-compound-full f =
            as_compound (compound-is _ refl None out₁ (λ ms r' p' o h s c. lost-behind (header 6 e (k % 256) (k / 256) n) (member_bytes e n ms) r' p' at out h f))

        pub type-compound : {a : ℕ} {x : Option Written} {out₂ : List ℕ} → w ≡ Some a → PutsMembers e n a (members_at (type_at (levels - 1) table pool) table pool k (r + 1) p) x out₁ out₂
            → PutsType e at (type_at levels table pool r p) x out out₂
        type-compound {a = a} {x = x} {out₂ = out₂} f m =
            as_compound
            (compound-is _ refl x out₂ (λ ms r' p' o h s c.
            let j : PutsMembers e n a (found ms r' p') x out₁ out₂ = rw o at m in
            stands-behind (header 6 e (k % 256) (k / 256) n) (member_bytes e n ms) r' p' at out h f (found-members j s c)))

      -- ---- a variable-length type

      module _ {i a c : ℕ} (j : y ≡ VariableLength i a c) {w : Option ℕ} {out₁ : List ℕ}
          (g : storable_variable i a c ≡ true → Places (header 9 1 (variable_flags i a) (variable_charset i c) 16) at w out out₁) where
        variable_is : (z : Found Datatype) (x : Option Written) (out₂ : List ℕ)
            → ((t : Datatype) (r' p' : ℕ) → z ≡ found t r' p' → Places (header 9 1 (variable_flags i a) (variable_charset i c) 16) at w out out₁ → storable t ≡ true → carried e t ≡ true
            → Stands (header 9 1 (variable_flags i a) (variable_charset i c) 16 ++ message e t) r' p' at x out out₂)
            → PutsFound e at (and_then z (λ t r' p'. found (variable_length i a c t) r' p')) x out out₂
        unfolding PutsFound and_then message carried
        variable_is (found t r' p') x out₂ s =
            λ u d.
            let v = variable_storable_lem i a c t u in
            s t r' p' refl (g v.0) v.1 d
        variable_is bad x out₂ s = tt

        as_variable : {x : Option Written} {out₂ : List ℕ} → PutsFound e at (and_then (type_at (levels - 1) table pool (r + 1) p) (λ t r' p'. found (variable_length i a c t) r' p')) x out out₂
            → PutsType e at (type_at levels table pool r p) x out out₂
        as_variable f = where_known λ q. rw (by_entry q (says ∙ ap Some j)) (unfold from_entry in rw (← add-one r) (record { puts = f }))

        pub type_variable_full : w ≡ None → PutsType e at (type_at levels table pool r p) None out out₁
        type_variable_full f =
            as_variable (variable_is _ None out₁ (λ t r' p' o h s d. lost-behind (header 9 1 (variable_flags i a) (variable_charset i c) 16) (message e t) r' p' at out h f))

        pub type_variable : {b : ℕ} {x : Option Written} {out₂ : List ℕ} → w ≡ Some b → PutsType e b (type_at (levels - 1) table pool (r + 1) p) x out₁ out₂
            → PutsType e at (type_at levels table pool r p) x out out₂
        type_variable {b = b} {x = x} {out₂ = out₂} f m =
            as_variable
            (variable_is _ x out₂ (λ t r' p' o h s d.
            let n : PutsType e b (found t r' p') x out₁ out₂ = rw o at m in
            stands-behind (header 9 1 (variable_flags i a) (variable_charset i c) 16) (message e t) r' p' at out h f (found-puts n s d)))

      -- ---- an array

      module _ {k : ℕ} (i : y ≡ Array k) (inside : EntryInside o (length table) (length pool) r p) (small : (b : ℕ) → get_or pool b 0 < 256)
          {size : ℕ} (sized : SizedAt levels table pool r size) {w : Option ℕ} {out₁ : List ℕ}
          (g : k < 256 → PlacesFrom pool p (k * 4) (array_head_of e size k p pool) at w out out₁) where
        array-is : (z : Found Datatype) → type_at levels table pool r p ≡ and_then z (λ t r' p'. found (array (dimensions_from k (take (k * 4) (drop p pool))) t) r' p') → (x : Option Written) (out₂ : List ℕ)
            → ((t : Datatype) (r' p' : ℕ) → z ≡ found t r' p' → Places (array_head_of e size k p pool) at w out out₁ → storable t ≡ true → carried e t ≡ true → Stands ((array_head_of e size k p pool) ++ message e t) r' p' at x out out₂)
            → PutsFound e at (and_then z (λ t r' p'. found (array (dimensions_from k (take (k * 4) (drop p pool))) t) r' p')) x out out₂
        unfolding PutsFound and_then message
        array-is (found t r' p') f x out₂ s =
            let b = array-inside (length table) (length pool) r p inside says i in
            let ds = dimensions_from k (take (k * 4) (drop p pool)) in
            let m : size ≡ type_size_of (array ds t) = unfold SizedTo and_then in rw f at (sized.sized p) in
            let l : length ds ≡ k = length-dimensions_from k (take (k * 4) (drop p pool)) in
            λ u d.
            let v = array-storable ds t u in
            rw (← m, array_body e k p pool small b.1, ← append_assoc) (s t r' p' refl ((g (rw l at v.0)).places (omega (arith, b.1))) v.1 (array-carried ds t e d))
        array-is bad f x out₂ s = tt

        array-found : o ≡ entry_at table pool r p → type_at levels table pool r p ≡ and_then (type_at (levels - 1) table pool (r + 1) (p + k * 4)) (λ t r' p'. found (array (dimensions_from k (take (k * 4) (drop p pool))) t) r' p')
        array-found q = by_entry q (says ∙ ap Some i) ∙ (unfold from_entry in rw (← add-one r))

        as_array : {x : Option Written} {out₂ : List ℕ}
            → ((type_at levels table pool r p ≡ and_then (type_at (levels - 1) table pool (r + 1) (p + k * 4)) (λ t r' p'. found (array (dimensions_from k (take (k * 4) (drop p pool))) t) r' p'))
            → PutsFound e at (and_then (type_at (levels - 1) table pool (r + 1) (p + k * 4)) (λ t r' p'. found (array (dimensions_from k (take (k * 4) (drop p pool))) t) r' p')) x out out₂)
            → PutsType e at (type_at levels table pool r p) x out out₂
        as_array f = where_known λ q. rw (array-found q) (record { puts = f (array-found q) })

        pub type-array-full : w ≡ None → PutsType e at (type_at levels table pool r p) None out out₁
        type-array-full f = as_array (λ j. array-is _ j None out₁ (λ t r' p' o h s d. lost-behind (array_head_of e size k p pool) (message e t) r' p' at out h f))

        pub type-array : {b : ℕ} {x : Option Written} {out₂ : List ℕ} → w ≡ Some b → PutsType e b (type_at (levels - 1) table pool (r + 1) (p + k * 4)) x out₁ out₂
            → PutsType e at (type_at levels table pool r p) x out out₂
        type-array {b = b} {x = x} {out₂ = out₂} f m =
            as_array
            (λ j. array-is _ j x out₂ (λ t r' p' o h s d.
            let n : PutsType e b (found t r' p') x out₁ out₂ = rw o at m in
            stands-behind (array_head_of e size k p pool) (message e t) r' p' at out h f (found-puts n s d)))

      pub type-enumeration : {n k : ℕ} {x : Option Written} {out₁ : List ℕ} → y ≡ Enumeration n k → PutsType e at (from_entry (type_at (levels - 1) table pool) table pool r p (Some (Enumeration n k))) x out out₁
          → PutsType e at (type_at levels table pool r p) x out out₁
      type-enumeration i f = where_known λ q. rw (by_entry q (says ∙ ap Some i)) f

-- ---- an enumeration, with so many levels left below it

module _ (levels e at : ℕ) (table pool : List ℕ) (r p : ℕ) (out : List ℕ) (n k : ℕ) {w : Option ℕ} {out₁ : List ℕ} (g : k < 65536 → Places (header 8 e (k % 256) (k / 256) n) at w out out₁) where
  -- for all members that are found behind the base
  abbrev Behinds : Option Written → List ℕ → (t : Datatype) (r₁ p₁ : ℕ) → Type 0
  Behinds x out₂ t r₁ p₁ =
      (ms : List EnumMember) (r₂ p₂ : ℕ) → and_then (enum_names_at table pool k r₁ p₁) (enum_values_at pool) ≡ found ms r₂ p₂ → Places (header 8 e (k % 256) (k / 256) n) at w out out₁
      → storable t ≡ true → carried e t ≡ true → Stands (header 8 e (k % 256) (k / 256) n ++ (message e t ++ (enum_name_bytes e ms ++ enum_values ms))) r₂ p₂ at x out out₂

  enumeration-behind : (t : Datatype) (r₁ p₁ : ℕ) (v : Found (List EnumMember)) → and_then (enum_names_at table pool k r₁ p₁) (enum_values_at pool) ≡ v → (x : Option Written) (out₂ : List ℕ) → Behinds x out₂ t r₁ p₁
      → PutsFound e at (and_then v (λ ms r₂ p₂. found (enumeration n t ms) r₂ p₂)) x out out₂
  unfolding PutsFound and_then message carried
  enumeration-behind t r₁ p₁ (found ms r₂ p₂) f x out₂ s =
      let c : length ms ≡ k = enum_count table pool k r₁ p₁ f in
      λ u d.
      let v = enumeration-storable n t ms u in
      rw c (s ms r₂ p₂ f (g (rw c at v.0)) v.1 d)
  enumeration-behind t r₁ p₁ bad f x out₂ s = tt

  enumeration-is : (z : Found Datatype) (x : Option Written) (out₂ : List ℕ) → ((t : Datatype) (r₁ p₁ : ℕ) → z ≡ found t r₁ p₁ → Behinds x out₂ t r₁ p₁)
      → PutsFound e at (and_then z (λ t r₁ p₁. and_then (enum_names_at table pool k r₁ p₁) (λ ns r₂ p₂. and_then (enum_values_at pool ns r₂ p₂) (λ ms r₃ p₃. found (enumeration n t ms) r₃ p₃)))) x out out₂
  unfolding and_then
  enumeration-is (found t r₁ p₁) x out₂ s =
      rw (then-assoc (enum_names_at table pool k r₁ p₁) (enum_values_at pool) (λ ms r₃ p₃. found (enumeration n t ms) r₃ p₃)) (enumeration-behind t r₁ p₁ _ refl x out₂ (s t r₁ p₁ refl))
  enumeration-is bad x out₂ s = unfold PutsFound in tt

  as_enumeration : {x : Option Written} {out₂ : List ℕ}
      → PutsFound e at (and_then (type_at levels table pool (r + 1) p) (λ t r₁ p₁. and_then (enum_names_at table pool k r₁ p₁) (λ ns r₂ p₂. and_then (enum_values_at pool ns r₂ p₂) (λ ms r₃ p₃. found (enumeration n t ms) r₃ p₃)))) x out out₂
      → PutsType e at (from_entry (type_at levels table pool) table pool r p (Some (Enumeration n k))) x out out₂
  as_enumeration f = unfold from_entry in rw (← add-one r) (record { puts = f })

  pub enumeration-full : w ≡ None → PutsType e at (from_entry (type_at levels table pool) table pool r p (Some (Enumeration n k))) None out out₁
  enumeration-full f =
      as_enumeration (enumeration-is _ None out₁ (λ t r₁ p₁ o ms r₂ p₂ q h s d. lost-behind (header 8 e (k % 256) (k / 256) n) (message e t ++ (enum_name_bytes e ms ++ enum_values ms)) r₂ p₂ at out h f))

  module _ {a : ℕ} (f : w ≡ Some a) {z : Option Written} {out₂ : List ℕ} (m : PutsType e a (type_at levels table pool (r + 1) p) z out₁ out₂) where
    pub enumeration-lost : {out₃ : List ℕ} → z ≡ None → PutsType e at (from_entry (type_at levels table pool) table pool r p (Some (Enumeration n k))) None out out₃
    enumeration-lost {out₃ = out₃} l =
        as_enumeration
        (enumeration-is _ None out₃ (λ t r₁ p₁ o ms r₂ p₂ q h s d.
        let b : PutsType e a (found t r₁ p₁) z out₁ out₂ = rw o at m in
        let v : Places (message e t) a None out₁ out₃ = unplaced (found-puts b s d) l in
        stands-behind (header 8 e (k % 256) (k / 256) n) (message e t ++ (enum_name_bytes e ms ++ enum_values ms)) r₂ p₂ at out h f
        (lost-behind (message e t) (enum_name_bytes e ms ++ enum_values ms) r₂ p₂ a out₁ v refl)))

    pub enumeration-put : {b : Written} {x : Option Written} {out₃ : List ℕ} → z ≡ Some b → PutsEnum e b.at table pool k b.row b.place x out₂ out₃
        → PutsType e at (from_entry (type_at levels table pool) table pool r p (Some (Enumeration n k))) x out out₃
    enumeration-put {b = b} {x = x} {out₃ = out₃} l u =
        as_enumeration
        (enumeration-is _ x out₃ (λ t r₁ p₁ o ms r₂ p₂ q h s d.
        let v : PutsType e a (found t r₁ p₁) z out₁ out₂ = rw o at m in
        let j = found-puts v s d in
        stands-behind (header 8 e (k % 256) (k / 256) n) (message e t ++ (enum_name_bytes e ms ++ enum_values ms)) r₂ p₂ at out h f
        (where_fits λ fit.
        let c : b ≡ record { row = r₁; place = p₁; at = a + length (message e t) } = row-known j l (omega (arith, length-append (message e t) (enum_name_bytes e ms ++ enum_values ms))) in
        let y' : PutsEnum e (a + length (message e t)) table pool k r₁ p₁ x out₂ out₃ = rw c at u in
        stands-behind (message e t) (enum_name_bytes e ms ++ enum_values ms) r₂ p₂ a out₁ (rw c at (placed j l)) refl (enum_stands y' q))))
