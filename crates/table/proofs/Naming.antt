-- The name of a member: each row of a table beside the part of the pool that `name_parts` names for it.
use Prim.Native.Nat.{ℕ, zero, suc, ◌+◌, ◌-◌, ◌*◌, ◌<◌, ◌≤◌}
use mathlib.Core.Path.{◌≡◌, refl, sym, ap, ◌∙◌}
use mathlib.Core.List.{List, [], ◌∷◌, ◌++◌, append-nil}
use mathlib.Core.Option.{Option, none, some}
use Rattle.std.specs.Prelude as core
use native.Mathlib.Omega.{arith}
use lib.ListN.{length, get_or, take, drop, length-append, length-take, length-drop, get_or-append, get_or-eq_default}
use mir.Syntax.{w64}
use mir.Val.{Fits}
use lib.Seq.{drop_at, drop-append-le, drop-drop, get_or-drop}
use Rattle.format.specs.Bytes.{dimension_bytes, padded, zeros}
use Rattle.format.specs.Datatype.{Datatype, leaf, compound, enumeration, variable_length, array, Members, no_members, member, EnumMember, row_count, member_row_count, pool_bytes, member_pool, enum_names, enum_values}
use Rattle.format.specs.Table.{row, leaf_row, compound_row, enumeration_row, variable_length_row, array_row, member_row, enum_member_row, rows, member_rows, enum_rows, SetsOut}
use Rattle.format.proofs.Bytes.{all-bytes}
use Rattle.format.proofs.Rows.{leaf_class-low, length-row, length-member_row, length-enum_member_row, length-rows}
use Rattle.format.proofs.Table.{type_of_sound}
use Rattle.table.specs.Names.{Part, name_parts, member_name_parts, enum_name_parts, part_of, place_of, name_in_of, name_of, place_in, name_place, further, PartIs}
use Rattle.table.specs.Survey.{Checks}
use Rattle.table.specs.declared.NamePart.{NamePart}
use Rattle.table.specs.declared.Survey.{Survey}
use Rattle.table.proofs.Checking.{stands_at}

-- the words of a row say that it is no member's, or where the member's name lies, before an end
unfoldable pub RowNames : (end : ℕ) → Option Part → List ℕ → Type 0
RowNames e none w = get_or w 0 0 < 12
RowNames e (some x) w = (12 ≤ get_or w 0 0) × ((get_or w 2 0 ≡ x.place) × ((get_or w 3 0 ≡ x.long) × (x.place + x.long ≤ e)))

-- so do the rows, one behind another
unfoldable pub RowsName : (end : ℕ) → List (Option Part) → List ℕ → Type 0
RowsName e [] w = Unit {0}
RowsName e (x ∷ xs) w = RowNames e x w × RowsName e xs (drop 16 w)

module _ (e : ℕ) where
  names-before : (x : Option Part) (u v : List ℕ) → 16 ≤ length u → RowNames e x u → RowNames e x (u ++ v)
  unfolding RowNames
  names-before none u v h n = rw (get_or-append u v 0 0 (omega arith)) n
  names-before (some x) u v h n = rw (get_or-append u v 0 0 (omega arith), get_or-append u v 0 2 (omega arith), get_or-append u v 0 3 (omega arith)) n

  -- a row and those behind it
  rows_cons : (x : Option Part) (xs : List (Option Part)) (u w : List ℕ) → length u ≡ 16 → RowNames e x u → RowsName e xs w → RowsName e (x ∷ xs) (u ++ w)
  unfolding RowsName
  rows_cons x xs u w h n k = (names-before x u w (omega arith) n, rw (drop_at u w 16 h) k)

  rows_append : (xs ys : List (Option Part)) (u v : List ℕ) → length u ≡ 16 * length xs → RowsName e xs u → RowsName e ys v → RowsName e (xs ++ ys) (u ++ v)
  unfolding RowsName
  rows_append [] ys [] v h n k = k
  rows_append [] ys (a ∷ u) v h n k = absurd (omega arith)
  rows_append (x ∷ xs) ys u v h n k =
      let l : 16 ≤ length u = omega arith in
      (names-before x u v l n.0, rw (drop-append-le 16 u v l) (rows_append xs ys (drop 16 u) v (omega (arith, length-drop 16 u)) n.1 k))

-- one part for each row
length_enum_parts : (p : ℕ) (ms : List EnumMember) → length (enum_name_parts p ms) ≡ length ms
unfolding enum_name_parts
length_enum_parts p [] = refl
length_enum_parts p (m ∷ ms) = ap suc (length_enum_parts (p + length m.name) ms)

mutual
  unfolding name_parts row_count

  pub length_parts : (t : Datatype) (p : ℕ) → length (name_parts p t) ≡ row_count t
  length_parts (leaf n x) p = refl
  length_parts (compound n ms) p = ap suc (length_member_parts ms p)
  length_parts (enumeration n t ms) p = ap suc (length-append (name_parts p t) _ ∙ rw (length_parts t p, length_enum_parts))
  length_parts (variable_length i a k t) p = ap suc (length_parts t p)
  length_parts (array ds t) p = ap suc (length_parts t (p + length (dimension_bytes ds)))

  length_member_parts : (ms : Members) (p : ℕ) → length (member_name_parts p ms) ≡ member_row_count ms
  length_member_parts no_members p = refl
  length_member_parts (member b o t ms) p =
      ap suc (length-append (name_parts (p + length b) t) _ ∙ rw (length_parts t (p + length b), length_member_parts ms (p + length b + length (pool_bytes t))))

-- the rows of a type name the parts of its pool bytes
module _ (e : ℕ) where
  rows_none : RowsName e [] []
  unfolding RowsName
  rows_none = tt

  row_type : (k : ℕ) (xs : List (ℕ × ℕ)) → k < 12 → RowNames e none (row k xs)
  unfolding RowNames row
  row_type k xs h = h

  row-leaf : (k : ℕ) (xs : List (ℕ × ℕ)) → k < 12 → RowsName e (none ∷ []) (row k xs)
  unfolding RowsName
  row-leaf k xs h = (row_type k xs h, tt)

  row-member : (p o n : ℕ) → p + n ≤ e → RowNames e (some (record { place = p; long = n })) (member_row p o n)
  unfolding RowNames member_row row
  row-member p o n h = (omega arith, (refl, (refl, h)))

  row_enum_member : (p n v : ℕ) → p + n ≤ e → RowNames e (some (record { place = p; long = n })) (enum_member_row p n v)
  unfolding RowNames enum_member_row row
  row_enum_member p n v h = (omega arith, (refl, (refl, h)))

  enum_names_lem : (ms : List EnumMember) (p : ℕ) → p + length (enum_names ms) ≤ e → RowsName e (enum_name_parts p ms) (enum_rows p ms)
  unfolding enum_name_parts enum_rows enum_names
  enum_names_lem [] p h = rows_none
  enum_names_lem (m ∷ ms) p h =
      let l = length-append m.name (enum_names ms) in
      rows_cons e _ _ _ _ (length-enum_member_row p (length m.name) (length m.value)) (row_enum_member p (length m.name) (length m.value) (omega arith)) (enum_names_lem ms (p + length m.name) (omega arith))

  as_long : (t : Datatype) (p : ℕ) → length (rows p t) ≡ 16 * length (name_parts p t)
  as_long t p = length-rows t p ∙ rw (length_parts t p)

  mutual
    unfolding name_parts rows leaf_row compound_row enumeration_row variable_length_row array_row pool_bytes

    type-names : (t : Datatype) (p : ℕ) → p + length (pool_bytes t) ≤ e → RowsName e (name_parts p t) (rows p t)
    type-names (leaf n x) p h = row-leaf _ _ (omega (arith, leaf_class-low x))
    type-names (compound n ms) p h = rows_cons e none _ _ _ (length-row _ _) (row_type _ _ (omega arith)) (member-names ms p h)
    type-names (enumeration n t ms) p h =
        let l = length-append (pool_bytes t) (enum_names ms ++ enum_values ms) in
        let k = length-append (enum_names ms) (enum_values ms) in
        rows_cons e none _ _ _ (length-row _ _) (row_type _ _ (omega arith))
        (rows_append e _ _ _ _ (as_long t p) (type-names t p (omega arith)) (enum_names_lem ms (p + length (pool_bytes t)) (omega arith)))
    type-names (variable_length i a k t) p h = rows_cons e none _ _ _ (length-row _ _) (row_type _ _ (omega arith)) (type-names t p h)
    type-names (array ds t) p h =
        let l = length-append (dimension_bytes ds) (pool_bytes t) in
        rows_cons e none _ _ _ (length-row _ _) (row_type _ _ (omega arith)) (type-names t (p + length (dimension_bytes ds)) (omega arith))

    member-names : (ms : Members) (p : ℕ) → p + length (member_pool ms) ≤ e → RowsName e (member_name_parts p ms) (member_rows p ms)
    member-names no_members p h = rows_none
    member-names (member b o t ms) p h =
        let l = length-append b (pool_bytes t ++ member_pool ms) in
        let k = length-append (pool_bytes t) (member_pool ms) in
        rows_cons e _ _ _ _ (length-member_row p o (length b)) (row-member p o (length b) (omega arith))
        (rows_append e _ _ _ _ (as_long t (p + length b)) (type-names t (p + length b) (omega arith)) (member-names ms (p + length b + length (pool_bytes t)) (omega arith)))

  row_at : (xs : List (Option Part)) (w : List ℕ) (k : ℕ) → k < length xs → RowsName e xs w → RowNames e (get_or xs k none) (drop (k * 16) w)
  unfolding RowsName
  row_at [] w k h n = absurd (omega arith)
  row_at (x ∷ xs) w zero h n = n.0
  row_at (x ∷ xs) w (suc k) h n =
      let j : 16 + k * 16 ≡ suc k * 16 = omega arith in
      rw (← j, ← drop-drop (k * 16) 16 w) (row_at xs (drop 16 w) k (omega arith) n.1)

-- the parts of a table's rows
module _ (table pool : List ℕ) (t : Datatype) (o : SetsOut t table pool) where
  table-names : RowsName (length pool) (name_parts 0 t) table
  unfolding padded
  table-names =
      let n = rows_append (length pool) (name_parts 0 t) [] (rows 0 t) (zeros (length table - length (rows 0 t))) (as_long (length pool) t 0) (type-names (length pool) t 0 (omega (arith, o.holds-pool))) (unfold RowsName in tt) in
      rw (append-nil, ← o.table_is) at n

  row-names : (k : ℕ) → k < row_count t → RowNames (length pool) (get_or (name_parts 0 t) k none) (drop (k * 16) table)
  row-names k h = row_at (length pool) (name_parts 0 t) table k (omega (arith, length_parts t 0)) table-names

  module _ (k : ℕ) where
    word : (c j : ℕ) → k * 16 + c ≡ j → get_or (drop (k * 16) table) c 0 ≡ get_or table j 0
    word c j e = get_or-drop (k * 16) table c 0 ∙ rw e

    by_kind : (x : Option Part) → RowNames (length pool) x (drop (k * 16) table) → get_or table (k * 16) 0 < 12 → ([] ≡ part_of pool x) × (0 ≡ place_of x)
    unfolding RowNames part_of place_of
    by_kind none n g = (refl, refl)
    by_kind (some x) n g = absurd (omega (arith, word 0 (k * 16) (omega arith), n.0))

    by_words : (x : Option Part) → RowNames (length pool) x (drop (k * 16) table) → 12 ≤ get_or table (k * 16) 0
        → (get_or table (k * 16 + 2) 0 + get_or table (k * 16 + 3) 0 ≤ length pool)
        × ((take (get_or table (k * 16 + 3) 0) (drop (get_or table (k * 16 + 2) 0) pool) ≡ part_of pool x) × (get_or table (k * 16 + 2) 0 ≡ place_of x))
    unfolding RowNames part_of place_of
    by_words none n g = absurd (omega (arith, word 0 (k * 16) (omega arith)))
    by_words (some x) n g =
        let a : get_or table (k * 16 + 2) 0 ≡ x.place = sym (word 2 (k * 16 + 2) refl) ∙ n.1.0 in
        let b : get_or table (k * 16 + 3) 0 ≡ x.long = sym (word 3 (k * 16 + 3) refl) ∙ n.1.1.0 in
        (omega (arith, n.1.1.1), (rw (a, b), a))

-- the answer, by what the check answers
module _ (table pool : List ℕ) (row : ℕ) {r : core.Option Survey} (h : Checks table pool r) where
  pub name-bad : r ≡ core.None → PartIs table pool row (record { place = 0; length = 0 })
  unfolding name_of name_in_of name_place place_in
  name-bad e =
      record {
        place_is = rw (h.bad-table e);
        length-is = rw (h.bad-table e);
        within = omega arith;
        holds = rw (h.bad-table e);
      }

  module _ (b : (i : ℕ) → get_or pool i 0 < 256) {s : Survey} (g : r ≡ core.Some s) where
    set_out : SetsOut (h.good s g).type table pool
    set_out = type_of_sound table pool (h.good s g).type (all-bytes pool b) (h.good s g).is

    many : s.row ≡ row_count (h.good s g).type
    many = omega (arith, (stands_at table pool 32 (h.good s g).type s.row s.place b (h.good s g).stands).row-behind)

    -- by the part of the row
    name-is : (p n : ℕ) → p + n ≤ length pool → take n (drop p pool) ≡ part_of pool (get_or (name_parts 0 (h.good s g).type) row none) → p ≡ place_of (get_or (name_parts 0 (h.good s g).type) row none)
        → PartIs table pool row (record { place = p; length = n })
    unfolding name_of name_in_of name_place place_in
    name-is p n w k q =
        let l : length (take n (drop p pool)) ≡ n = simp (length-take, length-drop) (omega arith) in
        record {
          place_is = rw (h.good s g).is q;
          length-is = rw (h.good s g).is (sym l ∙ ap length k);
          within = w;
          holds = rw (h.good s g).is k;
        }

    pub name-behind : s.row ≤ row → PartIs table pool row (record { place = 0; length = 0 })
    unfolding part_of place_of
    name-behind k =
        let l : length (name_parts 0 (h.good s g).type) ≤ row = omega (arith, many, length_parts (h.good s g).type 0) in
        let d = get_or-eq_default (name_parts 0 (h.good s g).type) none l in
        name-is 0 0 (omega arith) (rw d) (rw d)

    module _ (k : row < s.row) where
      -- its row is one of the table's
      name-inside : (row < 4096) × (row * 16 + 16 ≤ length table)
      name-inside =
          (omega (arith, many, set_out.within.rows_fit), omega (arith, many, set_out.holds_rows, length-rows (h.good s g).type 0))

      -- the same in the form of a need: the words that are read lie in the table, and their numbers and bytes do not wrap
      pub name-first : Fits w64 (row * 16)
      name-first = let i = name-inside in record { fits = omega arith }

      pub name-first-bytes : Fits w64 (row * 16 * 4)
      name-first-bytes = let i = name-inside in record { fits = omega arith }

      pub name-first-inside : row * 16 < length table
      name-first-inside = let i = name-inside in omega arith

      module _ (j : ℕ) (w : j < 16) where
        pub name-word-bytes : Fits w64 ((row * 16 + j) * 4)
        name-word-bytes = let i = name-inside in record { fits = omega arith }

        pub name-word-inside : row * 16 + j < length table
        name-word-inside = let i = name-inside in omega arith

      named : RowNames (length pool) (get_or (name_parts 0 (h.good s g).type) row none) (drop (row * 16) table)
      named = row-names table pool (h.good s g).type set_out row (omega (arith, many))

      pub name-none : get_or table (row * 16) 0 < 12 → PartIs table pool row (record { place = 0; length = 0 })
      name-none e =
          let n = by_kind table pool (h.good s g).type set_out row _ named e in
          name-is 0 0 (omega arith) n.0 n.1

      pub name-some : 12 ≤ get_or table (row * 16) 0 → PartIs table pool row (record { place = get_or table (row * 16 + 2) 0; length = get_or table (row * 16 + 3) 0 })
      name-some e =
          let n = by_words table pool (h.good s g).type set_out row _ named e in
          name-is _ _ n.0 n.1.0 n.1.1

-- the part of a pool at q that is taken: its contents, and where it begins
pub name-taken : {table pool : List ℕ} {row : ℕ} (q : ℕ × ℕ) {x : NamePart} → PartIs table pool row x
    → (take (x.place + x.length - x.place) (drop x.place pool) ≡ name_of table pool row) × ((q.0, x.place + q.1) ≡ further q (name_place table pool row))
unfolding further
name-taken q {x} h =
    let j : x.place + x.length - x.place ≡ x.length = omega arith in
    (rw j h.holds, rw h.place_is)
