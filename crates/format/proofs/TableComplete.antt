-- What is set out there, the walk finds.
use Prim.Native.Nat.{ℕ, zero, suc, ◌+◌, ◌*◌, ◌≤◌}
use mathlib.Core.Path.{◌≡◌, refl, ap, sym, ◌∙◌}
use mathlib.Core.Bool.{Bool, true, ◌&&◌}
use mathlib.Core.List.{List, [], ◌∷◌, ◌++◌, append_assoc, append-nil}
use native.Mathlib.Omega.{arith}
use native.Mathlib.Nat.{add-zero}
use native.Mathlib.Numerals.{add-one}
use lib.ListN.{length, drop, length-append, length-drop}
use lib.Seq.{drop-drop, take_at, drop_at}
use lib.Dec.{ltb}
use borrow.Author.Tests.{le-leb}
use Rattle.format.specs.Bytes.{dimension_bytes, dimensions_from}
use Rattle.format.specs.Datatype.{Leaf, fixed_point, floating_point, time, string, bit_field, opaque, reference, leaf_class, leaf_pool, Datatype, leaf, compound, enumeration, variable_length, array, Members, no_members, member, EnumMember, member_count_of, depth, member_depth, row_count, member_row_count, pool_bytes, member_pool, enum_names, enum_values}
use Rattle.format.specs.Table.{row, column, columns_of, leaf_row, compound_row, enumeration_row, variable_length_row, array_row, member_row, enum_member_row, enum_rows, LeafKind, isFixedPoint, isFloatingPoint, isTime, is_string_of, isBitField, isOpaque, isReference, is_leaf, tag_at, leaf_of, rows, member_rows, all_below, known, known_members, found, Walk, and_then, test, words_at, next_row_of, next_piece, members_at, enum_names_at, enum_values_at, kind_of, type_from, type_at}
use Rattle.format.proofs.Booleans.{and_both, and_true}
use Rattle.format.proofs.Zeros.{length-dimension_bytes, dimensions_from-dimension_bytes}
use Rattle.format.proofs.Rows.{length-leaf_row, length-member_row, length-enum_member_row, length-enum_rows, length-rows, same_words_refl, heads}

-- x is the table from row r on, and y the pool from place p on
pub record From (table pool : List ℕ) (r p : ℕ) (x y : List ℕ) : Type 0 where
  pub words : drop (r * 16) table ≡ x
  pub bytes : drop p pool ≡ y
  pub inside : p ≤ length pool

pub depth_positive : (t : Datatype) → 1 ≤ depth t
unfolding depth
depth_positive (leaf n x) = omega arith
depth_positive (compound n ms) = omega arith
depth_positive (enumeration n t ms) = omega arith
depth_positive (variable_length i a c t) = omega arith
depth_positive (array ds t) = omega arith

-- a leaf is what its row says
leaf_kind : Leaf → LeafKind
leaf_kind (fixed_point o s f q) = isFixedPoint
leaf_kind (floating_point o y) = isFloatingPoint
leaf_kind (time o q) = isTime
leaf_kind (string a c) = is_string_of
leaf_kind (bit_field o f q) = isBitField
leaf_kind (opaque g) = isOpaque
leaf_kind (reference k) = isReference

record LeafBack (w : List ℕ) (n : ℕ) (x : Leaf) : Type 0 where
  kind : kind_of (column w 0) ≡ is_leaf (leaf_kind x)
  size : column w 1 ≡ n
  is : leaf_of (column w) (leaf_pool x) (leaf_kind x) ≡ x

leaf-back : (p n : ℕ) (x : Leaf) → LeafBack (leaf_row p n x) n x
unfolding leaf_row columns_of leaf_class row kind_of leaf_pool leaf_of leaf_kind
leaf-back p n (fixed_point o s f q) = record { kind = refl; size = refl; is = refl }
leaf-back p n (floating_point o y) = record { kind = refl; size = refl; is = refl }
leaf-back p n (time o q) = record { kind = refl; size = refl; is = refl }
leaf-back p n (string a c) = record { kind = refl; size = refl; is = refl }
leaf-back p n (bit_field o f q) = record { kind = refl; size = refl; is = refl }
leaf-back p n (opaque g) = record { kind = refl; size = refl; is = refl }
leaf-back p n (reference k) = record { kind = refl; size = refl; is = refl }

pub test_at : (c : Bool) (r p : ℕ) → c ≡ true → test c r p ≡ found tt r p
unfolding test
test_at c r p h = rw h

module _ (table pool : List ℕ) where
  pub from-words : (r p : ℕ) (w : List ℕ) (n : ℕ) {x y : List ℕ} → From table pool r p (w ++ x) y → length w ≡ 16 * n → From table pool (r + n) p x y
  from-words r p w n {x} {y} h l =
      let e : (r + n) * 16 ≡ r * 16 + length w = omega arith in
      record { words = rw (e, ← drop-drop (length w) (r * 16) table, h.words) (drop_at w x (length w) refl); bytes = h.bytes; inside = h.inside }

  pub from_row : (r p : ℕ) (w : List ℕ) {x y : List ℕ} → From table pool r p (w ++ x) y → length w ≡ 16 → From table pool (suc r) p x y
  from_row r p w h l = let e : r + 1 ≡ suc r = omega arith in rw e at (from-words r p w 1 h l)

  pub from_bytes : (r p : ℕ) (g : List ℕ) {x y : List ℕ} → From table pool r p x (g ++ y) → From table pool r (p + length g) x y
  from_bytes r p g {x} {y} h =
      record {
        words = h.words;
        bytes = sym (drop-drop (length g) p pool) ∙ rw h.bytes (drop_at g y (length g) refl);
        inside = omega (arith, h.inside, ap length h.bytes, length-drop p pool, length-append g y);
      }

  pub row_at : (r p : ℕ) (w x : List ℕ) {y : List ℕ} → From table pool r p (w ++ x) y → length w ≡ 16 → next_row_of table r p ≡ found w (suc r) p
  unfolding next_row_of words_at
  row_at r p w x h l = rw (h.words, take_at w x 16 l)

  pub piece-at : (r p : ℕ) (g y : List ℕ) (n : ℕ) {x : List ℕ} → From table pool r p x (g ++ y) → length g ≡ n → next_piece pool n r p ≡ found g r (p + n)
  unfolding next_piece
  piece-at r p g y n h l =
      let b = from_bytes r p g h in
      rw (le-leb (p + n) (length pool) (omega (arith, b.inside)), h.bytes, take_at g y n l)

  tag-at : (r p q n : ℕ) (v : Leaf) (y : List ℕ) {x : List ℕ} → From table pool r p x (leaf_pool v ++ y)
      → tag_at pool (column (leaf_row q n v) 3) (leaf_kind v) r p ≡ found (leaf_pool v) r (p + length (leaf_pool v))
  unfolding tag_at leaf_kind leaf_pool leaf_row row columns_of
  tag-at r p q n (fixed_point o s f g) y h = rw (add-zero p)
  tag-at r p q n (floating_point o z) y h = rw (add-zero p)
  tag-at r p q n (time o g) y h = rw (add-zero p)
  tag-at r p q n (string a c) y h = rw (add-zero p)
  tag-at r p q n (bit_field o f g) y h = rw (add-zero p)
  tag-at r p q n (opaque g) y h = piece-at r p g y (length g) h refl
  tag-at r p q n (reference i) y h = rw (add-zero p)

  -- the walk finds t wherever its rows and pool bytes stand
  abbrev pub Finds : Walk Datatype → Datatype → Type 0
  Finds rd t = (r p : ℕ) (x y : List ℕ) → From table pool r p (rows p t ++ x) (pool_bytes t ++ y) → rd r p ≡ found t (r + row_count t) (p + length (pool_bytes t))

  finds_members : (k : ℕ) (rd : Walk Datatype) → ((t : Datatype) → depth t ≤ k → known t ≡ true → Finds rd t)
      → (ms : Members) → member_depth ms ≤ k → known_members ms ≡ true
      → (r p : ℕ) (x y : List ℕ) → From table pool r p (member_rows p ms ++ x) (member_pool ms ++ y)
      → members_at rd table pool (member_count_of ms) r p ≡ found ms (r + member_row_count ms) (p + length (member_pool ms))
  unfolding members_at and_then rows pool_bytes known row_count depth member_count_of member_row row
  finds_members k rd h no_members d c r p x y f = rw (add-zero r, add-zero p)
  finds_members k rd h (member b o t ms) d c r p x y f =
      let g : From table pool r p (member_row p o (length b) ++ (rows (p + length b) t ++ (member_rows (p + length b + length (pool_bytes t)) ms ++ x))) (b ++ (pool_bytes t ++ (member_pool ms ++ y)))
      = simp append_assoc at f in
      let cs = and_both (known t) (known_members ms) c in
      let f1 = from_row r p (member_row p o (length b)) g (length-member_row p o (length b)) in
      let f2 = from_bytes (suc r) p b f1 in
      let f3 = from-words (suc r) (p + length b) (rows (p + length b) t) (row_count t) f2 (length-rows t (p + length b)) in
      let f4 = from_bytes (suc r + row_count t) (p + length b) (pool_bytes t) f3 in
      let e : suc r + row_count t + member_row_count ms ≡ r + suc (row_count t + member_row_count ms) = omega arith in
      rw (
        row_at r p (member_row p o (length b)) _ g (length-member_row p o (length b)),
        test_at _ _ _ (same_words_refl (member_row p o (length b))),
        piece-at (suc r) p b _ (length b) f1 refl,
        h t (omega arith) cs.0 (suc r) (p + length b) _ _ f2,
        finds_members k rd h ms (omega arith) cs.1 (suc r + row_count t) (p + length b + length (pool_bytes t)) x y f4,
        e,
        length-append b,
        length-append (pool_bytes t),
      )
      (ap (λ (n : ℕ). found (member b o t ms) (r + suc (row_count t + member_row_count ms)) n) (omega arith))

  finds_heads : (ms : List EnumMember) (r p : ℕ) (x y : List ℕ) → From table pool r p (enum_rows p ms ++ x) (enum_names ms ++ y)
      → enum_names_at table pool (length ms) r p ≡ found (heads ms) (r + length ms) (p + length (enum_names ms))
  unfolding enum_names_at and_then enum_rows enum_names heads enum_member_row row
  finds_heads [] r p x y f = rw (add-zero r, add-zero p)
  finds_heads (m ∷ ms) r p x y f =
      let b = m.name in
      let v = length m.value in
      let w = enum_member_row p (length b) v in
      let g : From table pool r p (w ++ (enum_rows (p + length b) ms ++ x)) (b ++ (enum_names ms ++ y)) = simp append_assoc at f in
      let f1 = from_row r p w g (length-enum_member_row p (length b) v) in
      let f2 = from_bytes (suc r) p b f1 in
      let e : suc r + length ms ≡ r + suc (length ms) = omega arith in
      rw (
        row_at r p w _ g (length-enum_member_row p (length b) v),
        test_at _ _ _ (same_words_refl w),
        piece-at (suc r) p b _ (length b) f1 refl,
        finds_heads ms (suc r) (p + length b) x y f2,
        e,
        length-append b,
      )
      (ap (λ (n : ℕ). found (heads (m ∷ ms)) (r + suc (length ms)) n) (omega arith))

  finds_values : (ms : List EnumMember) (r p : ℕ) (x y : List ℕ) → From table pool r p x (enum_values ms ++ y)
      → enum_values_at pool (heads ms) r p ≡ found ms r (p + length (enum_values ms))
  unfolding enum_values_at and_then enum_values heads
  finds_values [] r p x y f = rw (add-zero p)
  finds_values (m ∷ ms) r p x y f =
      let v = m.value in
      let g : From table pool r p x (v ++ (enum_values ms ++ y)) = simp append_assoc at f in
      rw (piece-at r p v _ (length v) g refl, finds_values ms r (p + length v) x y (from_bytes r p v g), length-append v)
      (ap (λ (n : ℕ). found (m ∷ ms) r n) (omega arith))

  -- what is set out there, the walk finds
  pub type_at_complete : (k : ℕ) (t : Datatype) → depth t ≤ k → known t ≡ true → Finds (type_at k table pool) t
  unfolding type_at type_from kind_of and_then rows pool_bytes known row_count depth row compound_row enumeration_row variable_length_row array_row
  type_at_complete zero t d c r p x y f = absurd (omega (arith, depth_positive t))
  type_at_complete (suc k) (leaf n x) d c r p v y h =
      let w = leaf_row p n x in
      let l = length-leaf_row p n x in
      let b = leaf-back p n x in
      rw (
        row_at r p w v h l,
        b.kind,
        tag-at (suc r) p p n x y (from_row r p w h l),
        b.size,
        b.is,
        test_at _ _ _ (same_words_refl w),
        test_at _ _ _ c,
        add-one r,
      )
  type_at_complete (suc k) (compound n ms) d c r p x y h =
      let w = compound_row n (member_count_of ms) in
      let g : From table pool r p (w ++ (member_rows p ms ++ x)) (member_pool ms ++ y) = simp append_assoc at h in
      let e : suc r + member_row_count ms ≡ r + suc (member_row_count ms) = omega arith in
      rw (row_at r p w _ g refl, test_at _ _ _ (same_words_refl w), finds_members k (type_at k table pool) (type_at_complete k) ms (omega arith) c (suc r) p x y (from_row r p w g refl), e)
  type_at_complete (suc k) (enumeration n t ms) d c r p x y h =
      let w = enumeration_row n (length ms) in
      let q = p + length (pool_bytes t) in
      let g : From table pool r p (w ++ (rows p t ++ (enum_rows q ms ++ x))) (pool_bytes t ++ (enum_names ms ++ (enum_values ms ++ y))) = simp append_assoc at h in
      let f1 = from_row r p w g refl in
      let f2 = from_bytes (suc r + row_count t) p (pool_bytes t) (from-words (suc r) p (rows p t) (row_count t) f1 (length-rows t p)) in
      let f3 = from_bytes (suc r + row_count t + length ms) q (enum_names ms) (from-words (suc r + row_count t) q (enum_rows q ms) (length ms) f2 (length-enum_rows q ms)) in
      let e : suc r + row_count t + length ms ≡ r + suc (row_count t + length ms) = omega arith in
      rw (
        row_at r p w _ g refl,
        test_at _ _ _ (same_words_refl w),
        type_at_complete k t (omega arith) c (suc r) p _ _ f1,
        finds_heads ms (suc r + row_count t) q x _ f2,
        finds_values ms (suc r + row_count t + length ms) (q + length (enum_names ms)) x y f3,
        e,
        length-append (pool_bytes t),
        length-append (enum_names ms),
      )
      (ap (λ (i : ℕ). found (enumeration n t ms) (r + suc (row_count t + length ms)) i) (omega arith))
  type_at_complete (suc k) (variable_length i a s t) d c r p x y h =
      let w = variable_length_row i a s in
      let g : From table pool r p (w ++ (rows p t ++ x)) (pool_bytes t ++ y) = simp append_assoc at h in
      let c1 = and_both (ltb i 2) (ltb a 4 && (ltb s 3 && known t)) c in
      let c2 = and_both (ltb a 4) (ltb s 3 && known t) c1.1 in
      let c3 = and_both (ltb s 3) (known t) c2.1 in
      let e : suc r + row_count t ≡ r + suc (row_count t) = omega arith in
      rw (
        row_at r p w _ g refl,
        test_at _ _ _ (same_words_refl w),
        test_at _ _ _ (and_true _ _ c1.0 (and_true _ _ c2.0 c3.0)),
        type_at_complete k t (omega arith) c3.1 (suc r) p x y (from_row r p w g refl),
        e,
      )
  type_at_complete (suc k) (array ds t) d c r p x y h =
      let w = array_row p (length ds) in
      let b = dimension_bytes ds in
      let g : From table pool r p (w ++ (rows (p + length b) t ++ x)) (b ++ (pool_bytes t ++ y)) = simp append_assoc at h in
      let cs = and_both (all_below 4294967296 ds) (known t) c in
      let f1 = from_row r p w g refl in
      let l : length b ≡ length ds * 4 = length-dimension_bytes ds in
      let e : suc r + row_count t ≡ r + suc (row_count t) = omega arith in
      let v : dimensions_from (length ds) b ≡ ds = rw append-nil at (dimensions_from-dimension_bytes ds [] cs.0) in
      rw (
        row_at r p w _ g refl,
        test_at _ _ _ (same_words_refl w),
        piece-at (suc r) p b _ (length ds * 4) f1 l,
        ← l,
        type_at_complete k t (omega arith) cs.1 (suc r) (p + length b) x y (from_bytes (suc r) p b f1),
        v,
        e,
        length-append b,
      )
      (ap (λ (i : ℕ). found (array ds t) (r + suc (row_count t)) i) (omega arith))
