-- How long rows are, and the words of a row.
use Prim.Native.Nat.{ℕ, suc, ◌+◌, ◌*◌, ◌<◌, ◌≤◌}
use mathlib.Core.Path.{◌≡◌, refl, ap, sym, ◌∙◌}
use mathlib.Core.Bool.{true}
use mathlib.Core.List.{List, [], ◌∷◌, ◌++◌}
use native.Mathlib.Omega.{arith}
use lib.ListN.{length, take, drop, get_or, length-append, length-take, length-drop, take-append-drop}
use lib.Seq.{get_or-take, get_or-drop, drop-drop}
use lib.Dec.{eqb}
use borrow.Author.Tests.{eqb-true, eq-eqb}
use Rattle.format.specs.Bytes.{dimension_bytes}
use Rattle.format.specs.Datatype.{leaf_class, Leaf, fixed_point, floating_point, time, string, bit_field, opaque, reference, Datatype, leaf, compound, enumeration, variable_length, array, Members, no_members, member, EnumMember, row_count, member_row_count, pool_bytes, enum_names}
use Rattle.format.specs.Table.{row, leaf_row, compound_row, enumeration_row, variable_length_row, array_row, member_row, enum_member_row, enum_rows, rows, member_rows, words_at, same_words, column}
use Rattle.format.proofs.Booleans.{and_both}

pub length-row : (k : ℕ) (xs : List (ℕ × ℕ)) → length (row k xs) ≡ 16
unfolding row
length-row k xs = refl

pub length-compound_row : (n k : ℕ) → length (compound_row n k) ≡ 16
unfolding compound_row
length-compound_row n k = length-row _ _

pub length-member_row : (p o n : ℕ) → length (member_row p o n) ≡ 16
unfolding member_row
length-member_row p o n = length-row _ _

pub length-enum_member_row : (p n v : ℕ) → length (enum_member_row p n v) ≡ 16
unfolding enum_member_row
length-enum_member_row p n v = length-row _ _

pub length-enum_rows : (p : ℕ) (ms : List EnumMember) → length (enum_rows p ms) ≡ 16 * length ms
unfolding enum_rows
length-enum_rows p [] = refl
length-enum_rows p (m ∷ ms) = rw (length-append, length-enum_member_row) (omega (arith, length-enum_rows (p + length m.name) ms))

pub length-leaf_row : (p n : ℕ) (x : Leaf) → length (leaf_row p n x) ≡ 16
unfolding leaf_row
length-leaf_row p n x = length-row _ _

-- the classes of leaves
pub leaf_class-low : (x : Leaf) → leaf_class x ≤ 7
unfolding leaf_class
leaf_class-low (fixed_point o s f q) = omega arith
leaf_class-low (floating_point o y) = omega arith
leaf_class-low (time o q) = omega arith
leaf_class-low (string a c) = omega arith
leaf_class-low (bit_field o f q) = omega arith
leaf_class-low (opaque g) = omega arith
leaf_class-low (reference k) = omega arith

mutual
  unfolding rows row_count compound_row enumeration_row variable_length_row array_row

  pub length-rows : (t : Datatype) (p : ℕ) → length (rows p t) ≡ 16 * row_count t
  length-rows (leaf n x) p = length-leaf_row p n x
  length-rows (compound n ms) p = rw (length-append, length-row) (omega (arith, length-member_rows ms p))
  length-rows (enumeration n t ms) p = rw (length-append, length-row, length-append, length-rows t p, length-enum_rows) (omega arith)
  length-rows (variable_length i a c t) p = rw (length-append, length-row) (omega (arith, length-rows t p))
  length-rows (array ds t) p = rw (length-append, length-row) (omega (arith, length-rows t (p + length (dimension_bytes ds))))

  pub length-member_rows : (ms : Members) (p : ℕ) → length (member_rows p ms) ≡ 16 * member_row_count ms
  length-member_rows no_members p = refl
  length-member_rows (member b o t ms) p =
      rw (length-append, length-member_row, length-append, length-rows t (p + length b), length-member_rows ms (p + length b + length (pool_bytes t))) (omega arith)

-- the same words are equal lists
pub same_words_refl : (x : List ℕ) → same_words x x ≡ true
unfolding same_words
same_words_refl [] = refl
same_words_refl (a ∷ x) = rw (eq-eqb a a refl, same_words_refl x)

pub same_words_true : (x y : List ℕ) → same_words x y ≡ true → x ≡ y
unfolding same_words
same_words_true [] [] h = refl
same_words_true [] (b ∷ y) h = cc
same_words_true (a ∷ x) [] h = cc
same_words_true (a ∷ x) (b ∷ y) h =
    let e = and_both (eqb a b) (same_words x y) h in
    rw (eqb-true a b e.0, same_words_true x y e.1)

-- a row's words and what stands behind them
pub words-then : (table : List ℕ) (r : ℕ) → drop (r * 16) table ≡ words_at table r ++ drop (suc r * 16) table
unfolding words_at
words-then table r =
    let e : r * 16 + 16 ≡ suc r * 16 = omega arith in
    sym (take-append-drop 16 (drop (r * 16) table)) ∙ ap (λ (x : List ℕ). take 16 (drop (r * 16) table) ++ x) (drop-drop 16 (r * 16) table ∙ rw e)

pub length-words_at : (table : List ℕ) (r : ℕ) → length (words_at table r) ≡ 16 → r * 16 + 16 ≤ length table
unfolding words_at
length-words_at table r h = omega (arith, h, length-take 16 (drop (r * 16) table), length-drop (r * 16) table)

pub column-at : (table : List ℕ) (r c : ℕ) → c < 16 → column (words_at table r) c ≡ get_or table (r * 16 + c) 0
unfolding words_at
column-at table r c h = get_or-take 16 (drop (r * 16) table) c 0 h ∙ get_or-drop (r * 16) table c 0

-- the members of an enumeration without their values: each name, with the length of the value; their rows and pool bytes
unfoldable pub heads : List EnumMember → List (List ℕ × ℕ)
heads [] = []
heads (m ∷ ms) = (m.name, length m.value) ∷ heads ms

unfoldable pub head_rows : (place : ℕ) → List (List ℕ × ℕ) → List ℕ
head_rows p [] = []
head_rows p (x ∷ ns) = enum_member_row p (length x.0) x.1 ++ head_rows (p + length x.0) ns

unfoldable pub head_names : List (List ℕ × ℕ) → List ℕ
head_names [] = []
head_names (x ∷ ns) = x.0 ++ head_names ns

pub length-heads : (ms : List EnumMember) → length (heads ms) ≡ length ms
unfolding heads
length-heads [] = refl
length-heads (m ∷ ms) = ap suc (length-heads ms)

pub head_rows-heads : (p : ℕ) (ms : List EnumMember) → head_rows p (heads ms) ≡ enum_rows p ms
unfolding heads head_rows enum_rows
head_rows-heads p [] = refl
head_rows-heads p (m ∷ ms) = rw (head_rows-heads (p + length m.name) ms)

pub head_names-heads : (ms : List EnumMember) → head_names (heads ms) ≡ enum_names ms
unfolding heads head_names enum_names
head_names-heads [] = refl
head_names-heads (m ∷ ms) = rw (head_names-heads ms)
