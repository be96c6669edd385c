-- "a used row is never all zero": the first word of each row of a type is the row's kind, which is above 0.
use Prim.Native.Nat.{ℕ, zero, suc, ◌+◌, ◌*◌, ◌-◌, ◌<◌}
use mathlib.Core.Path.{◌≡◌}
use mathlib.Core.Bool.{false}
use mathlib.Core.List.{List, [], ◌∷◌, ◌++◌}
use mathlib.Core.Logic.{⊎_elim}
use native.Mathlib.Omega.{arith}
use lib.ListN.{length, get_or, get_or-append}
use lib.Seq.{get_or-append-add}
use lib.Dec.{ltb}
use borrow.Author.Tests.{ltb-true, ltb-false, ne_eqb}
use Rattle.format.specs.Bytes.{all_zero, dimension_bytes}
use Rattle.format.specs.Columns.{kind_column}
use Rattle.format.specs.Datatype.{Datatype, leaf, compound, enumeration, variable_length, array, Members, no_members, member, EnumMember, row_count, member_row_count, pool_bytes}
use Rattle.format.specs.Table.{row, leaf_row, compound_row, enumeration_row, variable_length_row, array_row, member_row, enum_member_row, enum_rows, rows, member_rows, words_at, word_at}
use Rattle.format.proofs.Booleans.{true_or_false}
use Rattle.format.proofs.Rows.{length-row, length-rows, column-at}

-- n rows, the first word of each above 0
abbrev Used : (n : ℕ) → List ℕ → Type 0
Used n l = (r : ℕ) → r < n → 0 < word_at l r kind_column

used_none : (l : List ℕ) → Used 0 l
used_none l r h = absurd (omega arith)

used_append : (m n : ℕ) (x y : List ℕ) → length x ≡ 16 * m → Used m x → Used n y → Used (m + n) (x ++ y)
used_append m n x y e hx hy r h =
    ⊎_elim
    (λ q.
    let lt : r < m = ltb-true r m q in
    rw (get_or-append x y 0 (r * 16 + 0) (omega arith)) (hx r lt))
    (λ q.
    let at : r * 16 + 0 ≡ length x + ((r - m) * 16 + 0) = omega (arith, ltb-false r m q) in
    rw (at, get_or-append-add x y ((r - m) * 16 + 0) 0) (hy (r - m) (omega (arith, ltb-false r m q))))
    (true_or_false (ltb r m))

-- a row of a kind above 0, and rows behind it
used_row : (k : ℕ) (xs : List (ℕ × ℕ)) → Used 1 (row (suc k) xs)
unfolding row
used_row k xs zero h = omega arith
used_row k xs (suc r) h = absurd (omega arith)

used_behind : (k : ℕ) (xs : List (ℕ × ℕ)) (n : ℕ) (y : List ℕ) → Used n y → Used (suc n) (row (suc k) xs ++ y)
used_behind k xs n y h r g = used_append 1 n (row (suc k) xs) y (length-row (suc k) xs) (used_row k xs) h r (omega arith)

used_enum_rows : (p : ℕ) (ms : List EnumMember) → Used (length ms) (enum_rows p ms)
unfolding enum_rows enum_member_row
used_enum_rows p [] = used_none []
used_enum_rows p (m ∷ ms) = used_behind 12 _ (length ms) _ (used_enum_rows (p + length m.name) ms)

mutual
  unfolding rows row_count leaf_row compound_row enumeration_row variable_length_row array_row member_row

  -- the kind of each row of a type
  pub used_rows : (t : Datatype) (p : ℕ) → Used (row_count t) (rows p t)
  used_rows (leaf n x) p = used_row _ _
  used_rows (compound n ms) p = used_behind 6 _ _ _ (used_member_rows ms p)
  used_rows (enumeration n t ms) p =
      used_behind 8 _ _ _ (used_append (row_count t) (length ms) (rows p t) _ (length-rows t p) (used_rows t p) (used_enum_rows (p + length (pool_bytes t)) ms))
  used_rows (variable_length i a c t) p = used_behind 9 _ _ _ (used_rows t p)
  used_rows (array ds t) p = used_behind 10 _ _ _ (used_rows t (p + length (dimension_bytes ds)))

  used_member_rows : (ms : Members) (p : ℕ) → Used (member_row_count ms) (member_rows p ms)
  used_member_rows no_members p = used_none []
  used_member_rows (member b o t ms) p =
      used_behind 11 _ _ _
      (used_append (row_count t) (member_row_count ms) (rows (p + length b) t) _ (length-rows t (p + length b)) (used_rows t (p + length b)) (used_member_rows ms (p + length b + length (pool_bytes t))))

not-all-zero : (w : List ℕ) → 0 < get_or w 0 0 → all_zero w ≡ false
unfolding all_zero
not-all-zero [] h = absurd (omega arith)
not-all-zero (x ∷ w) h = rw (ne_eqb x 0 (λ e. omega arith))

-- no row of a type has only zeros
pub used_row-not-zero : (t : Datatype) (p r : ℕ) → r < row_count t → all_zero (words_at (rows p t) r) ≡ false
used_row-not-zero t p r h = not-all-zero (words_at (rows p t) r) (rw (column-at (rows p t) r kind_column (omega arith)) (used_rows t p r h))
