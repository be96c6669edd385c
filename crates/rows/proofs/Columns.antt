-- For each kind of row, the test of its columns that the code makes is the test of `entry_at`; and what each way out of the code answers.
use Prim.Native.Nat.{ℕ, zero, suc, ◌+◌, ◌-◌, ◌*◌, ◌/◌, ◌<◌, ◌≤◌}
use mathlib.Core.Path.{◌≡◌, refl, sym, ap, ◌∙◌}
use mathlib.Core.Bool.{true, ◌&&◌, and_assoc, and-true}
use mathlib.Core.List.{List}
use native.Mathlib.Omega.{arith}
use native.Mathlib.Nat.{mul-one, mul-le-mul_left}
use lib.ListN.{length, get_or}
use lib.Dec.{ltb, eqb}
use borrow.Author.Tests.{eq-eqb}
use Rattle.format.specs.Bytes.{all_zero}
use Rattle.format.specs.Table.{word_at, row, compound_row, enumeration_row, variable_length_row, array_row, member_row, enum_member_row, same_words, isUnknown, kind_of}
use Rattle.format.proofs.TableSteps.{list_at, row_is-words, take-list_at}
use Rattle.std.specs.Prelude.{Option, Some, None}
use Rattle.std.specs.Bool.{then_some}
use Rattle.rows.specs.Entries.{entry_of, entry_at, member_in, member_at_of, enum_member_at_of, EntryInside, MemberInside}
use Rattle.rows.specs.Columns.{clear_columns_of, leaf_columns_of, group_columns_of, variable_length_columns_of, piece_columns_of}
use Rattle.rows.specs.declared.Entry.{Entry}
use Rattle.rows.specs.declared.Entry.TheVariants.{Leaf, Compound, Enumeration, VariableLength, Array}
use Rattle.rows.specs.declared.Member.{Member}
use Rattle.rows.proofs.Decode.{leaf-entry, entry-kind, opaque_picked, entry-inside, member-inside, enum_member_inside}

same_word : (n : ℕ) → eqb n n ≡ true
same_word n = eq-eqb n n refl

module _ (table : List ℕ) (r : ℕ) (h : r * 16 + 16 ≤ length table) where
  columns : (a b : ℕ) → a + (b - a) ≤ 16 → clear_columns_of table r a b ≡ all_zero (list_at table (r * 16) a (b - a))
  unfolding clear_columns_of
  columns a b k = ap all_zero (take-list_at table (r * 16) a (b - a) (omega arith))

-- the entry of a row of each kind
module _ (table pool : List ℕ) (r p : ℕ) (h : r < length table / 16) where
  fits : r * 16 + 16 ≤ length table
  fits = omega arith

  clear : (a b : ℕ) → a + (b - a) ≤ 16 → clear_columns_of table r a b ≡ all_zero (list_at table (r * 16) a (b - a))
  clear a b k = columns table r fits a b k

  pub fixed_point-entry : get_or table (r * 16) 0 ≡ 1 → entry_at table pool r p ≡ then_some (leaf_columns_of table r 6 9 3 && ltb (word_at table r 6) 2) (Leaf 0 (word_at table r 1) 0 (word_at table r 5))
  unfolding leaf-entry row leaf_columns_of all_zero same_words
  fixed_point-entry e = entry-kind table pool r p e ∙ simp (row_is-words table r fits, e, same_word, clear 2 5 (omega arith), clear 6 6 (omega arith), clear 9 16 (omega arith), and_assoc, and-true)

  pub floating_point-entry : get_or table (r * 16) 0 ≡ 2 → entry_at table pool r p ≡ then_some (leaf_columns_of table r 7 14 3) (Leaf 1 (word_at table r 1) 0 (word_at table r 5))
  unfolding leaf-entry row leaf_columns_of all_zero same_words
  floating_point-entry e = entry-kind table pool r p e ∙ simp (row_is-words table r fits, e, same_word, clear 2 5 (omega arith), clear 6 7 (omega arith), clear 14 16 (omega arith), and_assoc, and-true)

  pub time-entry : get_or table (r * 16) 0 ≡ 3 → entry_at table pool r p ≡ then_some (leaf_columns_of table r 8 9 3) (Leaf 2 (word_at table r 1) 0 (word_at table r 5))
  unfolding leaf-entry row leaf_columns_of all_zero same_words
  time-entry e = entry-kind table pool r p e ∙ simp (row_is-words table r fits, e, same_word, clear 2 5 (omega arith), clear 6 8 (omega arith), clear 9 16 (omega arith), and_assoc, and-true)

  pub string-entry : get_or table (r * 16) 0 ≡ 4 → entry_at table pool r p ≡ then_some (leaf_columns_of table r 6 7 3 && ltb (word_at table r 6) 2) (Leaf 3 (word_at table r 1) 0 (word_at table r 5))
  unfolding leaf-entry row leaf_columns_of all_zero same_words
  string-entry e = entry-kind table pool r p e ∙ simp (row_is-words table r fits, e, same_word, clear 2 5 (omega arith), clear 6 6 (omega arith), clear 7 16 (omega arith), and_assoc, and-true)

  pub bit_field-entry : get_or table (r * 16) 0 ≡ 5 → entry_at table pool r p ≡ then_some (leaf_columns_of table r 7 9 3) (Leaf 4 (word_at table r 1) 0 (word_at table r 5))
  unfolding leaf-entry row leaf_columns_of all_zero same_words
  bit_field-entry e = entry-kind table pool r p e ∙ simp (row_is-words table r fits, e, same_word, clear 2 5 (omega arith), clear 6 7 (omega arith), clear 9 16 (omega arith), and_assoc, and-true)

  pub opaque-entry : get_or table (r * 16) 0 ≡ 6 → entry_at table pool r p ≡ then_some (piece_columns_of table pool r p 4 1) (Leaf 5 (word_at table r 1) (word_at table r 3) (word_at table r 5))
  unfolding kind_of row piece_columns_of all_zero same_words
  opaque-entry e = entry-kind table pool r p e ∙ opaque_picked table pool r p ∙ simp (row_is-words table r fits, e, same_word, clear 4 16 (omega arith), and_assoc, and-true, mul-one)

  pub compound-entry : get_or table (r * 16) 0 ≡ 7 → entry_at table pool r p ≡ then_some (group_columns_of table r) (Compound (word_at table r 1) (word_at table r 4))
  unfolding entry_of compound_row row kind_of group_columns_of all_zero same_words
  compound-entry e = entry-kind table pool r p e ∙ simp (row_is-words table r fits, e, same_word, clear 2 4 (omega arith), clear 5 16 (omega arith), and_assoc, and-true)

  pub reference-entry : get_or table (r * 16) 0 ≡ 8 → entry_at table pool r p ≡ then_some (leaf_columns_of table r 6 6 2) (Leaf 7 (word_at table r 1) 0 (word_at table r 5))
  unfolding leaf-entry row leaf_columns_of all_zero same_words
  reference-entry e = entry-kind table pool r p e ∙ simp (row_is-words table r fits, e, same_word, clear 2 5 (omega arith), clear 6 6 (omega arith), clear 6 16 (omega arith), and_assoc, and-true)

  pub enumeration-entry : get_or table (r * 16) 0 ≡ 9 → entry_at table pool r p ≡ then_some (group_columns_of table r) (Enumeration (word_at table r 1) (word_at table r 4))
  unfolding entry_of enumeration_row row kind_of group_columns_of all_zero same_words
  enumeration-entry e = entry-kind table pool r p e ∙ simp (row_is-words table r fits, e, same_word, clear 2 4 (omega arith), clear 5 16 (omega arith), and_assoc, and-true)

  pub variable_length-entry : get_or table (r * 16) 0 ≡ 10 → entry_at table pool r p ≡ then_some (variable_length_columns_of table r) (VariableLength (word_at table r 5) (word_at table r 6) (word_at table r 7))
  unfolding entry_of variable_length_row row kind_of variable_length_columns_of all_zero same_words
  variable_length-entry e = entry-kind table pool r p e ∙ simp (row_is-words table r fits, e, same_word, clear 1 5 (omega arith), clear 8 16 (omega arith), and_assoc, and-true)

  pub array-entry : get_or table (r * 16) 0 ≡ 11 → entry_at table pool r p ≡ then_some (eqb (word_at table r 1) 0 && piece_columns_of table pool r p 4 4) (Array (word_at table r 3))
  unfolding entry_of array_row row kind_of piece_columns_of all_zero same_words
  array-entry e = entry-kind table pool r p e ∙ simp (row_is-words table r fits, e, same_word, clear 4 16 (omega arith), and_assoc, and-true)

  pub member-entry : member_at_of table pool r p ≡ then_some (eqb (get_or table (r * 16) 0) 12 && piece_columns_of table pool r p 4 1) (member_in table r 1)
  unfolding member_at_of member_row row piece_columns_of all_zero same_words
  member-entry = simp (row_is-words table r fits, same_word, clear 4 16 (omega arith), and_assoc, and-true, mul-one)

  pub enum_member_entry : enum_member_at_of table pool r p ≡ then_some ((eqb (get_or table (r * 16) 0) 13 && eqb (word_at table r 1) 0) && piece_columns_of table pool r p 5 1) (member_in table r 4)
  unfolding enum_member_at_of enum_member_row row piece_columns_of all_zero same_words
  enum_member_entry = simp (row_is-words table r fits, same_word, clear 5 16 (omega arith), and_assoc, and-true, mul-one)

-- no kind of a type
abbrev pub NoKind : ℕ → Type 0
NoKind w = ((((((((((Unit {0} × (w ≡ 1 → ⊥)) × (w ≡ 2 → ⊥)) × (w ≡ 3 → ⊥)) × (w ≡ 4 → ⊥)) × (w ≡ 5 → ⊥)) × (w ≡ 6 → ⊥)) × (w ≡ 7 → ⊥)) × (w ≡ 8 → ⊥)) × (w ≡ 9 → ⊥)) × (w ≡ 10 → ⊥)) × (w ≡ 11 → ⊥)

no_kind_unknown : (w : ℕ) → NoKind w → kind_of w ≡ isUnknown
unfolding kind_of
no_kind_unknown zero n = refl
no_kind_unknown (suc zero) n = absurd (n.0.0.0.0.0.0.0.0.0.0.1 refl)
no_kind_unknown (suc (suc zero)) n = absurd (n.0.0.0.0.0.0.0.0.0.1 refl)
no_kind_unknown (suc (suc (suc zero))) n = absurd (n.0.0.0.0.0.0.0.0.1 refl)
no_kind_unknown (suc (suc (suc (suc zero)))) n = absurd (n.0.0.0.0.0.0.0.1 refl)
no_kind_unknown (suc (suc (suc (suc (suc zero))))) n = absurd (n.0.0.0.0.0.0.1 refl)
no_kind_unknown (suc (suc (suc (suc (suc (suc zero)))))) n = absurd (n.0.0.0.0.0.1 refl)
no_kind_unknown (suc (suc (suc (suc (suc (suc (suc zero))))))) n = absurd (n.0.0.0.0.1 refl)
no_kind_unknown (suc (suc (suc (suc (suc (suc (suc (suc zero)))))))) n = absurd (n.0.0.0.1 refl)
no_kind_unknown (suc (suc (suc (suc (suc (suc (suc (suc (suc zero))))))))) n = absurd (n.0.0.1 refl)
no_kind_unknown (suc (suc (suc (suc (suc (suc (suc (suc (suc (suc zero)))))))))) n = absurd (n.0.1 refl)
no_kind_unknown (suc (suc (suc (suc (suc (suc (suc (suc (suc (suc (suc zero))))))))))) n = absurd (n.1 refl)
no_kind_unknown (suc (suc (suc (suc (suc (suc (suc (suc (suc (suc (suc (suc w)))))))))))) n = refl

-- a row that the table has no room for is unknown
outside : (e : Option Entry) (w b r p : ℕ) → EntryInside e w b r p → w / 16 ≤ r → None ≡ e
unfolding EntryInside
outside (Some e) w b r p i h = absurd (omega arith)
outside None w b r p i h = refl

outside_member : (m : Option Member) (w b r p : ℕ) → MemberInside m w b r p → w / 16 ≤ r → None ≡ m
unfolding MemberInside
outside_member (Some m) w b r p i h = absurd (omega arith)
outside_member None w b r p i h = refl

-- the answers of the code
module _ (table pool : List ℕ) (r p : ℕ) where
  pub answered : {x : Option Entry} → x ≡ entry_at table pool r p → (x ≡ entry_at table pool r p) × EntryInside x (length table) (length pool) r p
  answered e = (e, rw e (entry-inside table pool r p))

  pub no_kind_entry : NoKind (get_or table (r * 16) 0) → None ≡ entry_at table pool r p
  unfolding entry_of
  no_kind_entry n = sym (entry-kind table pool r p refl ∙ rw (no_kind_unknown (get_or table (r * 16) 0) n))

  pub short-entry : length table / 16 ≤ r → None ≡ entry_at table pool r p
  short-entry h = outside (entry_at table pool r p) (length table) (length pool) r p (entry-inside table pool r p) h

  pub answered-member : {x : Option Member} → x ≡ member_at_of table pool r p → (x ≡ member_at_of table pool r p) × MemberInside x (length table) (length pool) r p
  answered-member e = (e, rw e (member-inside table pool r p))

  pub short-member : length table / 16 ≤ r → None ≡ member_at_of table pool r p
  short-member h = outside_member (member_at_of table pool r p) (length table) (length pool) r p (member-inside table pool r p) h

  pub answered_enum_member : {x : Option Member} → x ≡ enum_member_at_of table pool r p → (x ≡ enum_member_at_of table pool r p) × MemberInside x (length table) (length pool) r p
  answered_enum_member e = (e, rw e (enum_member_inside table pool r p))

  pub short_enum_member : length table / 16 ≤ r → None ≡ enum_member_at_of table pool r p
  short_enum_member h = outside_member (enum_member_at_of table pool r p) (length table) (length pool) r p (enum_member_inside table pool r p) h

-- a piece's length in bytes and the place behind it do not wrap
pub product_small : (n width : ℕ) → n < 4294967296 → width ≤ 4 → n * width ≤ 17179869180
product_small n width h k = let a : n * width ≤ n * 4 = mul-le-mul_left n k in omega arith
