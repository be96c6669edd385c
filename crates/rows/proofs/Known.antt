-- Rows that are read again without a test: the answer is the definition's, unless the row is unknown; and what that gives a walk.
use Prim.Native.Nat.{ℕ, zero, suc, ◌+◌, ◌-◌, ◌*◌, ◌/◌, ◌<◌, ◌≤◌, max}
use mathlib.Core.Path.{◌≡◌, refl, sym, ◌∙◌}
use mathlib.Core.Bool.{Bool, true, false, false≢true, ◌&&◌, ◌||◌}
use mathlib.Core.List.{List}
use native.Mathlib.Omega.{arith}
use native.Mathlib.Nat.{mul-one}
use lib.ListN.{length, get_or}
use lib.Dec.{leb, eqb}
use mir.Syntax.{w64}
use mir.Val.{Fits}
use borrow.Author.Tests.{leb-true, leb-false, le-leb, lt-leb, ne_eqb}
use Rattle.format.specs.Columns.{place_column}
use Rattle.format.specs.Datatype.{Datatype, Members}
use Rattle.format.specs.Table.{word_at, row_is_of, row, array_row, member_row, enum_member_row, Found, bad, Walk, Kind, is_leaf, isCompound, isEnumeration, isVariableLength, isArray, isUnknown, kind_of, members_at, enum_names_at, type_at}
use Rattle.format.proofs.Booleans.{and_both}
use Rattle.format.proofs.TableSteps.{row_is-true}
use Rattle.std.specs.Prelude.{Option, Some, None, is_some}
use Rattle.std.specs.Bool.{then_some}
use Rattle.rows.specs.Entries.{leaf_entry, entry_of, entry_at, member_in, member_at_of, enum_member_at_of, PieceInside, EntryInside, IfKnown, entry_fits_of, RowSays, RowNames, MemberInside, from_entry, from_member, from_enum_member}
use Rattle.rows.specs.declared.Entry.{Entry}
use Rattle.rows.specs.declared.Entry.TheVariants.{Leaf, Compound, Enumeration, VariableLength, Array}
use Rattle.rows.specs.declared.Member.{Member}
use Rattle.std.proofs.lemmas.Option.{same_Some}
use Rattle.rows.specs.Columns.{piece_columns_of, IsRow}
use Rattle.rows.proofs.Words.{one-row, stands, same-columns, same-member, same-enum-member}
use Rattle.rows.proofs.Columns.{NoKind, answered, no_kind_entry, short-entry, answered-member, short-member, answered_enum_member, short_enum_member, member-entry, enum_member_entry}
use Rattle.rows.proofs.Decode.{leaf-entry, entry-kind, opaque_picked, type_at_entry, members_at-entry, enum_names_at-entry, entry-inside}

known-itself : {A : Type 0} (e : Option A) → IfKnown e e
unfolding IfKnown
known-itself (Some x) = refl
known-itself None = tt

-- a test that a row is known leaves its entry, or member
known-tested : {A : Type 0} (b : Bool) (x : A) → IfKnown (then_some b x) (Some x)
unfolding IfKnown
known-tested true x = refl
known-tested false x = tt

known-part : {A : Type 0} (a b : Bool) (x : A) → IfKnown (then_some (a && b) x) (then_some b x)
unfolding IfKnown
known-part true b x = known-itself (then_some b x)
known-part false b x = tt

-- a piece at a place ends in the pool if its length is at most what is behind the place
pub fits-behind : (place bytes lent : ℕ) → place ≤ lent → leb bytes (lent - place) ≡ leb (place + bytes) lent
fits-behind place bytes lent h = go (leb bytes (lent - place)) refl
  where
    go : (b : Bool) → leb bytes (lent - place) ≡ b → b ≡ leb (place + bytes) lent
    go true e = sym (le-leb (place + bytes) lent (omega (arith, leb-true bytes (lent - place) e)))
    go false e = sym (lt-leb (place + bytes) lent (omega (arith, leb-false bytes (lent - place) e)))

pub fits-past : (place bytes lent : ℕ) → lent < place → false ≡ leb (place + bytes) lent
fits-past place bytes lent h = sym (lt-leb (place + bytes) lent (omega arith))

-- a row of each kind, which lies in the table
module _ (table : List ℕ) (r : ℕ) where
  unknown_says : ((pool : List ℕ) (p : ℕ) → None ≡ entry_at table pool r p) → RowSays table r None
  unfolding IfKnown
  unknown_says f = record { is = λ pool p. rw (← f pool p) tt; inside = λ k. absurd (false≢true k) }

  pub says-short : length table / 16 ≤ r → RowSays table r None
  says-short h = unknown_says (λ pool p. short-entry table pool r p h)

  pub names-short : length table / 16 ≤ r → RowNames table r None
  unfolding IfKnown
  names-short h = record { is = λ pool p. rw (← short-member table pool r p h) tt; inside = λ k. absurd (false≢true k) }

  module _ (h : r < length table / 16) where
    abbrev kind : ℕ
    kind = get_or table (r * 16) 0

    says : {e : Entry} → ((pool : List ℕ) (p : ℕ) → IfKnown (entry_at table pool r p) (Some e)) → RowSays table r (Some e)
    says f = record { is = f; inside = λ k. omega arith }

    pub says-fixed_point : kind ≡ 1 → RowSays table r (Some (Leaf 0 (word_at table r 1) 0 (word_at table r 5)))
    unfolding leaf-entry
    says-fixed_point e = says (λ pool p. rw (entry-kind table pool r p e) (known-tested _ _))

    pub says-floating_point : kind ≡ 2 → RowSays table r (Some (Leaf 1 (word_at table r 1) 0 (word_at table r 5)))
    unfolding leaf-entry
    says-floating_point e = says (λ pool p. rw (entry-kind table pool r p e) (known-tested _ _))

    pub says-time : kind ≡ 3 → RowSays table r (Some (Leaf 2 (word_at table r 1) 0 (word_at table r 5)))
    unfolding leaf-entry
    says-time e = says (λ pool p. rw (entry-kind table pool r p e) (known-tested _ _))

    pub says-string : kind ≡ 4 → RowSays table r (Some (Leaf 3 (word_at table r 1) 0 (word_at table r 5)))
    unfolding leaf-entry
    says-string e = says (λ pool p. rw (entry-kind table pool r p e) (known-tested _ _))

    pub says-bit_field : kind ≡ 5 → RowSays table r (Some (Leaf 4 (word_at table r 1) 0 (word_at table r 5)))
    unfolding leaf-entry
    says-bit_field e = says (λ pool p. rw (entry-kind table pool r p e) (known-tested _ _))

    pub says-opaque : kind ≡ 6 → RowSays table r (Some (Leaf 5 (word_at table r 1) (word_at table r 3) (word_at table r 5)))
    unfolding kind_of
    says-opaque e = says (λ pool p. rw (entry-kind table pool r p e, opaque_picked table pool r p) (known-tested _ _))

    pub says-compound : kind ≡ 7 → RowSays table r (Some (Compound (word_at table r 1) (word_at table r 4)))
    unfolding entry_of kind_of
    says-compound e = says (λ pool p. rw (entry-kind table pool r p e) (known-tested _ _))

    pub says-reference : kind ≡ 8 → RowSays table r (Some (Leaf 7 (word_at table r 1) 0 (word_at table r 5)))
    unfolding leaf-entry
    says-reference e = says (λ pool p. rw (entry-kind table pool r p e) (known-tested _ _))

    pub says-enumeration : kind ≡ 9 → RowSays table r (Some (Enumeration (word_at table r 1) (word_at table r 4)))
    unfolding entry_of kind_of
    says-enumeration e = says (λ pool p. rw (entry-kind table pool r p e) (known-tested _ _))

    pub says-variable_length : kind ≡ 10 → RowSays table r (Some (VariableLength (word_at table r 5) (word_at table r 6) (word_at table r 7)))
    unfolding entry_of kind_of
    says-variable_length e = says (λ pool p. rw (entry-kind table pool r p e) (known-tested _ _))

    pub says-array : kind ≡ 11 → RowSays table r (Some (Array (word_at table r 3)))
    unfolding entry_of kind_of
    says-array e = says (λ pool p. rw (entry-kind table pool r p e) (known-tested _ _))

    pub says_none : NoKind kind → RowSays table r None
    says_none n = unknown_says (λ pool p. no_kind_entry table pool r p n)

    names-member : RowNames table r (Some (member_in table r 1))
    unfolding member_at_of
    names-member = record { is = λ pool p. known-tested _ _; inside = λ k. omega arith }

-- ---- by the test of a row

-- a test that tells whether the row is known picks its entry
pub known_is : (table pool : List ℕ) (r p : ℕ) (e : Entry) {a b : Bool} → entry_at table pool r p ≡ then_some b e → a ≡ b → a ≡ is_some (entry_at table pool r p)
known_is table pool r p e {a = a} {b = b} f g = g ∙ rw f (go b)
  where
    go : (b : Bool) → b ≡ is_some (then_some b e)
    go true = refl
    go false = refl

pub none-known : (table pool : List ℕ) (r p : ℕ) → NoKind (get_or table (r * 16) 0) → false ≡ is_some (entry_at table pool r p)
none-known table pool r p n = rw (← no_kind_entry table pool r p n)

known_picked : (y : Option Entry) (e : Entry) → IfKnown y (Some e) → then_some (is_some y) e ≡ y
unfolding IfKnown
known_picked (Some x) e q = q
known_picked None e q = refl

-- a row that is read again: its piece is tested to lie in the pool
module _ (r p : ℕ) where
  tag_fits : (l bytes : ℕ) → p + l ≤ max bytes p → (eqb l 0 || leb (p + l) bytes) ≡ true
  tag_fits zero bytes i = refl
  tag_fits (suc l) bytes i = rw (ne_eqb (suc l) 0 (λ z. omega arith)) (le-leb (p + suc l) bytes (omega arith))

  tag-inside : (l bytes : ℕ) → (eqb l 0 || leb (p + l) bytes) ≡ true → p + l ≤ max bytes p
  tag-inside zero bytes i = omega arith
  tag-inside (suc l) bytes i = omega (arith, leb-true (p + suc l) bytes (rw (ne_eqb (suc l) 0 (λ z. omega arith)) at i))

  again-is : (y : Option Entry) (e : Entry) (words bytes : ℕ) → EntryInside y words bytes r p → IfKnown y (Some e) → IfKnown y (then_some (entry_fits_of e p bytes) e)
  unfolding EntryInside IfKnown PieceInside entry_fits_of
  again-is (Some x) e words bytes i q = rw (← q) (fit e (rw (same_Some _ _ (sym q)) at i.1))
    where
      fit : (e : Entry) → PieceInside e bytes p → then_some (entry_fits_of e p bytes) e ≡ Some e
      fit (Leaf c n l x) i = rw (tag_fits l bytes i)
      fit (Compound n k) i = refl
      fit (Enumeration n k) i = refl
      fit (VariableLength a b c) i = refl
      fit (Array k) i = rw (le-leb (p + k * 4) bytes i)
  again-is None e words bytes i q = tt

  again-inside : (e : Entry) (words bytes : ℕ) → r * 16 + 16 ≤ words → EntryInside (then_some (entry_fits_of e p bytes) e) words bytes r p
  unfolding EntryInside PieceInside entry_fits_of
  again-inside e words bytes h = go (entry_fits_of e p bytes) (within e)
    where
      go : (b : Bool) → (b ≡ true → PieceInside e bytes p) → EntryInside (then_some b e) words bytes r p
      go true t = (h, t refl)
      go false t = tt

      within : (e : Entry) → entry_fits_of e p bytes ≡ true → PieceInside e bytes p
      within (Leaf c n l x) t = tag-inside l bytes t
      within (Compound n k) t = tt
      within (Enumeration n k) t = tt
      within (VariableLength a b c) t = tt
      within (Array k) t = leb-true (p + k * 4) bytes t

module _ (table pool : List ℕ) (r p : ℕ) {o : Option Entry} (s : RowSays table r o) where
  module _ {e : Entry} {x : Option Entry} {b : Bool} (i : o ≡ Some e) (g : x ≡ then_some b e) where
    pub entry-tested : b ≡ is_some (entry_at table pool r p) → (x ≡ entry_at table pool r p) × EntryInside x (length table) (length pool) r p
    entry-tested f = answered table pool r p (g ∙ rw f (known_picked _ e (rw i at (s.is pool p))))

    pub known-again : b ≡ entry_fits_of e p (length pool) → IfKnown (entry_at table pool r p) x × EntryInside x (length table) (length pool) r p
    known-again f = rw (g, f) (again-is r p _ e _ _ (entry-inside table pool r p) (rw i at (s.is pool p)), again-inside r p e _ _ (s.inside (rw i refl)))

  -- no entry is said only of a row that is unknown
  pub none-answered : {x : Option Entry} → o ≡ None → x ≡ None → (x ≡ entry_at table pool r p) × EntryInside x (length table) (length pool) r p
  unfolding IfKnown EntryInside
  none-answered i g = rw g (go (entry_at table pool r p) (rw i at (s.is pool p)), tt)
    where
      go : (y : Option Entry) → IfKnown y None → None ≡ y
      go (Some x) q = q
      go None q = refl

  pub none-again : {x : Option Entry} → o ≡ None → x ≡ None → IfKnown (entry_at table pool r p) x × EntryInside x (length table) (length pool) r p
  unfolding EntryInside
  none-again i g = rw g (rw i at (s.is pool p), tt)

-- the test of an entry's piece
module _ {e : Entry} (p bytes : ℕ) where
  pub fits_no_tag : {c n l x : ℕ} → e ≡ Leaf c n l x → l ≡ 0 → true ≡ entry_fits_of e p bytes
  unfolding entry_fits_of
  fits_no_tag h z = rw (h, z)

  pub fits-tag : {c n l x : ℕ} {b : Bool} → e ≡ Leaf c n l x → (l ≡ 0 → ⊥) → b ≡ leb (p + l * 1) bytes → b ≡ entry_fits_of e p bytes
  unfolding entry_fits_of
  fits-tag {l = l} h z f = f ∙ rw (h, ne_eqb l 0 z, mul-one)

  pub fits_dimensions : {k : ℕ} {b : Bool} → e ≡ Array k → b ≡ leb (p + k * 4) bytes → b ≡ entry_fits_of e p bytes
  unfolding entry_fits_of
  fits_dimensions h f = f ∙ rw h

  pub fits-compound : {n k : ℕ} → e ≡ Compound n k → true ≡ entry_fits_of e p bytes
  unfolding entry_fits_of
  fits-compound h = rw h

  pub fits-enumeration : {n k : ℕ} → e ≡ Enumeration n k → true ≡ entry_fits_of e p bytes
  unfolding entry_fits_of
  fits-enumeration h = rw h

  pub fits-variable_length : {i a c : ℕ} → e ≡ VariableLength i a c → true ≡ entry_fits_of e p bytes
  unfolding entry_fits_of
  fits-variable_length h = rw h

-- a member's row
module _ (table pool : List ℕ) (r p : ℕ) where
  abbrev MemberAnswered : (of x : Option Member) → Type 0
  MemberAnswered of x = IfKnown of x × MemberInside x (length table) (length pool) r p

  fitting : (m : Member) (b : Bool) → r < length table / 16 → leb (p + m.name) (length pool) ≡ b → MemberInside (then_some b m) (length table) (length pool) r p
  unfolding MemberInside
  fitting m true h t = (omega arith, leb-true _ _ t)
  fitting m false h t = tt

  -- that is tested
  pub member-none : {x : Option Member} → length table / 16 ≤ r → x ≡ None → (x ≡ member_at_of table pool r p) × MemberInside x (length table) (length pool) r p
  member-none h g = answered-member table pool r p (g ∙ short-member table pool r p h)

  pub enum_member_none : {x : Option Member} → length table / 16 ≤ r → x ≡ None → (x ≡ enum_member_at_of table pool r p) × MemberInside x (length table) (length pool) r p
  enum_member_none h g = answered_enum_member table pool r p (g ∙ short_enum_member table pool r p h)

  module _ {words : List ℕ} (s : IsRow table r words) {x : Option Member} {m : Member} {b : Bool} (g : x ≡ then_some b m) where
    pub member-tested : m ≡ member_in words 0 1 → b ≡ (eqb (get_or words 0 0) 12 && piece_columns_of words pool 0 p 4 1)
        → (x ≡ member_at_of table pool r p) × MemberInside x (length table) (length pool) r p
    member-tested e f = answered-member table pool r p (g ∙ rw (e, f) (sym (member-entry words pool 0 p (one-row s))) ∙ same-member s pool p)

    pub enum_member_tested : m ≡ member_in words 0 4 → b ≡ ((eqb (get_or words 0 0) 13 && eqb (get_or words 1 0) 0) && piece_columns_of words pool 0 p 5 1)
        → (x ≡ enum_member_at_of table pool r p) × MemberInside x (length table) (length pool) r p
    enum_member_tested e f = answered_enum_member table pool r p (g ∙ rw (e, f) (sym (enum_member_entry words pool 0 p (one-row s))) ∙ same-enum-member s pool p)

  -- and that is read again
  pub unnamed-again : {x : Option Member} → length table / 16 ≤ r → x ≡ None → MemberAnswered (member_at_of table pool r p) x
  unfolding IfKnown
  unnamed-again h g = let e = member-none h refl in rw g (rw (← e.0) tt, e.1)

  pub enum_unnamed_again : {x : Option Member} → length table / 16 ≤ r → x ≡ None → MemberAnswered (enum_member_at_of table pool r p) x
  unfolding IfKnown
  enum_unnamed_again h g = let e = enum_member_none h refl in rw g (rw (← e.0) tt, e.1)

  module _ {words : List ℕ} (s : IsRow table r words) {x : Option Member} {m : Member} (g : x ≡ then_some (leb (p + m.name) (length pool)) m) where
    pub named-again : m ≡ member_in words 0 1 → MemberAnswered (member_at_of table pool r p) x
    unfolding member_at_of member_in
    named-again e =
        let f : m ≡ member_in table r 1 = e ∙ same-columns s 1 refl in
        rw (g, f) (known-part (row_is_of table r (member_row p (word_at table r 1) (word_at table r 3))) (leb (p + word_at table r 3) (length pool)) (member_in table r 1), fitting _ _ (stands s) refl)

    pub enum_named_again : m ≡ member_in words 0 4 → MemberAnswered (enum_member_at_of table pool r p) x
    unfolding enum_member_at_of member_in
    enum_named_again e =
        let f : m ≡ member_in table r 4 = e ∙ same-columns s 4 refl in
        rw (g, f) (known-part (row_is_of table r (enum_member_row p (word_at table r 3) (word_at table r 4))) (leb (p + word_at table r 3) (length pool)) (member_in table r 4), fitting _ _ (stands s) refl)

pub names-columns : {table words : List ℕ} {r : ℕ} → IsRow table r words → {m : Member} → m ≡ member_in words 0 1 → RowNames table r (Some m)
names-columns {table = table} {r = r} s e = rw (e ∙ same-columns s 1 refl) (names-member table r (stands s))

-- what a caller knows of a row that it has read by its words alone
module _ {o : Option Entry} {e : Entry} (table : List ℕ) (r : ℕ) (s : RowSays table r o) (i : o ≡ Some e) where
  pub says-row : r * 16 + 16 ≤ length table
  says-row = s.inside (rw i refl)

  pub says-next : length table < 18446744073709551616 → Fits w64 (r + 1)
  says-next k = let j = says-row in record { fits = omega arith }

pub names-next : {o : Option Member} {m : Member} (table : List ℕ) (r : ℕ) → RowNames table r o → o ≡ Some m → length table < 18446744073709551616 → Fits w64 (r + 1)
names-next table r s i k = let j = s.inside (rw i refl) in record { fits = omega arith }

-- the place of an array's dimensions stands in its row
module _ (table pool : List ℕ) (r p : ℕ) where
  unfoldable PlaceStands : Option Entry → Type 0
  PlaceStands (Some (Leaf c n l x)) = Unit {0}
  PlaceStands (Some (Compound n k)) = Unit {0}
  PlaceStands (Some (Enumeration n k)) = Unit {0}
  PlaceStands (Some (VariableLength i a c)) = Unit {0}
  PlaceStands (Some (Array k)) = word_at table r place_column ≡ p
  PlaceStands None = Unit {0}

  place-pick : (b : Bool) (e : Entry) → (b ≡ true → PlaceStands (Some e)) → PlaceStands (then_some b e)
  unfolding PlaceStands
  place-pick true e h = h refl
  place-pick false e h = tt

  place-kind : (k : Kind) → PlaceStands (entry_of table pool r p k)
  unfolding entry_of leaf_entry PlaceStands array_row row
  place-kind (is_leaf k) = place-pick _ _ (λ b. tt)
  place-kind isCompound = place-pick _ _ (λ b. tt)
  place-kind isEnumeration = place-pick _ _ (λ b. tt)
  place-kind isVariableLength = place-pick _ _ (λ b. tt)
  place-kind isArray = place-pick _ _ (λ b. row_is-true table r _ 2 (omega arith) (and_both _ _ b).0)
  place-kind isUnknown = tt

  pub array-stands : {k : ℕ} → Some (Array k) ≡ entry_at table pool r p → (word_at table r 2 ≡ p) × (p + k * 4 ≤ length pool)
  unfolding entry_at PlaceStands EntryInside PieceInside
  array-stands e = (rw (← e) at (place-kind (kind_of (word_at table r 0))), (rw (← e) at (entry-inside table pool r p)).1)

-- A claim that says nothing where no type is found holds where a row is read again, once it holds of the answer, which may be taken to be the
-- row's own.
module _ (table pool : List ℕ) (r p : ℕ) where
  pub claim_of-type : (C : Found Datatype → Type 0) → C bad → (k : ℕ) (x : Option Entry) → IfKnown (entry_at table pool r p) x
      → (x ≡ entry_at table pool r p → C (from_entry (type_at k table pool) table pool r p x)) → C (type_at (suc k) table pool r p)
  unfolding IfKnown from_entry
  claim_of-type C n k x i h = rw (type_at_entry k table pool r p) (go (entry_at table pool r p) refl i)
    where
      go : (e : Option Entry) → entry_at table pool r p ≡ e → IfKnown e x → C (from_entry (type_at k table pool) table pool r p e)
      go (Some e) q f = rw f at (h (f ∙ sym q))
      go None q f = n

  pub claim_of-members : (C : Found Members → Type 0) → C bad → (rd : Walk Datatype) (k : ℕ) (x : Option Member) → IfKnown (member_at_of table pool r p) x
      → (x ≡ member_at_of table pool r p → C (from_member rd (members_at rd table pool k) pool r p x)) → C (members_at rd table pool (suc k) r p)
  unfolding IfKnown from_member
  claim_of-members C n rd k x i h = rw (members_at-entry table pool k r p rd) (go (member_at_of table pool r p) refl i)
    where
      go : (m : Option Member) → member_at_of table pool r p ≡ m → IfKnown m x → C (from_member rd (members_at rd table pool k) pool r p m)
      go (Some m) q e = rw e at (h (e ∙ sym q))
      go None q e = n

  pub claim_of-enum_names : (C : Found (List (List ℕ × ℕ)) → Type 0) → C bad → (k : ℕ) (x : Option Member) → IfKnown (enum_member_at_of table pool r p) x
      → (x ≡ enum_member_at_of table pool r p → C (from_enum_member (enum_names_at table pool k) pool r p x)) → C (enum_names_at table pool (suc k) r p)
  unfolding IfKnown from_enum_member
  claim_of-enum_names C n k x i h = rw (enum_names_at-entry table pool k r p) (go (enum_member_at_of table pool r p) refl i)
    where
      go : (m : Option Member) → enum_member_at_of table pool r p ≡ m → IfKnown m x → C (from_enum_member (enum_names_at table pool k) pool r p m)
      go (Some m) q e = rw e at (h (e ∙ sym q))
      go None q e = n
