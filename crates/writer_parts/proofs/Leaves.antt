-- A leaf's message by the columns of its row: the flag bytes, the numbers behind the header, and that this is the message of its type.
use Rattle.std.proofs.lemmas.Option.{none-some, same_Some}
use Rattle.std.proofs.lemmas.Result.{Ok-from_Ok_iff}
use Rattle.std.specs.Result.{OkIff, result_ok}
use Rattle.std.specs.Prelude.{Option, Some, None, Result}
use Prim.Native.Nat.{ℕ, zero, suc, ◌+◌, ◌-◌, ◌*◌, ◌%◌, ◌<◌, ◌≤◌}
use mathlib.Core.Path.{◌≡◌, refl, sym, ap, ◌∙◌}
use mathlib.Core.Bool.{Bool, true, false, ◌&&◌}
use mathlib.Core.List.{List, [], ◌++◌, append-nil}
use native.Mathlib.Omega.{arith}
use native.Mathlib.Numerals.{add-one}
use native.Mathlib.Nat.{zero-add}
use lib.ListN.{length, get_or, take, drop, length-drop}
use lib.Seq.{length-take-le}
use lib.Dec.{leb, ltb}
use borrow.Author.Tests.{leb-true, ltb-true, lt-ltb, le-ltb, eq-eqb, ne_eqb}
use Rattle.format.specs.Bits.{fixed_flags_of, float_flags_of, nibbles}
use Rattle.format.specs.Bytes.{little_endian, pack_numbers}
use Rattle.format.specs.Datatype.{float_numbers, leaf_class, leaf_pool}
use Rattle.format.specs.Message.{header, leaf_message, message, storable, carried}
use Rattle.format.proofs.Booleans.{and_both}
use Rattle.writer_parts.specs.Places.{Places, PlacesFrom, Inside}
use Rattle.writer_parts.specs.Leaf.{leaf_codes, leaf_flags_of, leaf_bits_of, column_width_of, column_bytes, tag_bytes, leaf_rest, leaf_bytes, PutsLeaf}
use Rattle.writer_parts.proofs.Placing.{behind, full-behind, none-placed, stands, lost}
use Rattle.format.specs.Table.{word_at, leaf_of, isFixedPoint, isFloatingPoint, isTime, is_string_of, isBitField, isOpaque, isReference, Kind, is_leaf, isCompound, isEnumeration, isVariableLength, isArray, isUnknown, kind_of}
use Rattle.format.proofs.Facts.{StorableLeaf, Storable}
use Rattle.format.proofs.Storable.{storable_fact}
use Rattle.std.specs.Bool.{then_some}
use Rattle.std.specs.Option.{unwrap_or}
use Rattle.rows.specs.Entries.{leaf_at, tag_inside, leaf_entry, entry_of, entry_at, leaf_kind_of, leaf_type}
use Rattle.rows.specs.Columns.{IsRow}
use Rattle.rows.proofs.Words.{same-word}
use Rattle.rows.specs.declared.Entry.{Entry}
use Rattle.rows.specs.declared.Entry.TheVariants.{Leaf, Compound, Enumeration, VariableLength, Array}

-- ---- the flag bytes

both_below : {x s m n : ℕ} → (ltb x m && ltb s n) ≡ true → (x < m) × (s < n)
both_below {x = x} {s = s} {m = m} {n = n} h = let e = and_both (ltb x m) (ltb s n) h in (ltb-true x m e.0, ltb-true s n e.1)

-- neither 0, 1, 3 nor 5: the flag byte is the code
other_class : (c x s l : ℕ) → (c ≡ 0 → ⊥) → (c ≡ 1 → ⊥) → (c ≡ 3 → ⊥) → (c ≡ 5 → ⊥) → (leaf_codes c x s l ≡ ltb x 256) × (leaf_flags_of c x s l ≡ x)
unfolding leaf_codes leaf_flags_of
other_class zero x s l a b d e = absurd (a refl)
other_class (suc zero) x s l a b d e = absurd (b refl)
other_class (suc (suc zero)) x s l a b d e = (refl, refl)
other_class (suc (suc (suc zero))) x s l a b d e = absurd (d refl)
other_class (suc (suc (suc (suc zero)))) x s l a b d e = (refl, refl)
other_class (suc (suc (suc (suc (suc zero))))) x s l a b d e = absurd (e refl)
other_class (suc (suc (suc (suc (suc (suc c)))))) x s l a b d e = (refl, refl)

module _ (c x s l : ℕ) (h : leaf_codes c x s l ≡ true) where
  module _ (k : c ≡ 0) where
    fixed-below : (x < 2) × (s < 2)
    unfolding leaf_codes
    fixed-below = both_below (rw k at h)

    pub fixed_order : 1 < x → None ≡ Some (leaf_flags_of c x s l)
    fixed_order g = let b = fixed-below in absurd (omega arith)

    pub fixed_signed : 1 < s → None ≡ Some (leaf_flags_of c x s l)
    fixed_signed g = let b = fixed-below in absurd (omega arith)

    pub fixed_flag : {f : ℕ} → f ≡ fixed_flags_of x s → Some f ≡ Some (leaf_flags_of c x s l)
    unfolding leaf_flags_of
    fixed_flag e = ap Some (e ∙ rw k)

  module _ (k : c ≡ 1) where
    pub float_order_lem : 2 < x → None ≡ Some (leaf_flags_of c x s l)
    unfolding leaf_codes
    float_order_lem g = let b = ltb-true x 3 (rw k at h) in absurd (omega arith)

    pub float_flag : {f : ℕ} → f ≡ float_flags_of x → Some f ≡ Some (leaf_flags_of c x s l)
    unfolding leaf_flags_of
    float_flag e = ap Some (e ∙ rw k)

  module _ (k : c ≡ 3) where
    string-below : (x < 16) × (s < 16)
    unfolding leaf_codes
    string-below = both_below (rw k at h)

    pub string_padding : 15 < x → None ≡ Some (leaf_flags_of c x s l)
    string_padding g = let b = string-below in absurd (omega arith)

    pub string-charset : 15 < s → None ≡ Some (leaf_flags_of c x s l)
    string-charset g = let b = string-below in absurd (omega arith)

    pub string_flag : {f : ℕ} → f ≡ nibbles x s → Some f ≡ Some (leaf_flags_of c x s l)
    unfolding leaf_flags_of
    string_flag e = ap Some (e ∙ rw k)

  module _ (k : c ≡ 5) where
    pub tag_flag : {E : Type 0} {o : Option ℕ} (r : Result ℕ E) → o ≡ result_ok r → OkIff r (l < 256) l → o ≡ Some (leaf_flags_of c x s l)
    unfolding leaf_codes leaf_flags_of
    tag_flag r e f = e ∙ ap result_ok (Ok-from_Ok_iff r (l < 256) l f (ltb-true l 256 (rw k at h))) ∙ rw k

  module _ (a : c ≡ 0 → ⊥) (b : c ≡ 1 → ⊥) (d : c ≡ 3 → ⊥) (e : c ≡ 5 → ⊥) where
    pub code_flag : {E : Type 0} {o : Option ℕ} (r : Result ℕ E) → o ≡ result_ok r → OkIff r (x < 256) x → o ≡ Some (leaf_flags_of c x s l)
    code_flag r g f =
        let q = other_class c x s l a b d e in
        g ∙ ap result_ok (Ok-from_Ok_iff r (x < 256) x f (ltb-true x 256 (sym q.0 ∙ h))) ∙ ap Some (sym q.1)

-- every way out of `leaf_flags`
pub ruleset flag_laws = (fixed_order, fixed_signed, fixed_flag, float_order_lem, float_flag, string_padding, string-charset, string_flag)

module _ (c n : ℕ) where
  pub no_bits : (c ≡ 1 → ⊥) → 0 ≡ leaf_bits_of c n
  unfolding leaf_bits_of
  no_bits h = rw (ne_eqb c 1 h)

  pub bits_of-none : c ≡ 1 → n ≡ 0 → 0 ≡ leaf_bits_of c n
  unfolding leaf_bits_of
  bits_of-none h e = rw (eq-eqb c 1 h, e)

  pub bits_of : c ≡ 1 → (n * 8 - 1) % 256 ≡ leaf_bits_of c n
  unfolding leaf_bits_of
  bits_of h = rw (eq-eqb c 1 h)

-- ---- the numbers behind the header

module _ (k : ℕ) where
  pub width_two : k < 9 → 2 ≡ column_width_of k
  unfolding column_width_of
  width_two h = rw (lt-ltb k 9 h)

  pub width_one : 9 ≤ k → k < 13 → 1 ≡ column_width_of k
  unfolding column_width_of
  width_one g h = rw (le-ltb k 9 g, lt-ltb k 13 h)

  pub width_four : 9 ≤ k → 13 ≤ k → 4 ≡ column_width_of k
  unfolding column_width_of
  width_four g h = rw (le-ltb k 9 g, le-ltb k 13 h)

-- the columns from c on are left to store, and the answer of the whole is that of these
pub record ColumnsLeft (words : List ℕ) (from to at : ℕ) (out₀ : List ℕ) (c a : ℕ) (out : List ℕ) : Type 0 where
  pub left : c ≤ to
  pub long : length out ≡ length out₀
  pub rest : {x : Option ℕ} {out' : List ℕ} → Places (column_bytes words 0 c (to - c)) a x out out' → Places (column_bytes words 0 from (to - from)) at x out₀ out'

module _ {words : List ℕ} {from to at : ℕ} {out₀ : List ℕ} where
  module _ {c a : ℕ} {out : List ℕ} (i : ColumnsLeft words from to at out₀ c a out) where
    pub columns-ended : to ≤ c → Places (column_bytes words 0 from (to - from)) at (Some a) out₀ out
    unfolding column_bytes
    columns-ended h = let e : to - c ≡ 0 = omega arith in i.rest (rw e none-placed)

    module _ (h : c < to) {w : ℕ} {y : Option ℕ} {out₁ : List ℕ} (e : w ≡ column_width_of c) (p : Places (little_endian w (get_or words c 0)) a y out out₁) where
      more : column_bytes words 0 c (to - c) ≡ little_endian w (get_or words c 0) ++ column_bytes words 0 (c + 1) (to - (c + 1))
      unfolding column_bytes
      more =
          let q : to - c ≡ suc (to - (c + 1)) = omega arith in
          rw (q, add-one c, zero-add, e)

      pub columns-full : {out' : List ℕ} → y ≡ None → Places (column_bytes words 0 from (to - from)) at None out₀ out'
      columns-full f = i.rest (rw more (full-behind _ _ a out p f))

      pub columns-next : {b : ℕ} → y ≡ Some b → length out₁ ≡ length out → ColumnsLeft words from to at out₀ (c + 1) b out₁
      columns-next f l = record { left = omega arith; long = l ∙ i.long; rest = λ q. i.rest (rw more (behind _ _ a out p f q)) }

no_rest : (table pool : List ℕ) (r p l c : ℕ) → (c ≡ 0 → ⊥) → (c ≡ 1 → ⊥) → (c ≡ 2 → ⊥) → (c ≡ 4 → ⊥) → (c ≡ 5 → ⊥) → leaf_rest table pool r p c l ≡ []
unfolding leaf_rest
no_rest table pool r p l zero a b d e f = absurd (a refl)
no_rest table pool r p l (suc zero) a b d e f = absurd (b refl)
no_rest table pool r p l (suc (suc zero)) a b d e f = absurd (d refl)
no_rest table pool r p l (suc (suc (suc zero))) a b d e f = refl
no_rest table pool r p l (suc (suc (suc (suc zero)))) a b d e f = absurd (e refl)
no_rest table pool r p l (suc (suc (suc (suc (suc zero))))) a b d e f = absurd (f refl)
no_rest table pool r p l (suc (suc (suc (suc (suc (suc c)))))) a b d e f = refl

module _ (table pool : List ℕ) (r p c l at : ℕ) {out : List ℕ} where
  module _ {x : Option ℕ} {out' : List ℕ} where
    pub rest-fixed : c ≡ 0 → Places (column_bytes table r 7 2) at x out out' → Places (leaf_rest table pool r p c l) at x out out'
    unfolding leaf_rest
    rest-fixed e h = rw e h

    pub rest_float : c ≡ 1 → Places (column_bytes table r 7 7) at x out out' → Places (leaf_rest table pool r p c l) at x out out'
    unfolding leaf_rest
    rest_float e h = rw e h

    pub rest-time : c ≡ 2 → Places (column_bytes table r 8 1) at x out out' → Places (leaf_rest table pool r p c l) at x out out'
    unfolding leaf_rest
    rest-time e h = rw e h

    pub rest_bits : c ≡ 4 → Places (column_bytes table r 7 2) at x out out' → Places (leaf_rest table pool r p c l) at x out out'
    unfolding leaf_rest
    rest_bits e h = rw e h

    pub rest-tag : c ≡ 5 → PlacesFrom pool p l (tag_bytes pool p l) at x out out' → Inside pool p l → Places (leaf_rest table pool r p c l) at x out out'
    unfolding leaf_rest
    rest-tag e h i = rw e (h.places i)

  pub rest-none : (c ≡ 0 → ⊥) → (c ≡ 1 → ⊥) → (c ≡ 2 → ⊥) → (c ≡ 4 → ⊥) → (c ≡ 5 → ⊥) → Places (leaf_rest table pool r p c l) at (Some at) out out
  rest-none a b d e f = rw (no_rest table pool r p l c a b d e f) none-placed

-- where the row stands, as in its words
same-rest : {table words : List ℕ} {r : ℕ} → IsRow table r words → (pool : List ℕ) (p c l : ℕ) → leaf_rest words pool 0 p c l ≡ leaf_rest table pool r p c l
unfolding leaf_rest column_bytes
same-rest s pool p c l =
    rw (same-word s 7 refl, same-word s 8 refl, same-word s 9 refl, same-word s 10 refl, same-word s 11 refl, same-word s 12 refl, same-word s 13 refl)

-- ---- a leaf

module _ (table pool : List ℕ) (r p c n l x at : ℕ) {words : List ℕ} (s : IsRow table r words) {o : Option ℕ}
    (h : leaf_codes c x (word_at words 0 6) l ≡ true → o ≡ Some (leaf_flags_of c x (word_at words 0 6) l)) where
  flagged : leaf_codes c x (word_at table r 6) l ≡ true → o ≡ Some (leaf_flags_of c x (word_at table r 6) l)
  flagged = rw (same-word s 6 refl) at h

  module _ {out out₁ : List ℕ} {f g : ℕ} {y : Option ℕ} (v : f ≡ unwrap_or o 0) (b : g ≡ leaf_bits_of c n) (k : Places (header c 1 f g n) at y out out₁) where
    headed : leaf_codes c x (word_at table r 6) l ≡ true → Places (header c 1 (leaf_flags_of c x (word_at table r 6) l) (leaf_bits_of c n) n) at y out out₁
    headed q = rw (← (v ∙ ap (λ (z : Option ℕ). unwrap_or z 0) (flagged q)), ← b) k

    pub leaf_headless : {out₂ : List ℕ} → y ≡ None → PutsLeaf table pool r p c n l x at None out out₂
    unfolding leaf_bytes
    leaf_headless e = record { puts = λ q. let w : Places (leaf_bytes table pool r p c n l x) at None out out = full-behind _ (leaf_rest table pool r p c l) at out (headed q) e in lost _ (r + 1) (p + l) at w refl }

    module _ {a : ℕ} (e : y ≡ Some a) (i : Inside pool p l) {z : Option ℕ} {out₂ : List ℕ} (m : Inside pool p l → Places (leaf_rest words pool 0 p c l) a z out₁ out₂) where
      pub leaf_cut : z ≡ None → PutsLeaf table pool r p c n l x at None out out₂
      unfolding leaf_bytes
      leaf_cut o = record { puts = λ q. lost _ (r + 1) (p + l) at (behind _ _ at out (headed q) e (rw (same-rest s pool p c l) at (m i))) o }

      pub leaf-put : {d : ℕ} → z ≡ Some d → PutsLeaf table pool r p c n l x at (Some (record { row = r + 1; place = p + l; at = d })) out out₂
      unfolding leaf_bytes
      leaf-put o = record { puts = λ q. stands _ (r + 1) (p + l) at (behind _ _ at out (headed q) e (rw (same-rest s pool p c l) at (m i))) o }

-- ---- it is the message of the type that the row says

unfoldable LeafSays : (table pool : List ℕ) (r p : ℕ) → Option Entry → Type 0
LeafSays table pool r p (Some (Leaf c n l x)) =
    (c ≤ 7)
    × ((e : ℕ) → storable (leaf_type table pool r p c) ≡ true
    → (leaf_codes c x (word_at table r 6) l ≡ true) × (message e (leaf_type table pool r p c) ≡ leaf_bytes table pool r p c n l x))
LeafSays table pool r p (Some (Compound n k)) = Unit {0}
LeafSays table pool r p (Some (Enumeration n k)) = Unit {0}
LeafSays table pool r p (Some (VariableLength i a k)) = Unit {0}
LeafSays table pool r p (Some (Array k)) = Unit {0}
LeafSays table pool r p None = Unit {0}

two-below : (x s m n : ℕ) → x < m → s < n → (ltb x m && ltb s n) ≡ true
two-below x s m n h g = rw (lt-ltb x m h, lt-ltb s n g)

module _ (table pool : List ℕ) (r p : ℕ) where
  says-pick : (b : Bool) (e : Entry) → (b ≡ true → LeafSays table pool r p (Some e)) → LeafSays table pool r p (then_some b e)
  unfolding LeafSays
  says-pick true e h = h refl
  says-pick false e h = tt

  says-kind : (k : Kind) → LeafSays table pool r p (entry_of table pool r p k)
  unfolding entry_of tag_inside leaf_entry leaf_at leaf_class leaf_pool LeafSays leaf_type leaf_codes leaf_flags_of leaf_bits_of leaf_rest leaf_bytes column_bytes column_width_of message leaf_message pack_numbers carried Storable StorableLeaf leaf_kind_of leaf_of float_numbers
  says-kind (is_leaf isFixedPoint) = says-pick _ _ (λ b. (omega arith, λ e h. let s = storable_fact e (leaf_type table pool r p 0) h refl in (two-below (word_at table r 5) (word_at table r 6) 2 2 s.2.0 s.2.1, refl)))
  says-kind (is_leaf isFloatingPoint) = says-pick _ _ (λ b. (omega arith, λ e h. let s = storable_fact e (leaf_type table pool r p 1) h refl in (lt-ltb (word_at table r 5) 3 s.2.1, refl)))
  says-kind (is_leaf isTime) = says-pick _ _ (λ b. (omega arith, λ e h. let s = storable_fact e (leaf_type table pool r p 2) h refl in (lt-ltb (word_at table r 5) 256 (omega (arith, s.2.0)), refl)))
  says-kind (is_leaf is_string_of) =
      says-pick _ _ (λ b. (omega arith, λ e h. let s = storable_fact e (leaf_type table pool r p 3) h refl in (two-below (word_at table r 5) (word_at table r 6) 16 16 (omega (arith, s.2.0)) (omega (arith, s.2.1)), sym (append-nil _))))
  says-kind (is_leaf isBitField) = says-pick _ _ (λ b. (omega arith, λ e h. let s = storable_fact e (leaf_type table pool r p 4) h refl in (lt-ltb (word_at table r 5) 256 (omega (arith, s.2.0)), refl)))
  says-kind (is_leaf isOpaque) =
      says-pick _ _ (λ b.
      let i = leb-true (p + word_at table r 3) (length pool) (and_both (leb (p + word_at table r 3) (length pool)) _ b).0 in
      let q : length (take (word_at table r 3) (drop p pool)) ≡ word_at table r 3 = length-take-le (word_at table r 3) (drop p pool) (omega (arith, length-drop p pool)) in
      (omega arith, λ e h. let s = storable_fact e (leaf_type table pool r p 5) h refl in (lt-ltb _ 256 s.2, rw q)))
  says-kind isCompound = says-pick _ _ (λ b. tt)
  says-kind (is_leaf isReference) =
      says-pick _ _ (λ b. (omega arith, λ e h. let s = storable_fact e (leaf_type table pool r p 7) h refl in (lt-ltb (word_at table r 5) 256 (omega (arith, s.2)), sym (append-nil _))))
  says-kind isEnumeration = says-pick _ _ (λ b. tt)
  says-kind isVariableLength = says-pick _ _ (λ b. tt)
  says-kind isArray = says-pick _ _ (λ b. tt)
  says-kind isUnknown = tt

  module _ {o : Option Entry} {y : Entry} {c n l x : ℕ} (q : o ≡ entry_at table pool r p) (s : o ≡ Some y) (i : y ≡ Leaf c n l x) where
    leaf-says : LeafSays table pool r p (Some (Leaf c n l x))
    unfolding entry_at
    leaf-says =
        let f : entry_at table pool r p ≡ Some (Leaf c n l x) = sym q ∙ s ∙ ap Some i in
        rw f at (says-kind (kind_of (word_at table r 0)))

    pub leaf-class : c ≤ 7
    unfolding LeafSays
    leaf-class = leaf-says.0

    pub leaf-codes : (e : ℕ) → storable (leaf_type table pool r p c) ≡ true → leaf_codes c x (word_at table r 6) l ≡ true
    unfolding LeafSays
    leaf-codes e h = (leaf-says.1 e h).0

    pub leaf-message : (e : ℕ) → storable (leaf_type table pool r p c) ≡ true → message e (leaf_type table pool r p c) ≡ leaf_bytes table pool r p c n l x
    unfolding LeafSays
    leaf-message e h = (leaf-says.1 e h).1
