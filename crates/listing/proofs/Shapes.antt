-- What a row says of its type: class, size, and what is inside.
use Prim.Native.Nat.{ℕ, zero, suc, ◌+◌, ◌-◌, ◌*◌, ◌≤◌}
use mathlib.Core.Path.{◌≡◌, refl, sym, ap, ◌∙◌}
use mathlib.Core.List.{List, []}
use mathlib.Core.Option.{none}
use native.Mathlib.Omega.{arith}
use native.Mathlib.Numerals.{add-one}
use lib.ListN.{take, drop}
use Rattle.std.specs.Prelude.{Option, Some, None}
use Rattle.format.specs.Bytes.{dimensions_from}
use Rattle.format.specs.Datatype.{Datatype, compound, enumeration, variable_length, array, Members, type_size_of, class_number}
use Rattle.format.specs.Table.{Found, found, bad, Walk, and_then, type_at, members_at, enum_names_at, enum_values_at}
use Rattle.format.proofs.TableSteps.{no_found}
use Rattle.rows.specs.Entries.{entry_at, EntryInside, leaf_type, from_entry}
use Rattle.rows.specs.declared.Entry.{Entry}
use Rattle.rows.specs.declared.Entry.TheVariants.{Leaf, Compound, Enumeration, VariableLength, Array}
use Rattle.rows.proofs.Decode.{type_at_entry, row-inside}
use Rattle.rows.proofs.Leaves.{leaf_law}
use Rattle.table.specs.Survey.{survey_of}
use Rattle.table.specs.declared.Survey.{Survey}
use Rattle.listing.specs.Text.{inner_lines, member_lines, lines}
use Rattle.listing.specs.Puts.{class_in, inside_of, RowInside, InsideAt}
use Rattle.listing.specs.declared.Inside.{Inside}
use Rattle.listing.specs.declared.Inside.TheVariants.{Nothing, Members as InsideMembers, Base}

-- ---- the class and the inside, entry by entry

module _ {y e : Option Entry} (q : y ≡ e) where
  pub class_unknown : {k : Option ℕ} → k ≡ None → y ≡ None → k ≡ class_in e
  unfolding class_in
  class_unknown n i = n ∙ ap class_in (sym i ∙ q)

  module _ {f : Entry} (j : y ≡ Some f) where
    is_entry : {g : Entry} → f ≡ g → Some g ≡ e
    is_entry i = sym (j ∙ ap Some i) ∙ q

    pub class-leaf : {c n l x : ℕ} → f ≡ Leaf c n l x → Some c ≡ class_in e
    unfolding class_in
    class-leaf i = ap class_in (is_entry i)

    pub class-compound : {n k : ℕ} → f ≡ Compound n k → Some 6 ≡ class_in e
    unfolding class_in
    class-compound i = ap class_in (is_entry i)

    pub class-enumeration : {n k : ℕ} → f ≡ Enumeration n k → Some 8 ≡ class_in e
    unfolding class_in
    class-enumeration i = ap class_in (is_entry i)

    pub class_variable : {i a c : ℕ} → f ≡ VariableLength i a c → Some 9 ≡ class_in e
    unfolding class_in
    class_variable i = ap class_in (is_entry i)

    pub class-array : {k : ℕ} → f ≡ Array k → Some 10 ≡ class_in e
    unfolding class_in
    class-array i = ap class_in (is_entry i)

  module _ (words bytes r p : ℕ) (h : EntryInside y words bytes r p) where
    pub inside_unknown : y ≡ None → InsideAt e words r p Nothing
    unfolding inside_of RowInside
    inside_unknown i = record { is = ap (inside_of p) (sym i ∙ q); row_inside = tt }

    module _ {f : Entry} (j : y ≡ Some f) where
      pub inside-leaf : {c n l x : ℕ} → f ≡ Leaf c n l x → InsideAt e words r p Nothing
      unfolding inside_of RowInside
      inside-leaf i = record { is = ap (inside_of p) (is_entry j i); row_inside = tt }

      pub inside-compound : {n k : ℕ} → f ≡ Compound n k → InsideAt e words r p (InsideMembers k)
      unfolding inside_of RowInside
      inside-compound i = record { is = ap (inside_of p) (is_entry j i); row_inside = row-inside words bytes r p h j }

      pub inside-enumeration : {n k : ℕ} → f ≡ Enumeration n k → InsideAt e words r p (Base p)
      unfolding inside_of RowInside
      inside-enumeration i = record { is = ap (inside_of p) (is_entry j i); row_inside = row-inside words bytes r p h j }

      pub inside_variable : {i a c : ℕ} → f ≡ VariableLength i a c → InsideAt e words r p (Base p)
      unfolding inside_of RowInside
      inside_variable i = record { is = ap (inside_of p) (is_entry j i); row_inside = row-inside words bytes r p h j }

      pub inside-array : {k : ℕ} → f ≡ Array k → InsideAt e words r p (Base (p + k * 4))
      unfolding inside_of RowInside
      inside-array i = record { is = ap (inside_of p) (is_entry j i); row_inside = row-inside words bytes r p h j }

module _ {e : Option Entry} {y : Inside} {words r p : ℕ} (h : InsideAt e words r p y) where
  pub members-row : {k : ℕ} → y ≡ InsideMembers k → r * 16 + 16 ≤ words
  unfolding RowInside
  members-row i = rw i at h.row_inside

  pub base-row : {q : ℕ} → y ≡ Base q → r * 16 + 16 ≤ words
  unfolding RowInside
  base-row i = rw i at h.row_inside

-- ---- what a walk found, taken apart

pub record ThenFound {A B : Type 0} (x : Found A) (k : A → Walk B) (b : B) (r p : ℕ) : Type 0 where
  pub first : A
  pub row : ℕ
  pub place : ℕ
  pub is : x ≡ found first row place
  pub rest : k first row place ≡ found b r p

pub then_found : {A B : Type 0} (x : Found A) (k : A → Walk B) {b : B} {r p : ℕ} → and_then x k ≡ found b r p → ThenFound x k b r p
unfolding and_then
then_found (found a r₁ p₁) k h = record { first = a; row = r₁; place = p₁; is = refl; rest = h }
then_found bad k h = absurd (no_found h)

pub found-is : {A : Type 0} {a b : A} {r p r₁ p₁ : ℕ} → found a r p ≡ found b r₁ p₁ → (a ≡ b) × ((r ≡ r₁) × (p ≡ p₁))
found-is h = (cc, (cc, cc))

-- ---- where a type ends, and its size

module _ (x : Found Datatype) {y : Option Survey} (q : y ≡ survey_of x) {t : Datatype} {r p : ℕ} (f : x ≡ found t r p) where
  pub reached : {s : Survey} → y ≡ Some s → (s.row ≡ r) × ((s.place ≡ p) × (s.size ≡ type_size_of t))
  unfolding survey_of
  reached {s = s} i =
      let e : Some s ≡ survey_of x = sym i ∙ q in
      let g = rw f at e in
      (cc, (cc, cc))

  pub somewhere : y ≡ None → ⊥
  unfolding survey_of
  somewhere i =
      let e : None ≡ survey_of x = sym i ∙ q in
      let g = rw f at e in
      cc

-- ---- the class and the lines inside, by the entry of the row

-- a leaf has its class, and nothing inside
unfoldable LeafShown : (c n l x : ℕ) → Datatype → Type 0
LeafShown c n l x t = (c ≡ class_number t) × ((i : ℕ) → inner_lines i t ≡ [])

module _ (table pool : List ℕ) (r p : ℕ) where
  leaf_shown : {c n l x : ℕ} → entry_at table pool r p ≡ Some (Leaf c n l x) → LeafShown c n l x (leaf_type table pool r p c)
  unfolding LeafShown class_number inner_lines
  leaf_shown e = let h = leaf_law table pool r p refl e refl in rw h.is (sym h.class, λ i. refl)

-- the members, or the base, that are found inside a type, and their lines
pub record MembersInside (rd : Walk Datatype) (table pool : List ℕ) (k r p l : ℕ) (t : Datatype) : Type 0 where
  pub members : Members
  pub row : ℕ
  pub place : ℕ
  pub are : members_at rd table pool k (r + 1) p ≡ found members row place
  pub text : inner_lines l t ≡ member_lines (suc l) members

pub record BaseInside (rd : Walk Datatype) (q r l : ℕ) (t : Datatype) : Type 0 where
  pub base : Datatype
  pub row : ℕ
  pub place : ℕ
  pub is : rd (r + 1) q ≡ found base row place
  pub text : inner_lines l t ≡ lines (suc l) 0 none base

unfoldable pub Inner : (rd : Walk Datatype) (table pool : List ℕ) (r p l : ℕ) → Datatype → Inside → Type 0
Inner rd table pool r p l t Nothing = inner_lines l t ≡ []
Inner rd table pool r p l t (InsideMembers k) = MembersInside rd table pool k r p l t
Inner rd table pool r p l t (Base q) = BaseInside rd q r l t

pub record Shape (rd : Walk Datatype) (table pool : List ℕ) (r p : ℕ) (t : Datatype) (e : Option Entry) : Type 0 where
  pub class : class_in e ≡ Some (class_number t)
  pub inner : (l : ℕ) → Inner rd table pool r p l t (inside_of p e)

module _ (rd : Walk Datatype) (table pool : List ℕ) (r p : ℕ) (t : Datatype) (r' p' : ℕ) where
  by_entry : (e : Option Entry) → entry_at table pool r p ≡ e → from_entry rd table pool r p e ≡ found t r' p' → Shape rd table pool r p t e
  unfolding LeafShown from_entry class_in inside_of Inner class_number inner_lines lines
  by_entry (Some (Leaf c n l x)) q h =
      let s = leaf_shown table pool r p q in
      let f : leaf_type table pool r p c ≡ t = (found-is h).0 in
      record { class = ap Some (s.0 ∙ ap class_number f); inner = λ i. sym (ap (inner_lines i) f) ∙ s.1 i }
  by_entry (Some (Compound n k)) q h =
      let w = then_found (members_at rd table pool k (suc r) p) _ h in
      let f : compound n w.first ≡ t = (found-is w.rest).0 in
      record {
        class = ap (λ (x : Datatype). Some (class_number x)) f;
        inner = λ i. record { members = w.first; row = w.row; place = w.place; are = rw (add-one r) w.is; text = sym (ap (inner_lines i) f) };
      }
  by_entry (Some (Enumeration n k)) q h =
      let w = then_found (rd (suc r) p) _ h in
      let v = then_found (enum_names_at table pool k w.row w.place) _ w.rest in
      let u = then_found (enum_values_at pool v.first v.row v.place) _ v.rest in
      let f : enumeration n w.first u.first ≡ t = (found-is u.rest).0 in
      record {
        class = ap (λ (x : Datatype). Some (class_number x)) f;
        inner = λ i. record { base = w.first; row = w.row; place = w.place; is = rw (add-one r) w.is; text = sym (ap (inner_lines i) f) };
      }
  by_entry (Some (VariableLength i a c)) q h =
      let w = then_found (rd (suc r) p) _ h in
      let f : variable_length i a c w.first ≡ t = (found-is w.rest).0 in
      record {
        class = ap (λ (x : Datatype). Some (class_number x)) f;
        inner = λ i. record { base = w.first; row = w.row; place = w.place; is = rw (add-one r) w.is; text = sym (ap (inner_lines i) f) };
      }
  by_entry (Some (Array k)) q h =
      let w = then_found (rd (suc r) (p + k * 4)) _ h in
      let f : array (dimensions_from k (take (k * 4) (drop p pool))) w.first ≡ t = (found-is w.rest).0 in
      record {
        class = ap (λ (x : Datatype). Some (class_number x)) f;
        inner = λ i. record { base = w.first; row = w.row; place = w.place; is = rw (add-one r) w.is; text = sym (ap (inner_lines i) f) };
      }
  by_entry None q h = absurd (no_found h)

pub shape : (levels : ℕ) (table pool : List ℕ) (r p : ℕ) {t : Datatype} {r' p' : ℕ} → type_at levels table pool r p ≡ found t r' p' → Shape (type_at (levels - 1) table pool) table pool r p t (entry_at table pool r p)
shape zero table pool r p {t = t} {r' = r'} {p' = p'} h = let z : bad ≡ found t r' p' = unfold type_at in h in absurd (no_found z)
shape (suc k) table pool r p {t = t} {r' = r'} {p' = p'} h =
    let j : suc k - 1 ≡ k = omega arith in
    rw j (by_entry (type_at k table pool) table pool r p t r' p' (entry_at table pool r p) refl (sym (type_at_entry k table pool r p) ∙ h))
