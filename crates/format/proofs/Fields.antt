-- The list of a type's fields has exactly what `FieldAt` describes.
use Prim.Native.Nat.{ℕ, zero, suc, ◌+◌, ◌*◌, ◌<◌, ◌≤◌}
use mathlib.Core.Path.{◌≡◌, refl, sym, ap, ◌∙◌}
use mathlib.Core.Logic.{inl, inr, ⊎_elim}
use mathlib.Core.List.Memᴰ
use mathlib.Core.List.{List, [], ◌∷◌, Memᴰ}
use native.Mathlib.Nat.{eq-or-lt_of_le}
use native.Mathlib.Omega.{arith}
use Rattle.format.specs.Datatype.{Datatype, leaf, compound, enumeration, variable_length, array, Members, no_members, member, type_size_of, product}
use Rattle.format.specs.Image.{Field, field_of, move_field, move_fields, field_entries, fields_of, member_fields}
use Rattle.format.specs.Ownership.{FieldAt, MemberFieldAt}

-- a field that a list has, moved
pub record MovedFrom (o : ℕ) (fs : List Field) (f : Field) : Type 0 where
  pub field : Field
  pub listed : Memᴰ field fs
  pub is : f ≡ move_field o field

pub moved-sound : (o : ℕ) (fs : List Field) (f : Field) → Memᴰ f (move_fields o fs) → MovedFrom o fs f
unfolding move_fields
moved-sound o [] f m = absurd (Memᴰ.not-nil m)
moved-sound o (g ∷ fs) f m =
    ⊎_elim
    (λ e. record { field = g; listed = Memᴰ.head refl; is = e })
    (λ n. let w = moved-sound o fs f n in record { field = w.field; listed = Memᴰ.tail w.listed; is = w.is })
    (Memᴰ.cases_cons m)

pub moved_complete : (o : ℕ) (fs : List Field) (f : Field) → Memᴰ f fs → Memᴰ (move_field o f) (move_fields o fs)
unfolding move_fields
moved_complete o [] f m = absurd (Memᴰ.not-nil m)
moved_complete o (g ∷ fs) f m =
    ⊎_elim
    (λ e. Memᴰ.head (ap (move_field o) e))
    (λ n. Memᴰ.tail (moved_complete o fs f n))
    (Memᴰ.cases_cons m)

-- a field of one of n entries from the k-th on
pub record EntryField (stride : ℕ) (fs : List Field) (k n : ℕ) (f : Field) : Type 0 where
  pub entry : ℕ
  pub from : k ≤ entry
  pub below : entry < k + n
  pub moved : MovedFrom (entry * stride) fs f

module _ (stride : ℕ) (fs : List Field) where
  pub entries-sound : (k n : ℕ) (f : Field) → Memᴰ f (field_entries stride fs k n) → EntryField stride fs k n f
  unfolding field_entries
  entries-sound k zero f m = absurd (Memᴰ.not-nil m)
  entries-sound k (suc n) f m =
      ⊎_elim
      (λ h. record { entry = k; from = omega arith; below = omega arith; moved = moved-sound (k * stride) fs f h })
      (λ h. let w = entries-sound (suc k) n f h in
      record { entry = w.entry; from = omega (arith, w.from); below = omega (arith, w.below); moved = w.moved })
      (Memᴰ.append_cases (move_fields (k * stride) fs) m)

  pub entries_complete : (k n j : ℕ) (f : Field) → k ≤ j → j < k + n → Memᴰ f fs → Memᴰ (move_field (j * stride) f) (field_entries stride fs k n)
  unfolding field_entries
  entries_complete k zero j f g l m = absurd (omega arith)
  entries_complete k (suc n) j f g l m =
      ⊎_elim
      (λ e. Memᴰ.append_left (field_entries stride fs (suc k) n) (Memᴰ.cast (ap (λ (i : ℕ). move_field (i * stride) f) (sym e)) (moved_complete (k * stride) fs f m)))
      (λ h. Memᴰ.append_right (move_fields (k * stride) fs) (entries_complete (suc k) n j f (omega arith) (omega arith) m))
      (eq-or-lt_of_le g)

-- a type that is reached at the field's place
pub record Reached (t : Datatype) (f : Field) : Type 0 where
  pub type : Datatype
  pub place : ℕ
  pub reached : FieldAt t type place
  pub is : f ≡ field_of type place

moved-is : (o p : ℕ) (x : Datatype) (f g : Field) → g ≡ field_of x p → f ≡ move_field o g → f ≡ field_of x (o + p)
unfolding field_of move_field
moved-is o p x f g e h = h ∙ ap (move_field o) e

mutual
  unfolding FieldAt fields_of

  -- each field on the list is reached
  pub fields-sound : (t : Datatype) (f : Field) → Memᴰ f (fields_of t) → Reached t f
  fields-sound (leaf n x) f m = record { type = leaf n x; place = 0; reached = (refl, refl); is = Memᴰ.eq_of_singleton m }
  fields-sound (compound n ms) f m =
      let w = member-fields-sound n ms f m in record { type = w.type; place = w.place; reached = w.reached; is = w.is }
  fields-sound (enumeration n t ms) f m = record { type = enumeration n t ms; place = 0; reached = (refl, refl); is = Memᴰ.eq_of_singleton m }
  fields-sound (variable_length i a c t) f m = record { type = variable_length i a c t; place = 0; reached = (refl, refl); is = Memᴰ.eq_of_singleton m }
  fields-sound (array ds t) f m =
      let e = entries-sound (type_size_of t) (fields_of t) 0 (product ds) f m in
      let w = fields-sound t e.moved.field e.moved.listed in
      record {
        type = w.type;
        place = e.entry * type_size_of t + w.place;
        reached = (e.entry, w.place, omega (arith, e.below), refl, w.reached);
        is = moved-is (e.entry * type_size_of t) w.place w.type f e.moved.field w.is e.moved.is;
      }

  pub member-fields-sound : (n : ℕ) (ms : Members) (f : Field) → Memᴰ f (member_fields ms) → Reached (compound n ms) f
  member-fields-sound n no_members f m = absurd (Memᴰ.not-nil m)
  member-fields-sound n (member b o t ms) f m =
      ⊎_elim
      (λ h. let e = moved-sound o (fields_of t) f h in
      let w = fields-sound t e.field e.listed in
      record { type = w.type; place = o + w.place; reached = inl (w.place, refl, w.reached); is = moved-is o w.place w.type f e.field w.is e.is })
      (λ h. let w = member-fields-sound n ms f h in record { type = w.type; place = w.place; reached = inr w.reached; is = w.is })
      (Memᴰ.append_cases (move_fields o (fields_of t)) m)

field-here : (t x : Datatype) (p : ℕ) → (x ≡ t) × (p ≡ 0) → Memᴰ (field_of x p) (field_of t 0 ∷ [])
field-here t x p h = Memᴰ.head {x = field_of t 0} (rw (h.0, h.1))

place_is : (o p q : ℕ) (x : Datatype) → p ≡ o + q → field_of x p ≡ move_field o (field_of x q)
unfolding field_of move_field
place_is o p q x e = rw e

mutual
  unfolding FieldAt fields_of

  -- each field that is reached is on the list
  pub fields_complete : (t x : Datatype) (p : ℕ) → FieldAt t x p → Memᴰ (field_of x p) (fields_of t)
  fields_complete (leaf n y) x p h = field-here (leaf n y) x p h
  fields_complete (compound n ms) x p h = member-fields_complete ms x p h
  fields_complete (enumeration n t ms) x p h = field-here (enumeration n t ms) x p h
  fields_complete (variable_length i a c t) x p h = field-here (variable_length i a c t) x p h
  fields_complete (array ds t) x p (k, q, g, e, r) =
      Memᴰ.cast (place_is (k * type_size_of t) p q x e) (entries_complete (type_size_of t) (fields_of t) 0 (product ds) k (field_of x q) (omega arith) (omega arith) (fields_complete t x q r))

  pub member-fields_complete : (ms : Members) (x : Datatype) (p : ℕ) → MemberFieldAt ms x p → Memᴰ (field_of x p) (member_fields ms)
  member-fields_complete no_members x p h = absurd h
  member-fields_complete (member b o t ms) x p (inl (q, e, r)) =
      Memᴰ.append_left (member_fields ms) (Memᴰ.cast (place_is o p q x e) (moved_complete o (fields_of t) (field_of x q) (fields_complete t x q r)))
  member-fields_complete (member b o t ms) x p (inr r) = Memᴰ.append_right (move_fields o (fields_of t)) (member-fields_complete ms x p r)
