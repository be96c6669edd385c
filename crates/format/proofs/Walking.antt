-- Lists of fields as a walk meets them: behind one another, moved, entry by entry; and entries that are one range of bytes.
use Prim.Native.Nat.{ℕ, zero, suc, ◌+◌, ◌*◌, ◌<◌, ◌≤◌}
use mathlib.Core.Path.{◌≡◌, refl, sym, ap, subst, ◌∙◌}
use mathlib.Core.Logic.{⊎_elim}
use mathlib.Core.Bool.{Bool, true, false, ◌&&◌, ◌||◌, or_assoc, or-false, and-true as and-true-right, false≢true}
use mathlib.Core.List.{List, [], ◌∷◌, ◌++◌, append_assoc, append-nil}
use native.Mathlib.Nat.{suc-mul, add-mul, eq-or-lt_of_le}
use native.Mathlib.Omega.{arith}
use lib.ListN.{get_or}
use lib.Dec.{leb, ltb}
use borrow.Author.Tests.{ltb-true, ltb-false, lt-ltb, leb-true, le-leb}
use Rattle.format.specs.Datatype.{Datatype, Members, member}
use Rattle.format.specs.Image.{Field, move_field, move_fields, field_entries, fields_of, member_fields, no_nul_between, owned_by, counted_by, some_field, counted_in, counts, agree, FieldsAgree, FieldsDiffer}
use Rattle.format.specs.Ownership.{outside}
use Rattle.format.proofs.Booleans.{and_both, and_true, or_either, or_second, same_test, not-true-false, true_or_false}
use Rattle.format.proofs.Ownership.{owned_inside, owned_complete}
use Rattle.format.proofs.Image.{no_nul-says, some-nul, no_nul_if, counted-owned, counted_no_nul, counted_if, owned-says, owned_if}
use Rattle.format.proofs.Same.{counts-owned, counted-agree, counted_differ}

pub counted_append : (fs gs : List Field) (r : List ℕ) (i : ℕ) → counted_in (fs ++ gs) r i ≡ (counted_in fs r i || counted_in gs r i)
unfolding counted_in some_field
counted_append [] gs r i = refl
counted_append (f ∷ fs) gs r i =
    rw (counted_append fs gs r i) (sym (or_assoc (counted_by f r i) (some_field (λ g. counted_by g r i) fs) (some_field (λ g. counted_by g r i) gs)))

pub moved_append : (o : ℕ) (fs gs : List Field) → move_fields o (fs ++ gs) ≡ move_fields o fs ++ move_fields o gs
unfolding move_fields
moved_append o [] gs = refl
moved_append o (f ∷ fs) gs = ap (λ (hs : List Field). move_field o f ∷ hs) (moved_append o fs gs)

pub moved-moved : (o p : ℕ) (fs : List Field) → move_fields o (move_fields p fs) ≡ move_fields (o + p) fs
unfolding move_fields move_field
moved-moved o p [] = refl
moved-moved o p (f ∷ fs) =
    let e : o + (p + f.place) ≡ o + p + f.place = omega arith in
    rw (e, moved-moved o p fs)

pub moved_none : (fs : List Field) → move_fields 0 fs ≡ fs
unfolding move_fields move_field
moved_none [] = refl
moved_none (f ∷ fs) =
    let e : 0 + f.place ≡ f.place = omega arith in
    rw (e, moved_none fs)

-- one entry more
pub entries_next : (stride : ℕ) (fs : List Field) (k n : ℕ) → field_entries stride fs k (suc n) ≡ field_entries stride fs k n ++ move_fields ((k + n) * stride) fs
unfolding field_entries
entries_next stride fs k zero = let e : k + 0 ≡ k = omega arith in rw e (append-nil (move_fields (k * stride) fs))
entries_next stride fs k (suc n) =
    let e : k + suc n ≡ suc k + n = omega arith in
    rw (entries_next stride fs (suc k) n, e) (sym (append_assoc (move_fields (k * stride) fs) (field_entries stride fs (suc k) n) (move_fields ((suc k + n) * stride) fs)))

-- a member, and the others, of a compound that begins at a place
pub member_walked : (at : ℕ) (b : List ℕ) (o : ℕ) (t : Datatype) (ms : Members)
    → move_fields at (member_fields (member b o t ms)) ≡ move_fields (at + o) (fields_of t) ++ move_fields at (member_fields ms)
unfolding fields_of
member_walked at b o t ms = moved_append at (move_fields o (fields_of t)) (member_fields ms) ∙ rw (moved-moved at o (fields_of t))

-- k + 1 entries of an array that begins at a place
pub entry_walked : (at stride : ℕ) (fs : List Field) (k : ℕ)
    → move_fields at (field_entries stride fs 0 (suc k)) ≡ move_fields at (field_entries stride fs 0 k) ++ move_fields (at + k * stride) fs
entry_walked at stride fs k =
    let e : 0 + k ≡ k = omega arith in
    rw (entries_next stride fs 0 k, e, moved_append at (field_entries stride fs 0 k) (move_fields (k * stride) fs), moved-moved at (k * stride) fs)

-- Entries of a field that counts whole are one range of bytes: nothing is divided.
pub record Whole (stride : ℕ) (f : Field) : Type 0 where
  pub first : f.place ≡ 0
  pub long : f.size ≡ stride
  pub not-ended : f.ended ≡ false

pub counted-whole : (f : Field) (r : List ℕ) (i : ℕ) → f.ended ≡ false → counted_by f r i ≡ owned_by f i
unfolding counted_by owned_by
counted-whole f r i e = rw e (and-true-right (owned_by f i))

-- a range, and the one behind it
range_joined : (l m n i : ℕ) → l ≤ m → m ≤ n → ((leb l i && ltb i m) || (leb m i && ltb i n)) ≡ (leb l i && ltb i n)
range_joined l m n i g h =
    same_test ((leb l i && ltb i m) || (leb m i && ltb i n)) (leb l i && ltb i n)
    (λ e.
    ⊎_elim
    (λ q. let w = and_both (leb l i) (ltb i m) q in and_true _ _ w.0 (lt-ltb i n (omega (arith, ltb-true i m w.1))))
    (λ q. let w = and_both (leb m i) (ltb i n) q in and_true _ _ (le-leb l i (omega (arith, leb-true m i w.0))) w.1)
    (or_either (leb l i && ltb i m) (leb m i && ltb i n) e))
    (λ e.
    let w = and_both (leb l i) (ltb i n) e in
    ⊎_elim
    (λ q. or_first (leb l i && ltb i m) (leb m i && ltb i n) (and_true _ _ w.0 q))
    (λ q. or_second (leb l i && ltb i m) (leb m i && ltb i n) (and_true _ _ (le-leb m i (ltb-false i m q)) w.1))
    (true_or_false (ltb i m)))
  where
    or_first : (a b : Bool) → a ≡ true → (a || b) ≡ true
    or_first a b h = rw h

no_range : (l i : ℕ) → false ≡ (leb l i && ltb i l)
no_range l i = sym (not-true-false (leb l i && ltb i l) (λ h. let w = and_both (leb l i) (ltb i l) h in omega (arith, leb-true l i w.0, ltb-true i l w.1)))

module _ (at stride : ℕ) (f : Field) (w : Whole stride f) (r : List ℕ) (i : ℕ) where
  entry-owned : (k : ℕ) → counted_by (move_field at (move_field (k * stride) f)) r i ≡ (leb (at + k * stride) i && ltb i (at + suc k * stride))
  unfolding move_field owned_by
  entry-owned k =
      let e : at + (k * stride + f.place) ≡ at + k * stride = omega (arith, w.first) in
      let g : at + (k * stride + f.place) + f.size ≡ at + suc k * stride = omega (arith, w.first, w.long, suc-mul k stride) in
      counted-whole (move_field at (move_field (k * stride) f)) r i w.not-ended ∙ rw (g, e)

  pub whole-entries : (k n : ℕ) → counted_in (move_fields at (field_entries stride (f ∷ []) k n)) r i ≡ (leb (at + k * stride) i && ltb i (at + (k + n) * stride))
  unfolding counted_in some_field field_entries move_fields
  whole-entries k zero = let e : k + 0 ≡ k = omega arith in rw e (no_range (at + k * stride) i)
  whole-entries k (suc n) =
      let e : k + suc n ≡ suc k + n = omega arith in
      rw (e, entry-owned k, whole-entries (suc k) n)
      (range_joined (at + k * stride) (at + suc k * stride) (at + (suc k + n) * stride) i (omega (arith, suc-mul k stride)) (omega (arith, add-mul (suc k) n stride)))

-- ---- what is found of fields, put together

module _ {a b : List ℕ} where
  pub agree-none : FieldsAgree [] a b
  unfolding counted_in some_field
  agree-none = record { equal = λ i h. absurd (false≢true h) }

  pub agree_both : (fs gs : List Field) → FieldsAgree fs a b → FieldsAgree gs a b → FieldsAgree (fs ++ gs) a b
  agree_both fs gs h k =
      record { equal = λ i x. ⊎_elim (h.equal i) (k.equal i) (or_either (counted_in fs a i) (counted_in gs a i) (sym (counted_append fs gs a i) ∙ x)) }

  pub differ_first : (fs gs : List Field) → FieldsDiffer fs a b → FieldsDiffer (fs ++ gs) a b
  differ_first fs gs d =
      record {
        place = d.place;
        first = counted_append fs gs a d.place ∙ rw d.first;
        second = counted_append fs gs b d.place ∙ rw d.second;
        differs = d.differs;
      }

  pub differ_second : (fs gs : List Field) → FieldsDiffer gs a b → FieldsDiffer (fs ++ gs) a b
  differ_second fs gs d =
      record {
        place = d.place;
        first = counted_append fs gs a d.place ∙ or_second (counted_in fs a d.place) (counted_in gs a d.place) d.first;
        second = counted_append fs gs b d.place ∙ or_second (counted_in fs b d.place) (counted_in gs b d.place) d.second;
        differs = d.differs;
      }

-- of one entry, and so of all
pub entry-differs : (a b : List ℕ) (at stride : ℕ) (fs : List Field) (k n : ℕ) → k < n → FieldsDiffer (move_fields (at + k * stride) fs) a b → FieldsDiffer (move_fields at (field_entries stride fs 0 n)) a b
entry-differs a b at stride fs k zero l d = absurd (omega arith)
entry-differs a b at stride fs k (suc n) l d =
    rw (entry_walked at stride fs n)
    (⊎_elim
    (λ e. differ_second (move_fields at (field_entries stride fs 0 n)) (move_fields (at + n * stride) fs) (subst (λ (j : ℕ). FieldsDiffer (move_fields (at + j * stride) fs) a b) e d))
    (λ g. differ_first (move_fields at (field_entries stride fs 0 n)) (move_fields (at + n * stride) fs) (entry-differs a b at stride fs k n g d))
    (eq-or-lt_of_le {n = k} {m = n} (omega arith)))

-- of one field
pub counted-one : (f : Field) (r : List ℕ) (i : ℕ) → counted_in (f ∷ []) r i ≡ counted_by f r i
unfolding counted_in some_field
counted-one f r i = or-false (counted_by f r i)

-- of a type whose record the two are
pub walked_same : (t : Datatype) (a b : List ℕ) → FieldsAgree (fields_of t) a b → agree t a b ≡ true
walked_same t a b h = counted-agree t a b (unfold counts in λ i l x. h.equal i x)

pub walked_differs : (t : Datatype) (a b : List ℕ) → outside t ≡ false → FieldsDiffer (fields_of t) a b → agree t a b ≡ false
walked_differs t a b o d =
    let x : counts t a d.place ≡ true = unfold counts in d.first in
    let y : counts t b d.place ≡ true = unfold counts in d.second in
    counted_differ t a b d.place (owned_inside t d.place o (owned_complete t d.place (counts-owned t a d.place x))) x y d.differs

-- ---- one field, of whose bytes the first k are equal in both

module _ (f : Field) (a b : List ℕ) (k : ℕ) (e : (j : ℕ) → f.place ≤ j → j < f.place + k → get_or a j 0 ≡ get_or b j 0) where
  counted-within : (i : ℕ) → counted_in (f ∷ []) a i ≡ true → (f.place ≤ i) × (i < f.place + f.size)
  counted-within i x = owned-says f i (counted-owned f a i (sym (counted-one f a i) ∙ x))

  -- all bytes
  pub field-equal : f.size ≤ k → FieldsAgree (f ∷ []) a b
  field-equal l = record { equal = λ i x. let o = counted-within i x in e i o.0 (omega (arith, o.1)) }

  -- the NUL that ends it is one of them
  pub field-ended : f.ended ≡ true → no_nul_between a f.place (f.place + k) ≡ false → FieldsAgree (f ∷ []) a b
  field-ended g n =
      let w = some-nul a f.place (f.place + k) n in
      record {
        equal = λ i x.
            let o = counted-within i x in
            let c = no_nul-says a f.place i (counted_no_nul f a i (sym (counted-one f a i) ∙ x) g) in
            ⊎_elim
            (λ q. absurd (c w.0 w.1 (ltb-true w.0 i q) w.3))
            (λ q. e i o.0 (omega (arith, ltb-false w.0 i q, w.2)))
            (true_or_false (ltb w.0 i));
      }

  module _ (l : k < f.size) (n : get_or a (f.place + k) 0 ≡ get_or b (f.place + k) 0 → ⊥) where
    -- the next byte counts in both
    pub field_apart : (f.ended ≡ true → no_nul_between a f.place (f.place + k) ≡ true) → FieldsDiffer (f ∷ []) a b
    field_apart h =
        let o = owned_if f (f.place + k) (omega arith) (omega arith) in
        record {
          place = f.place + k;
          first = counted-one f a (f.place + k) ∙ counted_if f a (f.place + k) o h;
          second = counted-one f b (f.place + k)
              ∙ counted_if f b (f.place + k) o (λ g. no_nul_if b f.place (f.place + k) (λ j m p z. no_nul-says a f.place (f.place + k) (h g) j m p (e j m p ∙ z)));
          differs = n;
        }
