-- Laws of runs: they count what the fields count, lie where the fields lie, and are read back from their words.
use Prim.Native.Nat.{ℕ, zero, suc, ◌+◌, ◌-◌, ◌*◌, ◌/◌, ◌%◌, ◌<◌, ◌≤◌}
use mathlib.Core.Path.{◌≡◌, refl, ap, ◌∙◌}
use mathlib.Core.Logic.{inl, inr, ⊎_elim}
use mathlib.Core.Bool.{Bool, true, false, cond, not, ◌&&◌, ◌||◌, or_assoc, or-false}
use mathlib.Core.List.{List, [], ◌∷◌, ◌++◌, Memᴰ}
use mathlib.Core.Option.{none}
use native.Mathlib.Omega.{arith}
use native.Mathlib.Nat.{suc-mul}
use lib.Dec.{ltb, eqb}
use borrow.Author.Tests.{ltb-true, ltb-false, eqb-true, eq-eqb, not-true}
use Rattle.format.specs.Datatype.{Datatype, leaf, compound, enumeration, variable_length, array, Members, no_members, member, type_size_of}
use Rattle.format.specs.Image.{Field, field_of, move_field, move_fields, field_entries, fields_of, owned_by, counted_by, some_field, counted_in, taken_in, image_from}
use Rattle.format.specs.Ownership.{FieldAt, MemberFieldAt, outside}
use Rattle.format.specs.Slots.{first_zero, member_first_zero}
use Rattle.format.proofs.Booleans.{and_both, or_either, or_second, same_test, not-true-false, true_or_false}
use Rattle.format.proofs.Fields.{fields-sound}
use Rattle.format.proofs.Image.{counted-owned, owned-says, owned_if}
use Rattle.format.proofs.Same.{listed-inside}
use Rattle.format.proofs.Slots.{first-zero-size, or_else_none}
use Rattle.format.proofs.Walking.{counted-whole, entry_walked}
use Rattle.groups.specs.Runs.{RunList, joins, joined, add_run_of, add_runs, no_run, all_runs, runs_of, run_code_of, words_of, runs_in, Inside}

-- ---- a field that lengthens a run

-- what it is to lengthen it
pub record Joins (g f : Field) : Type 0 where
  pub whole_run : g.ended ≡ false
  pub whole-field : f.ended ≡ false
  pub touches : g.place + g.size ≡ f.place

pub joins-says : (g f : Field) → joins g f ≡ true → Joins g f
unfolding joins
joins-says g f h =
    let p = and_both (not g.ended) (not f.ended && eqb (g.place + g.size) f.place) h in
    let q = and_both (not f.ended) (eqb (g.place + g.size) f.place) p.1 in
    record { whole_run = not-true g.ended p.0; whole-field = not-true f.ended q.0; touches = eqb-true _ _ q.1 }

-- the runs after one field more, by whether it lengthens the last
pub run-longer : (v : RunList) (f : Field) → joins v.last f ≡ true → add_run_of v f ≡ record { last = joined v.last f; before = v.before }
unfolding add_run_of
run-longer v f h = rw h

pub run-new : (v : RunList) (f : Field) → joins v.last f ≡ false → add_run_of v f ≡ record { last = f; before = v.last ∷ v.before }
unfolding add_run_of
run-new v f h = rw h

-- ---- lists of fields

pub runs_append : (v : RunList) (fs gs : List Field) → add_runs v (fs ++ gs) ≡ add_runs (add_runs v fs) gs
unfolding add_runs
runs_append v [] gs = refl
runs_append v (f ∷ fs) gs = runs_append (add_run_of v f) fs gs

-- a field that counts whole
abbrev pub whole_at : (at n : ℕ) → Field
whole_at at n = record { place = at; size = n; ended = false }

-- whether it lengthens a run depends on where it begins only
joins-place : (g : Field) (at m n : ℕ) {c : Bool} → joins g (whole_at at m) ≡ c → joins g (whole_at at n) ≡ c
unfolding joins
joins-place g at m n h = h

-- two that touch are added as one
run_both : (v : RunList) (at m n : ℕ) → add_run_of (add_run_of v (whole_at at m)) (whole_at (at + m) n) ≡ add_run_of v (whole_at at (m + n))
run_both v at m n =
    ⊎_elim
    (λ (h : joins v.last (whole_at at m) ≡ true).
    let w = joins-says v.last (whole_at at m) h in
    let t : joins (joined v.last (whole_at at m)) (whole_at (at + m) n) ≡ true = unfold joins joined in eq-eqb (v.last.place + (v.last.size + m)) (at + m) (omega (arith, w.touches)) in
    let k : joins v.last (whole_at at (m + n)) ≡ true = joins-place v.last at m (m + n) h in
    rw (run-longer v (whole_at at m) h, run-longer (record { last = joined v.last (whole_at at m); before = v.before }) (whole_at (at + m) n) t, run-longer v (whole_at at (m + n)) k) (three v.last v.before))
    (λ (h : joins v.last (whole_at at m) ≡ false).
    let t : joins (whole_at at m) (whole_at (at + m) n) ≡ true = unfold joins in eq-eqb (at + m) (at + m) refl in
    let k : joins v.last (whole_at at (m + n)) ≡ false = joins-place v.last at m (m + n) h in
    rw (run-new v (whole_at at m) h, run-longer (record { last = whole_at at m; before = v.last ∷ v.before }) (whole_at (at + m) n) t, run-new v (whole_at at (m + n)) k) two)
    (true_or_false (joins v.last (whole_at at m)))
  where
    three : (g : Field) (b : List Field) → ◌≡◌ {A = RunList} (record { last = joined (joined g (whole_at at m)) (whole_at (at + m) n); before = b }) (record { last = joined g (whole_at at (m + n)); before = b })
    three g b = unfold joined in (let e : g.size + m + n ≡ g.size + (m + n) = omega arith in rw e)

    two : ◌≡◌ {A = RunList} (record { last = joined (whole_at at m) (whole_at (at + m) n); before = v.last ∷ v.before }) (record { last = whole_at at (m + n); before = v.last ∷ v.before })
    two = unfold joined in refl

-- entries of a field that counts whole, one behind the other, are added as one field
pub runs_entries : (v : RunList) (at n k : ℕ) → add_runs v (move_fields at (field_entries n (whole_at 0 n ∷ []) 0 (suc k))) ≡ add_run_of v (whole_at at (suc k * n))
unfolding add_runs move_fields move_field field_entries
runs_entries v at n zero =
    let e : at + (0 * n + 0) ≡ at = omega arith in
    let i : 1 * n ≡ n = omega arith in
    rw (e, i)
runs_entries v at n (suc k) =
    let e : at + suc k * n + 0 ≡ at + suc k * n = omega arith in
    let i : suc (suc k) * n ≡ suc k * n + n = suc-mul (suc k) n in
    ap (add_runs v) (entry_walked at n (whole_at 0 n ∷ []) (suc k))
    ∙ runs_append v (move_fields at (field_entries n (whole_at 0 n ∷ []) 0 (suc k))) (move_fields (at + suc k * n) (whole_at 0 n ∷ []))
    ∙ rw (runs_entries v at n k, e, i) (run_both v at (suc k * n) n)

-- ---- what is counted

or_first : (a b : Bool) → a ≡ true → (a || b) ≡ true
or_first a b h = rw h

owned-joined : (g f : Field) (i : ℕ) → g.place + g.size ≡ f.place → owned_by (joined g f) i ≡ (owned_by f i || owned_by g i)
unfolding joined
owned-joined g f i e =
    same_test (owned_by (joined g f) i) (owned_by f i || owned_by g i)
    (λ h.
    let w = owned-says (joined g f) i h in
    ⊎_elim
    (λ q. or_second (owned_by f i) (owned_by g i) (owned_if g i w.0 (omega (arith, ltb-true i f.place q))))
    (λ q. or_first (owned_by f i) (owned_by g i) (owned_if f i (ltb-false i f.place q) (omega (arith, w.1))))
    (true_or_false (ltb i f.place)))
    (λ h.
    ⊎_elim
    (λ q. let w = owned-says f i q in owned_if (joined g f) i (omega (arith, w.0)) (omega (arith, w.1)))
    (λ q. let w = owned-says g i q in owned_if (joined g f) i w.0 (omega (arith, w.1)))
    (or_either (owned_by f i) (owned_by g i) h))

counted-joined : (g f : Field) (r : List ℕ) (i : ℕ) → joins g f ≡ true → counted_by (joined g f) r i ≡ (counted_by f r i || counted_by g r i)
counted-joined g f r i h =
    let w = joins-says g f h in
    let e : (joined g f).ended ≡ false = unfold joined in refl in
    rw (counted-whole (joined g f) r i e, counted-whole f r i w.whole-field, counted-whole g r i w.whole_run) (owned-joined g f i w.touches)

counted-run : (v : RunList) (f : Field) (r : List ℕ) (i : ℕ) → counted_in (all_runs (add_run_of v f)) r i ≡ (counted_by f r i || counted_in (all_runs v) r i)
counted-run v f r i =
    ⊎_elim
    (λ h. rw (run-longer v f h) (unfold all_runs counted_in some_field in (rw (counted-joined v.last f r i h) (or_assoc (counted_by f r i) (counted_by v.last r i) (some_field (λ g. counted_by g r i) v.before)))))
    (λ h. rw (run-new v f h) (unfold all_runs counted_in some_field in refl))
    (true_or_false (joins v.last f))

or_turned : (a b c : Bool) → (a || (b || c)) ≡ ((b || a) || c)
or_turned true true c = refl
or_turned true false c = refl
or_turned false true c = refl
or_turned false false c = refl

counted_runs : (v : RunList) (fs : List Field) (r : List ℕ) (i : ℕ) → counted_in (all_runs (add_runs v fs)) r i ≡ (counted_in fs r i || counted_in (all_runs v) r i)
unfolding add_runs counted_in some_field
counted_runs v [] r i = refl
counted_runs v (f ∷ fs) r i =
    counted_runs (add_run_of v f) fs r i ∙ rw (counted-run v f r i) (or_turned (counted_in fs r i) (counted_by f r i) (counted_in (all_runs v) r i))

-- an empty run counts nothing
none-counted : (r : List ℕ) (i : ℕ) → counted_by no_run r i ≡ false
none-counted r i = not-true-false (counted_by no_run r i) (λ h. unfold no_run in (let w = owned-says no_run i (counted-owned no_run r i h) in omega (arith, w.1)))

pub runs_counted : (fs : List Field) (r : List ℕ) (i : ℕ) → counted_in (runs_of fs) r i ≡ counted_in fs r i
unfolding runs_of
runs_counted fs r i =
    counted_runs (record { last = no_run; before = [] }) fs r i ∙ unfold all_runs counted_in some_field in (rw (none-counted r i) (or-false (counted_in fs r i)))

pub runs_image : (fs : List Field) (r : List ℕ) (i n : ℕ) → image_from (runs_of fs) r i n ≡ image_from fs r i n
unfolding image_from taken_in
runs_image fs r i zero = refl
runs_image fs r i (suc n) = rw (runs_counted fs r i, runs_image fs r (suc i) n)

-- ---- words

code_size : (f : Field) → run_code_of f / 2 ≡ f.size
unfolding run_code_of
code_size f = go f.ended
  where
    go : (c : Bool) → cond c (f.size * 2 + 1) (f.size * 2) / 2 ≡ f.size
    go true = omega arith
    go false = omega arith

code_ended : (f : Field) → eqb (run_code_of f % 2) 1 ≡ f.ended
unfolding run_code_of
code_ended f = go f.ended
  where
    go : (c : Bool) → eqb (cond c (f.size * 2 + 1) (f.size * 2) % 2) 1 ≡ c
    go true = let e : (f.size * 2 + 1) % 2 ≡ 1 = omega arith in rw e
    go false = let e : f.size * 2 % 2 ≡ 0 = omega arith in rw e

pub runs_in_words : (rs : List Field) → runs_in (words_of rs) ≡ rs
unfolding runs_in words_of
runs_in_words [] = refl
runs_in_words (f ∷ fs) = rw (code_size f, code_ended f, runs_in_words fs)

-- ---- within so many bytes

inside-run : (n : ℕ) (v : RunList) (f : Field) → f.place + f.size ≤ n → Inside n (all_runs v) → Inside n (all_runs (add_run_of v f))
unfolding all_runs Inside
inside-run n v f l h =
    ⊎_elim
    (λ e. rw (run-longer v f e) (unfold joined in (omega (arith, l, (joins-says v.last f e).touches), h.1)))
    (λ e. rw (run-new v f e) (l, h))
    (true_or_false (joins v.last f))

inside_runs : (n : ℕ) (v : RunList) (fs : List Field) → Inside n fs → Inside n (all_runs v) → Inside n (all_runs (add_runs v fs))
unfolding add_runs Inside
inside_runs n v [] h k = k
inside_runs n v (f ∷ fs) h k = inside_runs n (add_run_of v f) fs h.1 (inside-run n v f h.0 k)

pub runs_inside : (n : ℕ) (fs : List Field) → Inside n fs → Inside n (runs_of fs)
unfolding runs_of
runs_inside n fs h = inside_runs n (record { last = no_run; before = [] }) fs h (unfold all_runs Inside no_run in (omega arith, tt))

-- each listed field, and so all
inside-each : (n : ℕ) (fs : List Field) → ((f : Field) → Memᴰ f fs → f.place + f.size ≤ n) → Inside n fs
unfolding Inside
inside-each n [] h = tt
inside-each n (f ∷ fs) h = (h f (Memᴰ.head refl), inside-each n fs (λ g m. h g (Memᴰ.tail m)))

mutual
  unfolding FieldAt first_zero

  -- a field of a type without a size 0 has a size
  reached-sized : (t x : Datatype) (p : ℕ) → first_zero t ≡ none → FieldAt t x p → 0 < type_size_of x
  reached-sized (leaf n y) x p z h = rw h.0 (first-zero-size (leaf n y) z)
  reached-sized (compound n ms) x p z h = member-sized ms x p (or_else_none _ _ z).1 h
  reached-sized (enumeration n t ms) x p z h = rw h.0 (first-zero-size (enumeration n t ms) z)
  reached-sized (variable_length i a c t) x p z h = rw h.0 (first-zero-size (variable_length i a c t) z)
  reached-sized (array ds t) x p z (k, q, g, e, r) = reached-sized t x q (or_else_none _ _ z).1 r

  member-sized : (ms : Members) (x : Datatype) (p : ℕ) → member_first_zero ms ≡ none → MemberFieldAt ms x p → 0 < type_size_of x
  member-sized no_members x p z h = absurd h
  member-sized (member b o t ms) x p z (inl (q, e, r)) = reached-sized t x q (or_else_none _ _ z).0 r
  member-sized (member b o t ms) x p z (inr r) = member-sized ms x p (or_else_none _ _ z).1 r

listed-sized : (t : Datatype) (f : Field) → first_zero t ≡ none → Memᴰ f (fields_of t) → 0 < f.size
unfolding field_of
listed-sized t f z m =
    let w = fields-sound t f m in
    omega (arith, reached-sized t w.type w.place z w.reached, ap (λ (g : Field). g.size) w.is)

pub fields-inside : (t : Datatype) → outside t ≡ false → first_zero t ≡ none → Inside (type_size_of t) (fields_of t)
fields-inside t o z =
    inside-each (type_size_of t) (fields_of t) (λ f m.
    let s = listed-sized t f z m in
    let w = listed-inside t o f m (f.place + f.size - 1) (owned_if f (f.place + f.size - 1) (omega (arith, s)) (omega (arith, s))) in
    omega (arith, s, w))
