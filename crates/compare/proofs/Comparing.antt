-- `same`: one law for each way out of it.
use Rattle.std.specs.Prelude.{Option, Some, None, Result, Ok, Err, is_ok}
use Prim.Native.Nat.{ℕ, ◌+◌}
use mathlib.Core.Path.{◌≡◌, refl, sym, ap, ◌∙◌}
use mathlib.Core.Bool.{Bool, true, false, ◌&&◌}
use mathlib.Core.List.{List}
use mathlib.Core.Option as maybe
use mathlib.Core.Option.{none, some}
use native.Mathlib.Omega.{arith}
use lib.ListN.{length}
use lib.Dec.{eqb}
use Rattle.refusal.specs.declared.Refusal.{Refusal}
use Rattle.refusal.specs.declared.Refusal.TheVariants.{BadTable, ZeroSize, OutsideRecord, HeapHeld, WrongLength}
use Rattle.format.specs.Datatype.{Datatype, type_size_of}
use Rattle.format.specs.Outcome.{Outcome, gives, refuses, when_given, unless, answer_of}
use Rattle.format.specs.Image.{fields_of, agree}
use Rattle.format.specs.Ownership.{outside, heap_held, admitting, admission, comparing_records, comparing}
use Rattle.format.specs.Slots.{first_zero}
use Rattle.format.specs.Table.{found, bad}
use Rattle.format.proofs.Admission.{admission-refused, admission-given}
use Rattle.format.proofs.Outcomes.{answers-given, answers-refused}
use Rattle.format.proofs.Ownership.{admitting-zero, admitting-outside, admitting_heap, admitting-given, comparing-length, comparing-records}
use Rattle.format.proofs.Same.{owned-agree}
use Rattle.format.proofs.Table.{type-found}
use Rattle.format.proofs.Walking.{moved_none, walked_same, walked_differs}
use Rattle.std.specs.Option.{ok_or}
use Rattle.table.specs.Survey.{as_option, Sets, Checks}
use Rattle.table.proofs.Answers.{bad-table, bad-answer}
use Rattle.table.specs.declared.Survey.{Survey}
use Rattle.table.proofs.Surveys.{Says, told, Told}
use Rattle.compare.specs.Agreeing.{Agreed, equal_range_of, AnswersFields, Agrees, AgreesAt, Admits, same_or_differs, Compares}
use Rattle.compare.specs.declared.Disagreement.TheVariants.{Apart, Lost}
use Rattle.rows.specs.Entries.{RowSays}
use Rattle.rows.specs.declared.Entry.{Entry}
use Rattle.compare.proofs.Types.{untyped}
use Rattle.compare.proofs.Ranges.{range_says}

as_some : (x : maybe.Option ℕ) {c : ℕ} → as_option x ≡ Some c → x ≡ some c
unfolding as_option
as_some none h = absurd cc
as_some (some k) {c = c} h = let e : k ≡ c = cc in ap some e

as_none : (x : maybe.Option ℕ) → as_option x ≡ None → x ≡ none
unfolding as_option
as_none none h = refl
as_none (some k) h = absurd cc

-- the type that is admitted is found, so the first row says one
pub admitted-typed : (table pool : List ℕ) {size : ℕ} → Admits table pool size → {o : Option Entry} → RowSays table 0 o → o ≡ None → ⊥
admitted-typed table pool g says e =
    let f = type-found table pool g.type g.is in
    let z : bad ≡ found g.type f.row f.place = sym (untyped table pool 0 32 says e 0) ∙ f.is in
    cc

-- ---- the walk behind the check

module _ (table pool a b : List ℕ) (g : Admits table pool (length a)) (lb : length b ≡ length a) where
  abbrev t : Datatype
  t = g.type

  given : (c : Bool) → agree t a b ≡ c → comparing table pool a b ≡ gives c
  given c e =
      comparing-records table pool a b t g.is g.admitted.sized g.admitted.inside g.admitted.plain g.size_is (lb ∙ g.size_is) ∙ ap gives e

  pub records-equal : {r : Bool} → r ≡ equal_range_of a b 0 (length a) → r ≡ true → comparing table pool a b ≡ gives true
  records-equal q w =
      given true (owned-agree t a b (λ i l o.
      let j : 0 + i ≡ i = omega arith in
      rw j at (range_says a b 0 (length a) (sym q ∙ w) i (omega (arith, g.size_is)))))

  module _ (got : Agreed) (w : AgreesAt 32 table pool 0 a b 0 got) where
    -- what the walk answers of the type that is set out
    answers : (next : ℕ) × AnswersFields (fields_of t) a b next got
    unfolding Agrees
    answers =
        let f = type-found table pool t g.is in
        (f.row, rw (moved_none (fields_of t)) at (rw f.is at (w.agrees 0) g.admitted (omega (arith, g.size_is))))

    pub records-walked : {r : Bool} → r ≡ is_ok got → comparing table pool a b ≡ gives r
    records-walked q = by_answer got refl ∙ ap gives (sym q)
      where
        by_answer : (x : Agreed) → got ≡ x → comparing table pool a b ≡ gives (is_ok got)
        by_answer (Ok next) e = rw e (given true (walked_same t a b (answers.1.together next e).0))
        by_answer (Err Apart) e = rw e (given false (walked_differs t a b g.admitted.inside (answers.1.apart e)))
        by_answer (Err Lost) e = absurd (answers.1.kept e)

  pub records-unknown : {o : Option Entry} → RowSays table 0 o → o ≡ None → comparing table pool a b ≡ gives false
  records-unknown says e = absurd (admitted-typed table pool g says e)

-- the check found a type, and a survey of it
module _ (table pool : List ℕ) {s : Survey} (g : Sets table pool s) where
  says : Says s g.type s.row s.place
  says = unfold Told in told (found g.type s.row s.place) s refl g.says

  zero_is : s.zero ≡ as_option (first_zero g.type)
  zero_is = ap (λ (u : Survey). u.zero) says.is

  zero-some : {class : ℕ} → s.zero ≡ Some class → first_zero g.type ≡ some class
  zero-some z = as_some _ (sym zero_is ∙ z)

  size_is : s.size ≡ type_size_of g.type
  size_is = ap (λ (u : Survey). u.size) says.is

  outside-is : {c : Bool} → s.outside ≡ c → outside g.type ≡ c
  outside-is f = sym (ap (λ (u : Survey). u.outside) says.is) ∙ f

  heap_is : {c : Bool} → s.heap ≡ c → heap_held g.type ≡ c
  heap_is f = sym (ap (λ (u : Survey). u.heap) says.is) ∙ f

  zero-none : s.zero ≡ None → first_zero g.type ≡ none
  zero-none z = as_none _ (sym zero_is ∙ z)

  given_is : admission table pool ≡ admitting g.type (gives (type_size_of g.type))
  unfolding admission when_given
  given_is = rw g.is

  pub admit_zero : {class : ℕ} → s.zero ≡ Some class → Err (ZeroSize class) ≡ answer_of (λ (n : ℕ). n) (admission table pool)
  unfolding answer_of
  admit_zero {class = class} z = rw (given_is, admitting-zero g.type (gives (type_size_of g.type)) class (zero-some z))

  module _ (z : s.zero ≡ None) where
    pub admit_outside : s.outside ≡ true → Err OutsideRecord ≡ answer_of (λ (n : ℕ). n) (admission table pool)
    unfolding answer_of
    admit_outside o = rw (given_is, admitting-outside g.type (gives (type_size_of g.type)) (zero-none z) (outside-is o))

    module _ (o : s.outside ≡ false) where
      pub admit_heap : s.heap ≡ true → Err HeapHeld ≡ answer_of (λ (n : ℕ). n) (admission table pool)
      unfolding answer_of
      admit_heap p = rw (given_is, admitting_heap g.type (gives (type_size_of g.type)) (zero-none z) (outside-is o) (heap_is p))

      pub admit_size : s.heap ≡ false → Ok s.size ≡ answer_of (λ (n : ℕ). n) (admission table pool)
      unfolding answer_of
      admit_size p = rw (given_is, admitting-given g.type (gives (type_size_of g.type)) (zero-none z) (outside-is o) (heap_is p), size_is)

pub admit_bad : (table pool : List ℕ) {x : Option Survey} {o : Result Survey Refusal} {a : Result ℕ Refusal} {e y : Refusal} → Checks table pool x → o ≡ ok_or x BadTable → o ≡ Err e → a ≡ Err y → y ≡ e
    → a ≡ answer_of (λ (n : ℕ). n) (admission table pool)
unfolding admission when_given answer_of
admit_bad table pool h w i d f = bad-answer table pool h w i d f ∙ rw (bad-table table pool h w i)

-- ---- behind the admission

refused-is : (o : Outcome ℕ) (e : Refusal) → Err e ≡ answer_of (λ (n : ℕ). n) o → o ≡ refuses e
unfolding answer_of
refused-is (gives n) e h = absurd cc
refused-is (refuses f) e h = let k : f ≡ e = cc in ap refuses k

size-given : (o : Outcome ℕ) (n : ℕ) → Ok n ≡ answer_of (λ (k : ℕ). k) o → o ≡ gives n
unfolding answer_of
size-given (gives k) n h = let q : k ≡ n = cc in ap gives q
size-given (refuses f) n h = absurd cc

module _ (table pool : List ℕ) {x : Result ℕ Refusal} (h : x ≡ answer_of (λ (n : ℕ). n) (admission table pool)) where
  -- a refusal is that of every call that waits behind the admission
  pub refused-admission : (e : Refusal) → x ≡ Err e → admission table pool ≡ refuses e
  refused-admission e q = refused-is (admission table pool) e (sym q ∙ h)

  pub admitted-size : (n : ℕ) → x ≡ Ok n → Admits table pool n
  admitted-size n q =
      let w = admission-given table pool n (size-given (admission table pool) n (sym q ∙ h)) in
      record { type = w.type; is = w.is; admitted = record { sized = w.sized; inside = w.inside; plain = w.plain }; size_is = w.size_is }

  pub same-refused : (a b : List ℕ) (e : Refusal) {r : Result Bool Refusal} → x ≡ Err e → r ≡ Err e → Compares (comparing table pool a b) r
  same-refused a b e {r = r} q i =
      let k : comparing table pool a b ≡ refuses e =
      unfold comparing comparing_records in admission-refused table pool (λ t. unless (eqb (length a) (type_size_of t) && eqb (length b) (type_size_of t)) WrongLength (gives (agree t a b))) e (refused-admission e q) in
      answers-refused (λ (c : Bool). c) same_or_differs (comparing table pool a b) e r k i

module _ (table pool a b : List ℕ) (n : ℕ) (g : Admits table pool n) where
  wrong : (length a ≡ n → length b ≡ n → ⊥) → Compares (comparing table pool a b) (Err WrongLength)
  wrong u =
      let d = g.admitted in
      answers-refused (λ (c : Bool). c) same_or_differs (comparing table pool a b) WrongLength (Err WrongLength)
      (comparing-length table pool a b g.type g.is d.sized d.inside d.plain (λ la lb. u (la ∙ sym g.size_is) (lb ∙ sym g.size_is))) refl

  pub wrong_length : (length a ≡ n → ⊥) → Compares (comparing table pool a b) (Err WrongLength)
  wrong_length u = wrong (λ la lb. u la)

  pub wrong-length_b : (length b ≡ n → ⊥) → Compares (comparing table pool a b) (Err WrongLength)
  wrong-length_b u = wrong (λ la lb. u lb)

  pub same-admitted : length a ≡ n → Admits table pool (length a)
  same-admitted e = rw e g

-- by the walk behind the check
pub same-compared : (table pool a b : List ℕ) {r : Bool} → comparing table pool a b ≡ gives r → Compares (comparing table pool a b) (Ok r)
same-compared table pool a b {r = r} q = answers-given (λ (c : Bool). c) same_or_differs (comparing table pool a b) r (Ok r) q refl
