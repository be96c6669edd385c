-- Laws that put a contract together, or take one apart.
use Rattle.std.specs.Prelude.{Err, Ok, Result}
use mathlib.Core.Path.{◌≡◌, refl, sym, ap, ◌∙◌}
use mathlib.Core.Logic.{⊎_elim}
use mathlib.Core.List.{List, [], ◌∷◌, ◌++◌}
use Prim.Native.Nat.{ℕ, suc, ◌+◌, ◌-◌, ◌*◌, ◌<◌, ◌≤◌}
use native.Mathlib.Omega.{arith}
use lib.ListN.{length, set, take, drop, length-drop}
use lib.Seq.{sets, length-sets, set_comm}
use Rattle.std.specs.Result.{IsErr, IsErrAnd}
use Rattle.std.proofs.lemmas.Result.{err_from_is_err_and}
use Rattle.refusal.specs.declared.Refusal.{Refusal}
use Rattle.refusal.specs.declared.Refusal.TheVariants.{BadPadding, BadCharset, ZeroSize}
use Rattle.format.specs.Datatype.{Datatype, type_size_of, row_count, pool_bytes}
use Rattle.format.specs.Reading.{Answer, refused}
use Rattle.format.specs.Table.{rows}
use Rattle.format.proofs.Lists.{part-all}
use Rattle.reading.specs.declared.Limits.{Limits}
use Rattle.reading.specs.declared.Cursor.{Cursor}
use Rattle.reading.specs.declared.State.{State}
use Rattle.reading.specs.Contract.{here, Ready, Landed, After, EndsRow, StringCodes}

-- a property of what is returned, by cases: a result, or a refusal
module _ {A : Type 0} (P : A → Type 0) where
  pub by_done : {s : A} → P s → (z : A) → ◌≡◌ {A = Result A Refusal} (Ok s) (Ok z) → P z
  by_done {s} w z q = let e : s ≡ z = cc in rw e at w

  pub not_done : {e : Refusal} → (z : A) → ◌≡◌ {A = Result A Refusal} (Err e) (Ok z) → P z
  not_done z q = absurd (cc)

module _ {A : Type 0} (P : Refusal → Type 0) where
  pub by_refused : {e : Refusal} → P e → (f : Refusal) → ◌≡◌ {A = Result A Refusal} (Err e) (Err f) → P f
  by_refused {e} w f q = let k : e ≡ f = cc in rw k at w

  pub not-refused : {s : A} → (f : Refusal) → ◌≡◌ {A = Result A Refusal} (Ok s) (Err f) → P f
  not-refused f q = absurd (cc)

-- the exit of a `?` returns the refusal that was met
pub passed_on : {A : Type 0} {e : Refusal} (r : Result A Refusal) → IsErr r × IsErrAnd r (λ x. x ≡ e) → r ≡ Err e
passed_on r h = let p = err_from_is_err_and r h.1 in rw (p.1, p.2)

module _ {A S : Type 0} {end : S → Cursor} {words : ℕ → A → List ℕ} {bytes : A → List ℕ} {count : A → ℕ} {Q : S → A → Type 0} {d : List ℕ} {lim : Limits} {used pooled : ℕ} {t t' p p' : List ℕ} {o : Answer A} where
  -- what equals an answer has its contract
  pub same : {o' : Answer A} {r : Result S Refusal} → o ≡ o' → After end words bytes count Q o' d lim used pooled r t t' p p' → After end words bytes count Q o d lim used pooled r t t' p p'
  same e w = rw e w

  pub lands : {s : S} → Landed words bytes count (Q s) o d lim used pooled (end s) t t' p p' → After end words bytes count Q o d lim used pooled (Ok s) t t' p p'
  lands w = record { done = by_done _ w; denied = not-refused _ }

  pub refuses : {e : Refusal} → o ≡ refused e → After end words bytes count Q o d lim used pooled (Err e) t t' p p'
  refuses q = record { done = not_done _; denied = by_refused (λ e. o ≡ refused e) q }

-- rows and bytes more are used, and the table and the pool keep their lengths
pub ready_at : {lim : Limits} {used pooled : ℕ} {t t' p p' : List ℕ} (u v : ℕ) → Ready lim used pooled t p → u ≤ lim.rows → v ≤ lim.pool → length t' ≡ length t → length p' ≡ length p
    → Ready lim u v t' p'
ready_at u v r a b e f =
    let x = r.table in
    let y = r.pool in
    record { filled = a; few = r.few; table = omega arith; room = b; small = r.small; pool = omega arith }

-- a type of one row
pub one-row : (tree : Datatype) (w b : List ℕ) {o : Answer Datatype} {d : List ℕ} {lim : Limits} {used pooled size : ℕ} {s : Cursor} {t t' p p' : List ℕ}
    → o ≡ here tree d lim s → rows pooled tree ≡ w → pool_bytes tree ≡ b → row_count tree ≡ 1 → (size ≡ type_size_of tree) × (0 < type_size_of tree) → s.rows ≡ used + 1 → s.pooled ≡ pooled + length b
    → t' ≡ sets t (used * 16) w → p' ≡ sets p pooled b → Ready lim used pooled t p → used < lim.rows → s.pooled ≤ lim.pool → s.at ≤ length d + 7
    → Landed rows pool_bytes row_count (λ t. (size ≡ type_size_of t) × (0 < type_size_of t)) o d lim used pooled s t t' p p'
one-row tree w b {used = used} {pooled = pooled} {s = s} {t = t} {p = p} is ew eb one sized rs ps et ep ready free room near =
    record {
      tree = tree;
      such = sized;
      is = is;
      rows_are = rs ∙ ap (λ (n : ℕ). used + n) (sym one);
      pooled_are = ps ∙ ap (λ (l : List ℕ). pooled + length l) (sym eb);
      table = et ∙ ap (sets t (used * 16)) (sym ew);
      pool = ep ∙ ap (sets p pooled) (sym eb);
      ready = ready_at s.rows s.pooled ready (omega arith) room (ap length et ∙ length-sets t (used * 16) w) (ap length ep ∙ length-sets p pooled b);
      near = near;
    }

-- what holds of both ways out of a type's own row holds of the answer
pub by_row : (P : Result State Refusal → Type 0) {used class : ℕ} {words : List ℕ} {end : Cursor} {size : ℕ} {t t' : List ℕ} (r : Result State Refusal) → EndsRow used class words end size r t t'
    → (0 < size → t' ≡ sets t (used * 16) words → P (Ok (record { end = end; size = size }))) → (size ≡ 0 → P (Err (ZeroSize class))) → P r
by_row P (Ok s) x f g = let e = x.done s refl in rw e.0 (f e.1 e.2)
by_row P (Err k) x f g = let e = x.denied k refl in rw e.0 (g e.1)

-- what holds of a padding that is refused, and of a charset, holds of the refusal
pub by_code : (P : Refusal → Type 0) {padding charset : ℕ} {r : Result (Unit {0}) Refusal} {e : Refusal} → StringCodes padding charset r → r ≡ Err e
    → (2 < padding → P (BadPadding padding)) → (padding ≤ 2 → 1 < charset → P (BadCharset charset)) → P e
by_code P x q f g = ⊎_elim (λ h. rw h.1 (f h.0)) (λ h. rw h.2 (g h.0 h.1)) (x.unknown _ q)

-- ---- facts in the form in which the code has or needs them

-- that a table and a pool are ready is no matter of the version limit
pub ready_any_version : {lim : Limits} {used pooled : ℕ} {t p : List ℕ} (lim' : Limits) → Ready lim used pooled t p → lim'.rows ≡ lim.rows → lim'.pool ≡ lim.pool → Ready lim' used pooled t p
ready_any_version lim' k a b =
    record {
      filled = omega arith;
      few = omega arith;
      table = omega arith;
      room = omega arith;
      small = omega arith;
      pool = omega arith;
    }

-- a place in the part of a message from `from` on
pub part-near : (d : List ℕ) {from k : ℕ} → from ≤ length d → k ≤ length (take (length d - from) (drop from d)) + 7 → from + k ≤ length d + 7
part-near d {from} h n = omega (arith, ap length (part-all d from), length-drop from d)

-- ---- stores side by side

-- a store below a list of stores may come after them
set_before : (vs l : List ℕ) (i j v : ℕ) → i < j → set (sets l j vs) i v ≡ sets (set l i v) j vs
set_before [] l i j v h = refl
set_before (x ∷ vs) l i j v h = set_before vs (set l j x) i (suc j) v (omega arith) ∙ ap (λ (m : List ℕ). sets m (suc j) vs) (set_comm l j i x v (λ e. omega arith))

-- so a piece may be stored in front of one that is there already
pub sets-before : (ws vs l : List ℕ) (i j : ℕ) → j ≡ i + length ws → sets (sets l j vs) i ws ≡ sets l i (ws ++ vs)
sets-before [] vs l i j e =
    let q : j ≡ i = omega arith in
    rw q
sets-before (w ∷ ws) vs l i j e =
    ap (λ (m : List ℕ). sets m (suc i) ws) (set_before vs l i j w (omega arith)) ∙ sets-before ws vs (set l i w) (suc i) j (omega arith)
