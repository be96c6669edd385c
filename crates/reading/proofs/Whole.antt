-- The whole reading: the answer, the table and the pool that `read` promises.
use Rattle.std.specs.Prelude.{Err, Ok, Result}
use mathlib.Core.Path.{◌≡◌, refl, sym, ap, ◌∙◌}
use mathlib.Core.List.{List, [], ◌∷◌, ◌++◌, append-nil}
use Prim.Native.Nat.{ℕ, ◌+◌, ◌-◌, ◌*◌, ◌/◌, ◌≤◌, min}
use native.Mathlib.Omega.{arith}
use lib.ListN.{length, take, drop, replicate, length-drop}
use borrow.Rule.Slice.PartMut.{put_mid}
use lib.Seq.{sets, sets-eq, length-sets, take_at, drop-drop, drop-length, length-take-le}
use mir.Syntax.{w64}
use mir.Val.{Fits}
use Rattle.refusal.specs.declared.Refusal.{Refusal}
use Rattle.format.specs.Bytes.{zeros, padded}
use Rattle.format.specs.Datatype.{Datatype, pool_bytes}
use Rattle.format.specs.Outcome.{Outcome, gives, refuses, answer_of}
use Rattle.format.specs.Reading.{Answer, Read, read_type_of, read_outcome_of, reading_into, reading, table_after, pool_after}
use Rattle.format.specs.Table.{rows, table_of, pool_of}
use Rattle.format.proofs.Outcomes.{answers}
use Rattle.format.proofs.Rows.{length-rows}
use Rattle.reading.specs.declared.Limits.{Limits}
use Rattle.reading.specs.declared.State.{State}
use Rattle.reading.specs.Contract.{run, AfterType}
use Rattle.reading.specs.Reads.{Reads}

-- what is stored at the front of a list, and zeros after it
filled_up : (vs l l' l'' : List ℕ) (n : ℕ) → length vs ≡ n → n ≤ length l → l' ≡ sets l 0 vs → l'' ≡ take n l' ++ zeros (length l' - n) → l'' ≡ padded (length l) vs
unfolding padded
filled_up vs l l' l'' n e h q z =
    let k : length l' ≡ length l = ap length q ∙ length-sets l 0 vs in
    let a : length l' - n ≡ length l - length vs = omega arith in
    let front : take n (sets l 0 vs) ≡ vs = ap (take n) (sets-eq vs l 0 (omega arith)) ∙ take_at vs (drop (0 + length vs) l) n e in
    z ∙ ap (λ (x : List ℕ). x ++ zeros (length l' - n)) (ap (take n) q ∙ front) ∙ ap (λ (i : ℕ). vs ++ zeros i) a

-- what std's `fill` with 0 says of a slice of n numbers
abbrev pub Filled : ℕ → List ℕ → Type 0
Filled n l = ((y : ℕ) → y ≡ 0 → y ≡ 0) → l ≡ replicate n 0

-- a list whose part from a place on is filled
zeroed : (l ys : List ℕ) (at : ℕ) → at ≤ length l → Filled (length (take (length l - at) (drop at l))) ys → put_mid at (length l - at) l ys ≡ take at l ++ zeros (length l - at)
unfolding zeros
zeroed l ys at h f =
    let n : length (take (length l - at) (drop at l)) ≡ length l - at = length-take-le (length l - at) (drop at l) (omega (arith, length-drop at l)) in
    let k : at + (length l - at) ≡ length l = omega arith in
    rw (f (λ y q. q), n, drop-drop (length l - at) at l, k, drop-length l, append-nil) refl

-- what the whole type took lies within what is lent
module _ {d t t' p p' : List ℕ} {lim : Limits} {o : Answer Datatype} {r : Result State Refusal} {s : State} (n : AfterType o d lim 0 0 r t t' p p') (q : r ≡ Ok s) where
  pub rows_fit : Fits w64 (s.end.rows * 16)
  rows_fit =
      let l = (n.done s q).ready in
      let f = l.filled in
      let m = l.few in
      record { fits = omega arith }

  pub offset_fits : Fits w64 (s.end.rows * 16 * 4)
  offset_fits =
      let l = (n.done s q).ready in
      let f = l.filled in
      let m = l.few in
      record { fits = omega arith }

  pub rows-held : s.end.rows * 16 ≤ length t'
  rows-held =
      let l = (n.done s q).ready in
      let f = l.filled in
      let x = l.table in
      omega arith

  pub pool-held : s.end.pooled ≤ length p'
  pool-held =
      let l = (n.done s q).ready in
      let m = l.room in
      let x = l.pool in
      omega arith

module _ {limit : ℕ} {d t t' p p' : List ℕ} {lim : Limits} {o : Answer Datatype} {r : Result State Refusal} (n : AfterType o d lim 0 0 r t t' p p') (is : o ≡ run (read_type_of lim.version 32) d lim 0 0 0)
    (ev : lim.version ≡ limit) (er : lim.rows ≡ min (length t / 16) 4096) (ep : lim.pool ≡ min (length p) 65536) where
  begun : reading limit (length t) (length p) d ≡ read_outcome_of (run (read_type_of lim.version 32) d lim 0 0 0)
  unfolding reading reading_into
  begun =
      let a : min (length t / 16) 4096 ≡ lim.rows - 0 = omega arith in
      let b : min (length p) 65536 ≡ lim.pool - 0 = omega arith in
      rw (a, b, ev)

  reads_as : (x : Outcome Read) (t'' p'' : List ℕ) → reading limit (length t) (length p) d ≡ x → t'' ≡ table_after (length t) x → p'' ≡ pool_after (length p) x
      → Reads limit d t p (answer_of (λ (y : Read). y.consumed) x) t'' p''
  reads_as x t'' p'' e et eb =
      let a = answers (λ (y : Read). y.consumed) (λ (n : ℕ). n ∷ []) x _ refl in
      record { answer = rw e; number = rw e a.number; values = rw e a.values; table_is = rw e et; pool-is = rw e eb }

  pub whole-refused : {e : Refusal} {t'' p'' : List ℕ} → r ≡ Err e → length t' ≡ length t → length p' ≡ length p → Filled (length t') t'' → Filled (length p') p'' → Reads limit d t p (Err e) t'' p''
  unfolding read_outcome_of table_after pool_after padded zeros answer_of
  whole-refused {e} {t''} {p''} q lt lp ft fp =
      let a : length t' ≡ length t - 0 = omega arith in
      let b : length p' ≡ length p - 0 = omega arith in
      reads_as (refuses e) t'' p'' (begun ∙ ap read_outcome_of (sym is ∙ n.denied e q)) (ft (λ y z. z) ∙ ap (λ (k : ℕ). replicate k 0) a) (fp (λ y z. z) ∙ ap (λ (k : ℕ). replicate k 0) b)

  pub whole-done : {s : State} {y z : List ℕ} → r ≡ Ok s → Filled (length (take (length t' - s.end.rows * 16) (drop (s.end.rows * 16) t'))) y → Filled (length (take (length p' - s.end.pooled) (drop s.end.pooled p'))) z
      → Reads limit d t p (Ok s.end.at) (put_mid (s.end.rows * 16) (length t' - s.end.rows * 16) t' y) (put_mid s.end.pooled (length p' - s.end.pooled) p' z)
  unfolding read_outcome_of table_after pool_after answer_of table_of pool_of
  whole-done {s} {y} {z} q ft fp =
      let w = n.done s q in
      let a = w.rows_are in
      let b = w.pooled_are in
      let f = w.ready.filled in
      let m = w.ready.room in
      reads_as (gives (record { type = w.tree; consumed = s.end.at })) _ _ (begun ∙ ap read_outcome_of (sym is ∙ w.is))
      (filled_up (rows 0 w.tree) t t' _ (s.end.rows * 16) (length-rows w.tree 0 ∙ omega arith) (omega arith) w.table (zeroed t' y (s.end.rows * 16) (rows-held n q) ft))
      (filled_up (pool_bytes w.tree) p p' _ s.end.pooled (omega arith) (omega arith) w.pool (zeroed p' z s.end.pooled (pool-held n q) fp))
