-- The rows and pool bytes that a type uses, from where the check's survey ends; and that a table and pool cut to them set out the same type.
use Prim.Native.Nat.{ℕ, ◌-◌, ◌*◌, ◌<◌}
use mathlib.Core.Path.{◌≡◌, refl, ap, ◌∙◌}
use mathlib.Core.List.{List, append-nil}
use native.Mathlib.Omega.{arith}
use lib.ListN.{length, get_or, take}
use lib.Seq.{take_at}
use Rattle.std.specs.Prelude.{Option, Some, Result, Ok, Err}
use Rattle.std.specs.Option.{ok_or}
use Rattle.refusal.specs.declared.Refusal.TheVariants.{BadTable}
use Rattle.refusal.specs.declared.Refusal.{Refusal}
use Rattle.format.specs.Bytes.{AllBytes, padded, zeros}
use Rattle.format.specs.Datatype.{Datatype, row_count, pool_bytes}
use Rattle.format.specs.Outcome.{gives, when_given}
use Rattle.format.proofs.Outcomes.{answers-given, answers-refused}
use Rattle.format.specs.Table.{rows, type_of, table_of, pool_of}
use Rattle.format.proofs.Rows.{length-rows}
use Rattle.format.proofs.Table.{type_of_sound, type_of_of}
use Rattle.table.specs.Extent.{extent_of, extending, UsedAs}
use Rattle.table.specs.declared.Used.{Used}
use Rattle.table.specs.Survey.{Checks}
use Rattle.table.specs.declared.Survey.{Survey}
use Rattle.table.proofs.Answers.{bad-table, bad-answer}
use Rattle.table.proofs.Checking.{stands_at}

module _ (table pool : List ℕ) {r : Option Survey} (h : Checks table pool r) where
  pub extent_bad : {o : Result Survey Refusal} {a : Result Used Refusal} {e y : Refusal} → o ≡ ok_or r BadTable → o ≡ Err e → a ≡ Err y → y ≡ e → UsedAs (extending table pool) a
  unfolding extending when_given
  extent_bad w i d f = answers-refused _ _ _ BadTable _ (rw (bad-table table pool h w i)) (bad-answer table pool h w i d f)

  pub extent_good : {s : Survey} → ((i : ℕ) → get_or pool i 0 < 256) → r ≡ Some s → UsedAs (extending table pool) (Ok (record { rows = s.row; bytes = s.place }))
  unfolding extending when_given extent_of
  extent_good {s = s} b g =
      let x = h.good s g in
      let y = stands_at table pool 32 x.type s.row s.place b x.stands in
      let fr : s.row ≡ row_count x.type = omega (arith, y.row-behind) in
      let fp : s.place ≡ length (pool_bytes x.type) = omega (arith, y.place-behind) in
      answers-given _ _ _ (record { rows = s.row; bytes = s.place }) _ (rw (x.is, ← fr, ← fp)) refl

padded-whole : (s : List ℕ) → padded (length s) s ≡ s
unfolding padded zeros
padded-whole s = let e : length s - length s ≡ 0 = omega arith in rw e (append-nil s)

-- a table and pool cut to the rows and pool bytes that their type uses set out the same type
pub cut_sets-out : (table pool : List ℕ) (t : Datatype) → AllBytes pool → type_of table pool ≡ gives t
    → type_of (take (16 * row_count t) table) (take (length (pool_bytes t)) pool) ≡ gives t
unfolding padded table_of pool_of
cut_sets-out table pool t b h =
    let s = type_of_sound table pool t b h in
    let ew : take (16 * row_count t) table ≡ rows 0 t = ap (take (16 * row_count t)) s.table_is ∙ take_at (rows 0 t) _ (16 * row_count t) (length-rows t 0) in
    let ep : take (length (pool_bytes t)) pool ≡ pool_bytes t = ap (take (length (pool_bytes t))) s.pool-is ∙ take_at (pool_bytes t) _ (length (pool_bytes t)) refl in
    let o : type_of (table_of (length (rows 0 t)) t) (pool_of (length (pool_bytes t)) t) ≡ gives t = type_of_of t (length (rows 0 t)) (length (pool_bytes t)) s.within s.codes (omega arith) (omega arith) in
    rw (ew, ep) (rw (padded-whole (rows 0 t), padded-whole (pool_bytes t)) at o)
