-- The answers of `write`, refusal by refusal, and what it leaves in `out`.
use Rattle.std.specs.Prelude.{Option, Some, None, Result, Ok, Err}
use Rattle.std.specs.Result.{OkIff, result_ok}
use Rattle.std.specs.Option.{ok_or}
use Prim.Native.Nat.{ℕ, ◌+◌, ◌*◌, ◌<◌, ◌≤◌}
use mathlib.Core.Path.{◌≡◌, refl, sym, ap, ◌∙◌}
use mathlib.Core.Logic.{inl, inr}
use mathlib.Core.Bool.{Bool, true, false, not}
use mathlib.Core.List.{List, ◌++◌}
use native.Mathlib.Omega.{arith}
use native.Mathlib.Decide.{dec_le}
use native.Mathlib.Nat.{min-eq_left}
use lib.ListN.{length, get_or, drop}
use borrow.Author.Tests.{not-true, not-false}
use Rattle.refusal.specs.declared.Refusal.{Refusal}
use Rattle.refusal.specs.declared.Refusal.TheVariants.{BadTable, NoSuchEdition, Unstorable, NotInEdition, NoRoom}
use Rattle.format.specs.Datatype.{Datatype}
use Rattle.format.specs.Message.{message, message_length, storable, carried, writing}
use Rattle.format.specs.Outcome.{gives, refuses, output_after, needed}
use Rattle.format.proofs.Outcomes.{answers-given, answers-refused}
use Rattle.format.specs.Table.{WithinLimits, Found, found, bad, type_at, type_of}
use Rattle.format.proofs.Bytes.{all-bytes}
use Rattle.format.proofs.Lists.{sets-front}
use Rattle.format.proofs.Table.{type_of_sound}
use Rattle.format.proofs.Written.{length-message, writing-bad-table, writing_no_edition, writing_unstorable, writing-not_in_edition, writing_no_room, writing-given}
use Rattle.table.specs.Survey.{ends_at, Checks}
use Rattle.table.specs.declared.Survey.{Survey}
use Rattle.table.proofs.Checking.{stands-fits, whole-given, whole-refused, none-refused}
use Rattle.measure.specs.Measure.{measure_of, most_length}
use Rattle.measure.specs.declared.Measure.{Measure}
use Rattle.measure.proofs.Bounds.{message-below, length-exact}
use Rattle.measure.proofs.Measures.{Told, told, untold}
use Rattle.writer_parts.specs.Places.{Stands}
use Rattle.writer_parts.specs.declared.Written.{Written}
use Rattle.writer_parts.proofs.Placing.{no_at}
use Rattle.writer.specs.Writes.{PutsType, Writes}
use Rattle.writer.proofs.Compounds.{found-puts}

-- ---- an answer by its outcome

module _ (table pool : List ℕ) (e : ℕ) {out : List ℕ} where
  refused : {f : Refusal} → writing table pool e (length out) ≡ refuses f → Writes table pool e (Err f) out out
  unfolding output_after
  refused h = record { answers = answers-refused _ _ _ _ _ h refl; out-is = sym (ap (output_after out) h) }

  given : {s out' : List ℕ} {n : ℕ} → writing table pool e (length out) ≡ gives s → n ≡ length s → out' ≡ s ++ drop (length s) out → Writes table pool e (Ok n) out out'
  unfolding output_after
  given h q w = record { answers = answers-given _ _ _ _ _ h (ap Ok q); out-is = w ∙ sym (ap (output_after out) h) }

-- what an option was that `ok_or` turned
pub some_in : {A E : Type 0} {o : Option A} {r : Result A E} {x : A} → o ≡ result_ok r → r ≡ Ok x → o ≡ Some x
some_in h q = h ∙ ap result_ok q

pub none_in : {A E : Type 0} {o : Option A} {r : Result A E} {e : E} → o ≡ result_ok r → r ≡ Err e → o ≡ None
none_in h q = h ∙ ap result_ok q

pub ok_or-error : {A E : Type 0} (o : Option A) {r : Result A E} {e f : E} → r ≡ ok_or o e → r ≡ Err f → f ≡ e
ok_or-error (Some x) {e = e} {f = f} h q = let z : Ok x ≡ Err f = sym h ∙ q in cc
ok_or-error None {e = e} {f = f} h q = let z : Err e ≡ Err f = sym h ∙ q in cc

-- ---- a type that is measured

module _ (table pool : List ℕ) (e : ℕ) {y : Option Measure} (q : y ≡ measure_of e (type_at 32 table pool 0 0)) where
  pub write_lost : (out : List ℕ) → y ≡ None → Writes table pool e (Err BadTable) out out
  write_lost out l = refused table pool e (writing-bad-table table pool e (length out) (none-refused table pool (untold e (type_at 32 table pool 0 0) q l)))

  module _ {m : Measure} (i : y ≡ Some m) where
    -- the type that the walk found
    record Measuring : Type 0 where
      pub type : Datatype
      pub stands : type_at 32 table pool 0 0 ≡ found type m.row m.place
      pub storable-is : m.storable ≡ storable type
      pub carried-is : m.carried ≡ carried e type
      pub length-is : m.length ≡ most_length (message_length e type)

    measuring : Measuring
    unfolding Told
    measuring = go (type_at 32 table pool 0 0) (told e (type_at 32 table pool 0 0) m q i) refl
      where
        go : (x : Found Datatype) → Told e x m → type_at 32 table pool 0 0 ≡ x → Measuring
        go (found t r p) k j =
            let fr : m.row ≡ r = ap (λ (v : Measure). v.row) k.is in
            let fp : m.place ≡ p = ap (λ (v : Measure). v.place) k.is in
            record {
              type = t;
              stands = rw (fr, fp) j;
              storable-is = ap (λ (v : Measure). v.storable) k.is;
              carried-is = ap (λ (v : Measure). v.carried) k.is;
              length-is = ap (λ (v : Measure). v.length) k.is;
            }
        go bad k j = absurd k

    abbrev t : Datatype
    t = measuring.type

    -- its rows and pool bytes lie in the table and in the pool
    pub rows_fit : ((i : ℕ) → get_or pool i 0 < 256) → m.row * 16 ≤ length table
    rows_fit small = (stands-fits table pool 32 t m.row m.place small measuring.stands).0

    pub place-fits : ((i : ℕ) → get_or pool i 0 < 256) → m.place ≤ length pool
    place-fits small = (stands-fits table pool 32 t m.row m.place small measuring.stands).1

    module _ (out : List ℕ) {u : Bool} (w : u ≡ ends_at table pool m.row m.place) where
      pub write_behind : not u ≡ true → Writes table pool e (Err BadTable) out out
      write_behind n = refused table pool e (writing-bad-table table pool e (length out) (whole-refused table pool t m.row m.place measuring.stands (sym w ∙ not-true u n)))

      module _ (n : not u ≡ false) (lo : 1 ≤ e) (hi : e ≤ 3) where
        is : type_of table pool ≡ gives t
        is = whole-given table pool t m.row m.place measuring.stands (sym w ∙ not-false u n)

        pub write_unstorable : not m.storable ≡ true → Writes table pool e (Err Unstorable) out out
        write_unstorable s =
            refused table pool e (writing_unstorable table pool e (length out) t is lo hi (sym measuring.storable-is ∙ not-true m.storable s))

        module _ (s : not m.storable ≡ false) where
          is-storable : storable t ≡ true
          is-storable = sym measuring.storable-is ∙ not-false m.storable s

          pub write_not-carried : not m.carried ≡ true → Writes table pool e (Err NotInEdition) out out
          write_not-carried c =
              refused table pool e (writing-not_in_edition table pool e (length out) t is lo hi is-storable (sym measuring.carried-is ∙ not-true m.carried c))

          module _ (c : not m.carried ≡ false) (small : (i : ℕ) → get_or pool i 0 < 256) where
            is_carried : carried e t ≡ true
            is_carried = sym measuring.carried-is ∙ not-false m.carried c

            within : WithinLimits t
            within = (type_of_sound table pool t (all-bytes pool small) is).within

            exact : m.length ≡ message_length e t
            exact = measuring.length-is ∙ length-exact e t within

            needs_all : needed (message_length e t) ≡ m.length
            unfolding needed
            needs_all = min-eq_left (omega (arith, message-below e t, within.rows_fit, within.pool-fits)) ∙ sym exact

            pub write_no_room : length out < m.length → Writes table pool e (Err (NoRoom m.length)) out out
            write_no_room l = refused table pool e (writing_no_room table pool e (length out) t is lo hi is-storable is_carried (omega (arith, exact)) ∙ ap (λ (n : ℕ). refuses (NoRoom n)) needs_all)

            module _ (l : m.length ≤ length out) {z : Option Written} {out' : List ℕ} (k : PutsType e 0 (type_at 32 table pool 0 0) z out out') where
              stood : Stands (message e t) m.row m.place 0 z out out'
              stood = let j : PutsType e 0 (found t m.row m.place) z out out' = rw measuring.stands at k in found-puts j is-storable is_carried

              fits : 0 + length (message e t) ≤ length out
              fits = omega (arith, length-message e t, exact)

              pub write_unput : {r : Result ℕ Refusal} → z ≡ None → Writes table pool e r out out'
              write_unput f = absurd (no_at (sym f ∙ stood.answer fits))

              pub write_written : {v : Written} → z ≡ Some v → Writes table pool e (Ok m.length) out out'
              write_written f =
                  given table pool e (writing-given table pool e (length out) t is lo hi is-storable is_carried (omega (arith, exact))) (exact ∙ sym (length-message e t))
                  (stood.written fits ∙ sets-front (message e t) out (omega (arith, fits)))

-- ---- an edition that there is not

-- by the byte that it is turned to
module _ {E : Type 0} (e : ℕ) (r : Result ℕ E) (i : OkIff r (e < 256) e) where
  tried : {v : ℕ} → r ≡ Ok v → v ≡ e
  tried h = (rw h at i).1

  pub tried_low : (v : ℕ) → r ≡ Ok v → v < 1 → e < 1
  tried_low v h l = rw (tried h) at l

  pub tried_high : (v : ℕ) → r ≡ Ok v → 4 ≤ v → 4 ≤ e
  tried_high v h l = rw (tried h) at l

  pub untried : {f : E} → r ≡ Err f → 4 ≤ e
  untried h = go (dec_le 4 e)
    where
      go : Dec (4 ≤ e) → 4 ≤ e
      go (yes y) = y
      go (no n) = absurd ((rw h at i) (omega (arith, n)))

module _ (table pool : List ℕ) (e : ℕ) (out : List ℕ) {x : Option Survey} (k : Checks table pool x) where
  pub write_bad : x ≡ None → Writes table pool e (Err BadTable) out out
  write_bad b = refused table pool e (writing-bad-table table pool e (length out) (k.bad-table b))

  module _ {s : Survey} (g : x ≡ Some s) where
    pub write_none : e < 1 → Writes table pool e (Err NoSuchEdition) out out
    write_none l = let w = k.good s g in refused table pool e (writing_no_edition table pool e (length out) w.type w.is (inl l))

    pub write_past : 4 ≤ e → Writes table pool e (Err NoSuchEdition) out out
    write_past l = let w = k.good s g in refused table pool e (writing_no_edition table pool e (length out) w.type w.is (inr (omega arith)))
