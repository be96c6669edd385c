-- One field added to the runs that a state and a workspace hold, and a run stored: one law for each way out.
use Prim.Native.Nat.{ℕ, suc, ◌+◌, ◌-◌, ◌*◌, ◌/◌, ◌<◌, ◌≤◌}
use mathlib.Core.Path.{◌≡◌, refl, sym, ◌∙◌}
use mathlib.Core.Bool.{Bool, true, false, cond}
use mathlib.Core.List.{List, ◌∷◌}
use native.Mathlib.Omega.{arith}
use native.Mathlib.Numerals.{add-one}
use lib.ListN.{length, drop, set, length-set}
use lib.Seq.{drop-cons, drop-set-lt, get_or-set_same, get_or-set_other}
use lib.Dec.{eqb}
use mir.Val.{bool_byte}
use borrow.Author.Tests.{eqb-true, eq-eqb, ne_eqb}
use Rattle.format.proofs.Booleans.{same_test}
use Rattle.compare.specs.Agreeing.{field_at}
use Rattle.groups.specs.Runs.{RunList, joins, joined, add_runs, run_code_of, words_of}
use Rattle.groups.proofs.Runs.{joins-says, run-longer, run-new}
use Rattle.runs.specs.Listing.{as_field, open_run, Grows, Stores, ListsOne, ListsField}
use Rattle.runs.specs.declared.Run.{Run}
use Rattle.runs.specs.declared.Runs.{Runs}

-- ---- whether a field lengthens the open run

module _ (s f : Run) where
  pub joins-ended-run : s.ended ≡ true → false ≡ joins (as_field s) (as_field f)
  unfolding joins
  joins-ended-run e = rw e

  module _ (run : s.ended ≡ false) where
    pub joins-ended-field : f.ended ≡ true → false ≡ joins (as_field s) (as_field f)
    unfolding joins
    joins-ended-field e = rw (run, e)

    module _ (field : f.ended ≡ false) where
      joins_by_place : joins (as_field s) (as_field f) ≡ eqb (s.place + s.size) f.place
      unfolding joins
      joins_by_place = rw (run, field)

      pub joins-before : f.place < s.place → false ≡ joins (as_field s) (as_field f)
      joins-before l = sym (joins_by_place ∙ ne_eqb (s.place + s.size) f.place (λ e. omega arith))

      pub joins_touching : s.place ≤ f.place → eqb (f.place - s.place) s.size ≡ joins (as_field s) (as_field f)
      joins_touching l =
          same_test (eqb (f.place - s.place) s.size) (eqb (s.place + s.size) f.place)
          (λ e. eq-eqb (s.place + s.size) f.place (omega (arith, eqb-true (f.place - s.place) s.size e)))
          (λ e. eq-eqb (f.place - s.place) s.size (omega (arith, eqb-true (s.place + s.size) f.place e)))
          ∙ sym joins_by_place

-- ---- a run's second word

pub code_is : (g : Run) → g.size * 2 + bool_byte g.ended ≡ run_code_of (as_field g)
unfolding run_code_of
code_is g = go g.size g.ended
  where
    go : (n : ℕ) (e : Bool) → n * 2 + bool_byte e ≡ cond e (n * 2 + 1) (n * 2)
    go n true = refl
    go n false = omega arith

-- ---- the count of closed runs

pub grows_same : (c : ℕ) → Grows c c
grows_same c = record { more = omega arith; low = λ l. l }

pub grows_both : {a b c : ℕ} → Grows a b → Grows b c → Grows a c
grows_both h k = record { more = omega (arith, h.more, k.more); low = λ l. k.low (h.low l) }

grows_one : (c : ℕ) → c < 9223372036854775808 → Grows c (c + 1)
grows_one c h = record { more = omega arith; low = λ l. omega arith }

-- ---- the open run stored

drop-two : (w : List ℕ) (at p c : ℕ) → at + 2 ≤ length w → drop at (set (set w at p) (suc at) c) ≡ p ∷ c ∷ drop (suc (suc at)) w
drop-two w at p c h =
    let l : length (set (set w at p) (suc at) c) ≡ length w = length-set (set w at p) (suc at) c ∙ length-set w at p in
    let n : length (set w at p) ≡ length w = length-set w at p in
    rw (
      drop-cons (set (set w at p) (suc at) c) at 0 (omega (arith, l)),
      drop-cons (set (set w at p) (suc at) c) (suc at) 0 (omega (arith, l)),
      get_or-set_other (set w at p) (suc at) at c 0 (λ e. omega arith),
      get_or-set_same w at p 0 (omega arith),
      get_or-set_same (set w at p) (suc at) c 0 (omega (arith, n)),
      drop-set-lt (suc (suc at)) (set w at p) (suc at) c (omega arith),
      drop-set-lt (suc (suc at)) w at p (omega arith),
    )

module _ (s : Runs) (w : List ℕ) where
  -- no workspace has the room for as many
  pub store_full : 9223372036854775808 ≤ s.closed → length w < 18446744073709551616 → Stores s w s.closed w
  store_full h l = record { grows = grows_same s.closed; stores = λ len rs z e g. (omega arith, record { long = g.long; words = λ q. absurd (omega (arith, g.long)) }) }

  module _ (few : s.closed < 9223372036854775808) where
    pub store_large : 4294967296 ≤ s.last.size → Stores s w (s.closed + 1) w
    store_large h = record { grows = grows_one s.closed few; stores = λ len rs z e g. absurd (omega arith) }

    pub store_past : length w / 2 ≤ s.closed → Stores s w (s.closed + 1) w
    store_past h = record { grows = grows_one s.closed few; stores = λ len rs z e g. (omega arith, record { long = g.long; words = λ q. absurd (omega (arith, g.long)) }) }

    pub store_here : {code : ℕ} → code ≡ run_code_of (open_run s) → s.closed < length w / 2
        → Stores s w (s.closed + 1) (set (set w (length w - 2 * s.closed - 2) s.last.place) (length w - 2 * s.closed - 2 + 1) code)
    unfolding words_of run_code_of
    store_here {code = code} c h =
        record {
          grows = grows_one s.closed few;
          stores = λ len rs z e g.
              let at : ℕ = length w - 2 * s.closed - 2 in (
                omega arith,
                record {
                  long = length-set (set w at s.last.place) (at + 1) code ∙ length-set w at s.last.place ∙ g.long;
                  words = λ q.
                      let i : len - 2 * length (open_run s ∷ rs) ≡ at = omega (arith, g.long) in
                      let j : suc (suc at) ≡ len - 2 * length rs = omega (arith, g.long) in
                      rw (i, add-one at, drop-two w at s.last.place code (omega arith), j, g.words (omega arith), c);
                },
              );
        }

-- ---- one field more

module _ (s : Runs) (f : Run) (row : ℕ) (w : List ℕ) {j : Bool} (is : j ≡ joins (open_run s) (as_field f)) where
  test-is : {c : Bool} → j ≡ c → joins (open_run s) (as_field f) ≡ c
  test-is e = sym is ∙ e

  module _ (so : j ≡ true) where
    touches : s.last.place + s.last.size ≡ f.place
    touches = (joins-says (open_run s) (as_field f) (test-is so)).touches

    pub longer-from : s.last.place ≤ f.place
    longer-from = omega (arith, touches)

    -- a run that is lengthened counts whole
    whole : s.last.ended ≡ false
    whole = (joins-says (open_run s) (as_field f) (test-is so)).whole_run

    longer : (v : RunList) → open_run s ≡ v.last → field_at s.last.place (f.place - s.last.place + f.size) s.last.ended ≡ joined v.last (as_field f)
    unfolding joined
    longer v h =
        let n : f.place - s.last.place + f.size ≡ s.last.size + f.size = omega (arith, touches) in
        rw (n, whole, ← h)

    pub add_longer : f.place + f.size < 4294967296
        → ListsOne (as_field f) row s w (record { row = row; closed = s.closed; last = record { place = s.last.place; size = f.place - s.last.place + f.size; ended = s.last.ended } }) w
    unfolding add_runs
    add_longer l =
        record {
          grows = grows_same s.closed;
          lists = record {
            row_is = refl;
            holds = λ len v h.
                let e : joins v.last (as_field f) ≡ true = rw (← h.open_is) (test-is so) in
                rw (run-longer v (as_field f) e)
                (record { open_is = longer v h.open_is; low = omega arith; closed_is = h.closed_is; stored = h.stored });
          };
        }

  pub add_new : {w' : List ℕ} {closed : ℕ} → Stores s w closed w' → j ≡ false → f.place + f.size < 4294967296
      → ListsOne (as_field f) row s w (record { row = row; closed = closed; last = f }) w'
  unfolding add_runs
  add_new k not_so l =
      record {
        grows = k.grows;
        lists = record {
          row_is = refl;
          holds = λ len v h.
              let e : joins v.last (as_field f) ≡ false = rw (← h.open_is) (test-is not_so) in
              let d = k.stores len v.before h.low h.closed_is h.stored in
              rw (run-new v (as_field f) e)
              (record { open_is = refl; low = omega arith; closed_is = d.0; stored = rw h.open_is at d.1 });
        };
      }

-- ---- a field within the limit

module _ (n : ℕ) (ended : Bool) (limit at next : ℕ) (s : Runs) (w : List ℕ) where
  pub field_past : limit - at < n → at ≤ limit → ListsField n ended limit at next s w s w
  field_past h g = record { grows = grows_same s.closed; lists = λ l. absurd (omega arith) }

  pub field-listed : (s' : Runs) (w' : List ℕ) → ListsOne (field_at at n ended) next s w s' w' → ListsField n ended limit at next s w s' w'
  field-listed s' w' h = record { grows = h.grows; lists = λ l. h.lists }
