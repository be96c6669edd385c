-- The check: from the walk over the outermost type, the limits and the two tests for zeros to the type that the table and pool set out.
use Prim.Native.Nat.{ℕ, ◌-◌, ◌*◌, ◌<◌, ◌≤◌}
use mathlib.Core.Path.{◌≡◌, refl, sym, ap, ◌∙◌}
use mathlib.Core.Bool.{Bool, true, false, not, cond}
use mathlib.Core.List.{List, ◌++◌}
use native.Mathlib.Omega.{arith}
use lib.ListN.{length, get_or, take, drop, length-append}
use Rattle.std.specs.Prelude.{Option, Some, None}
use Rattle.std.specs.Bool.{then_some}
use borrow.Author.Tests.{le-leb, lt-leb, not-true, not-false}
use Rattle.refusal.specs.declared.Refusal.TheVariants.{BadTable}
use Rattle.format.specs.Bytes.{all_zero}
use Rattle.format.specs.Datatype.{Datatype, pool_bytes}
use Rattle.format.specs.Outcome.{gives, refuses}
use Rattle.format.specs.Table.{rows, Found, found, bad, type_at, whole_type, type_of}
use Rattle.format.proofs.Rows.{length-rows}
use Rattle.format.proofs.TableSound.{Sure, holds, TypeStands, type_at_sound}
use Rattle.format.proofs.Bytes.{all-bytes}
use Rattle.format.proofs.Lists.{part-all}
use Rattle.table.specs.Survey.{survey_of, ends_at, Sets, Checks}
use Rattle.table.specs.declared.Survey.{Survey}
use Rattle.table.proofs.Surveys.{Told, told, untold}

picks_second : {A : Type 0} (b : Bool) (x y : A) → b ≡ false → cond b x y ≡ y
picks_second b x y e = rw e

picks_first : {A : Type 0} (b : Bool) (x y : A) → b ≡ true → cond b x y ≡ x
picks_first b x y e = rw e

sure_found : {A : Type 0} {Q : A → ℕ → ℕ → Type 0} {a : A} {r p : ℕ} → Sure Q (found a r p) → Q a r p
sure_found (holds s) = s

module _ (table pool : List ℕ) where
  -- what stands in a table at its start lies in it, whatever levels it has
  pub stands_at : (k : ℕ) (t : Datatype) (r p : ℕ) → ((i : ℕ) → get_or pool i 0 < 256) → type_at k table pool 0 0 ≡ found t r p → TypeStands table pool k 0 0 t r p
  stands_at k t r p b e = sure_found (rw e at (type_at_sound table pool (all-bytes pool b) k 0 0))

  pub stands-fits : (k : ℕ) (t : Datatype) (r p : ℕ) → ((i : ℕ) → get_or pool i 0 < 256) → type_at k table pool 0 0 ≡ found t r p → (r * 16 ≤ length table) × (p ≤ length pool)
  stands-fits k t r p small e =
      let s = stands_at k t r p small e in
      let w : table ≡ rows 0 t ++ drop (r * 16) table = s.words in
      let b : pool ≡ pool_bytes t ++ drop p pool = s.bytes in (
        omega (arith, s.row-behind, length-rows t 0, ap length w, length-append (rows 0 t) (drop (r * 16) table)),
        omega (arith, s.place-behind, ap length b, length-append (pool_bytes t) (drop p pool)),
      )

  pub survey_fits : (k : ℕ) {y : Option Survey} {s : Survey} → y ≡ survey_of (type_at k table pool 0 0) → y ≡ Some s → ((i : ℕ) → get_or pool i 0 < 256) → (s.row * 16 ≤ length table) × (s.place ≤ length pool)
  unfolding Told
  survey_fits k {s = s} q e small = go (type_at k table pool 0 0) (told (type_at k table pool 0 0) s q e) refl
    where
      go : (x : Found Datatype) → Told x s → type_at k table pool 0 0 ≡ x → (s.row * 16 ≤ length table) × (s.place ≤ length pool)
      go (found t r p) h j =
          let fr : s.row ≡ r = ap (λ (v : Survey). v.row) h.is in
          let fp : s.place ≡ p = ap (λ (v : Survey). v.place) h.is in
          rw (fr, fp) (stands-fits k t r p small j)
      go bad h j = absurd h

  -- ---- the limits and the zeros behind a type

  module _ (r p : ℕ) where
    pub ends-rows : 4096 < r → false ≡ ends_at table pool r p
    unfolding ends_at
    ends-rows h = rw (lt-leb r 4096 h)

    pub ends-place : r ≤ 4096 → 65536 < p → false ≡ ends_at table pool r p
    unfolding ends_at
    ends-place h g = rw (le-leb r 4096 h, lt-leb p 65536 g)

    module _ (h : r ≤ 4096) (g : p ≤ 65536) {u : Bool} (w : u ≡ all_zero (take (length table - r * 16) (drop (r * 16) table))) where
      words : all_zero (drop (r * 16) table) ≡ u
      words = sym (w ∙ ap all_zero (part-all table (r * 16)))

      pub ends_words : not u ≡ true → false ≡ ends_at table pool r p
      unfolding ends_at
      ends_words f = rw (le-leb r 4096 h, le-leb p 65536 g, words, not-true u f)

      pub ends-bytes : not u ≡ false → {v : Bool} → v ≡ all_zero (take (length pool - p) (drop p pool)) → v ≡ ends_at table pool r p
      unfolding ends_at
      ends-bytes f {v = v} b =
          let bytes : all_zero (drop p pool) ≡ v = sym (b ∙ ap all_zero (part-all pool p)) in
          rw (le-leb r 4096 h, le-leb p 65536 g, words, not-false u f, bytes)

  -- a type that stands at the start is the one that is set out exactly if it ends there
  module _ (t : Datatype) (r p : ℕ) (s : type_at 32 table pool 0 0 ≡ found t r p) where
    pub whole-given : ends_at table pool r p ≡ true → type_of table pool ≡ gives t
    unfolding type_of whole_type ends_at
    whole-given e = ap (whole_type table pool) s ∙ picks_first _ _ _ e

    pub whole-refused : ends_at table pool r p ≡ false → type_of table pool ≡ refuses BadTable
    unfolding type_of whole_type ends_at
    whole-refused e = ap (whole_type table pool) s ∙ picks_second _ _ _ e

  pub none-refused : type_at 32 table pool 0 0 ≡ bad → type_of table pool ≡ refuses BadTable
  unfolding type_of whole_type
  none-refused e = rw e

  -- ---- the check

  refused : type_of table pool ≡ refuses BadTable → Checks table pool None
  refused h = record { good = λ s g. cc; bad-table = λ g. h }

  module _ {y : Option Survey} (q : y ≡ survey_of (type_at 32 table pool 0 0)) where
    pub check_none : {z : Option Survey} → y ≡ None → z ≡ None → Checks table pool z
    check_none e g = rw g (refused (none-refused (untold _ q e)))

    module _ (s : Survey) (e : y ≡ Some s) where
      -- the type that the walk found
      record Standing : Type 0 where
        pub type : Datatype
        pub stands : type_at 32 table pool 0 0 ≡ found type s.row s.place
        pub says : survey_of (found type s.row s.place) ≡ Some s

      standing : Standing
      unfolding Told survey_of
      standing = go (type_at 32 table pool 0 0) (told (type_at 32 table pool 0 0) s q e) refl
        where
          go : (x : Found Datatype) → Told x s → type_at 32 table pool 0 0 ≡ x → Standing
          go (found t r p) k j =
              let fr : s.row ≡ r = ap (λ (v : Survey). v.row) k.is in
              let fp : s.place ≡ p = ap (λ (v : Survey). v.place) k.is in
              record { type = t; stands = rw (fr, fp) j; says = rw k.is }
          go bad k j = absurd k

      pub check_ends : {u : Bool} {z : Option Survey} → u ≡ ends_at table pool s.row s.place → z ≡ then_some u s → Checks table pool z
      check_ends {u = u} w g = rw g (go u w)
        where
          go : (u : Bool) → u ≡ ends_at table pool s.row s.place → Checks table pool (then_some u s)
          go true w =
              let x : Sets table pool s = record { type = standing.type; is = whole-given standing.type s.row s.place standing.stands (sym w); stands = standing.stands; says = standing.says } in
              record { good = λ s' d. let a : s ≡ s' = cc in rw (← a) x; bad-table = λ d. cc }
          go false w = refused (whole-refused standing.type s.row s.place standing.stands (sym w))
