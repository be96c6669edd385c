-- `list_runs`: from an empty run on, the runs of the type that is set out.
use Prim.Native.Nat.{ℕ, ◌-◌, ◌*◌, ◌<◌}
use mathlib.Core.Path.{◌≡◌, refl, ◌∙◌}
use mathlib.Core.Bool.{false}
use mathlib.Core.List.{List, []}
use native.Mathlib.Omega.{arith}
use lib.ListN.{length}
use lib.Seq.{drop-length}
use Rattle.format.specs.Datatype.{Datatype}
use Rattle.format.specs.Image.{fields_of}
use Rattle.format.proofs.Table.{type-found}
use Rattle.format.proofs.Walking.{moved_none}
use Rattle.compare.specs.Agreeing.{Admits}
use Rattle.groups.specs.Duplicates.{fields_given, fields_in_of}
use Rattle.groups.specs.Runs.{RunList, add_runs, no_run, all_runs, runs_of, words_of}
use Rattle.runs.specs.Listing.{most_runs, StoredIn, Held, Stores, ListsAs, ListsAt, RunsListed}
use Rattle.runs.specs.declared.Runs.{Runs}

-- no run but an empty one
abbrev started : Runs
started = record { row = 0; closed = 0; last = record { place = 0; size = 0; ended = false } }

abbrev none : RunList
none = record { last = no_run; before = [] }

held_none : (w : List ℕ) → Held (length w) none started w
unfolding no_run words_of
held_none w =
    let e : length w - 2 * 0 ≡ length w = omega arith in
    record { open_is = refl; low = omega arith; closed_is = refl; stored = record { long = refl; words = λ q. rw e (drop-length w) } }

module _ (table pool : List ℕ) {size : ℕ} (g : Admits table pool size) (w : List ℕ) where
  abbrev t : Datatype
  t = g.type

  fields-is : fields_in_of table pool ≡ fields_of t
  unfolding fields_in_of fields_given
  fields-is = rw g.is

  pub runs_listed : (most : ℕ) (s₁ : Runs) (w₁ : List ℕ) → ListsAt most 32 table pool 0 size 0 started w s₁ w₁ → (r : ℕ) (w₂ : List ℕ) → Stores s₁ w₁ r w₂ → length w₁ ≡ length w → length w₂ ≡ length w₁
      → RunsListed most (runs_of (fields_in_of table pool)) r w w₂
  unfolding ListsAs runs_of all_runs
  runs_listed most s₁ w₁ h r w₂ k l₁ l₂ =
      record {
        low = k.grows.low (h.grows.low (omega arith));
        count = λ z. (all z).0;
        stored = λ z. (all z).1;
        long = l₂ ∙ l₁;
      }
    where
      all : r < most → (r ≡ most_runs (length (runs_of (fields_in_of table pool)))) × StoredIn (length w) (runs_of (fields_in_of table pool)) w₂
      all z =
          let f = type-found table pool t g.is in
          let below : s₁.closed < most = omega (arith, k.grows.more) in
          let i = rw f.is at (h.lists below 0) g.admitted (omega (arith, g.size_is)) in
          let e : Held (length w) (add_runs none (fields_of t)) s₁ w₁ = rw (moved_none (fields_of t)) at (i.holds (length w) none (held_none w)) in
          let d = k.stores (length w) (add_runs none (fields_of t)).before e.low e.closed_is e.stored in
          rw (fields-is, ← e.open_is) d
