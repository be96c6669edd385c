-- A table and pool set out at most one type, and `type_of` gives that type.
use Prim.Native.Nat.{ℕ, ◌+◌, ◌-◌, ◌*◌, ◌≤◌}
use mathlib.Core.Path.{◌≡◌, refl, ap}
use mathlib.Core.Bool.{Bool, true, false, cond, ◌&&◌}
use mathlib.Core.List.{List, ◌++◌}
use native.Mathlib.Omega.{arith}
use lib.ListN.{length, drop, length-append}
use lib.Dec.{leb}
use borrow.Author.Tests.{leb-true, le-leb}
use Rattle.refusal.specs.declared.Refusal.{Refusal}
use Rattle.refusal.specs.declared.Refusal.TheVariants.{BadTable}
use Rattle.format.specs.Bytes.{AllBytes, zeros, padded, all_zero}
use Rattle.format.specs.Datatype.{Datatype, row_count, pool_bytes}
use Rattle.format.specs.Outcome.{Outcome, gives, refuses}
use Rattle.format.specs.Table.{rows, known, max_levels, max_rows, max_pool, WithinLimits, SetsOut, Found, found, bad, type_at, whole_type, type_of, table_of, pool_of}
use Rattle.format.proofs.Booleans.{and_both}
use Rattle.format.proofs.Bytes.{length-padded}
use Rattle.format.proofs.Zeros.{all_zero-zeros, padded-of}
use Rattle.format.proofs.Rows.{length-rows}
use Rattle.format.proofs.TableSound.{Sure, holds, fails, TypeStands, type_at_sound}
use Rattle.format.proofs.TableComplete.{From, from-words, from_bytes, type_at_complete}

given : {A : Type 0} (c : Bool) (a b : A) (e : Refusal) → cond c (gives a) (refuses e) ≡ gives b → (c ≡ true) × (a ≡ b)
given true a b e h = (refl, cc)
given false a b e h = let z : ◌≡◌ {A = ℕ} 0 1 = cc in absurd (omega arith)

refused : {A : Type 0} (c : Bool) (a : A) (d e : Refusal) → cond c (gives a) (refuses d) ≡ refuses e → e ≡ d
refused true a d e h = let z : ◌≡◌ {A = ℕ} 0 1 = cc in absurd (omega arith)
refused false a d e h = cc

-- what the walk over a table found
pub record FoundAs (y : Found Datatype) (t : Datatype) : Type 0 where
  pub row : ℕ
  pub place : ℕ
  pub is : y ≡ found t row place

module _ (table pool : List ℕ) where
  whole-found : (t : Datatype) (y : Found Datatype) → whole_type table pool y ≡ gives t → FoundAs y t
  unfolding whole_type
  whole-found t (found u r p) h = record { row = r; place = p; is = ap (λ (v : Datatype). found v r p) (given (leb r max_rows && (leb p max_pool && (all_zero (drop (r * 16) table) && all_zero (drop p pool)))) u t BadTable h).1 }
  whole-found t bad h = let z : ◌≡◌ {A = ℕ} 0 1 = cc in absurd (omega arith)

  -- the type that a table and pool set out is found by the walk
  pub type-found : (t : Datatype) → type_of table pool ≡ gives t → FoundAs (type_at max_levels table pool 0 0) t
  unfolding type_of
  type-found t h = whole-found t (type_at max_levels table pool 0 0) h

  whole-sound : (t : Datatype) {x : Found Datatype} → Sure (TypeStands table pool max_levels 0 0) x → whole_type table pool x ≡ gives t → SetsOut t table pool
  unfolding whole_type
  whole-sound t fails h = let z : ◌≡◌ {A = ℕ} 0 1 = cc in absurd (omega arith)
  whole-sound t (holds {a = u} {r = r} {p = p} s) h =
      let g = given (leb r max_rows && (leb p max_pool && (all_zero (drop (r * 16) table) && all_zero (drop p pool)))) u t BadTable h in
      let c1 = and_both (leb r max_rows) _ g.0 in
      let c2 = and_both (leb p max_pool) _ c1.1 in
      let c3 = and_both (all_zero (drop (r * 16) table)) (all_zero (drop p pool)) c2.1 in
      let w : table ≡ rows 0 u ++ drop (r * 16) table = s.words in
      let b : pool ≡ pool_bytes u ++ drop p pool = s.bytes in
      rw (← g.1) (
      record {
        within =
            record {
              levels = s.deep;
              rows_fit = omega (arith, s.row-behind, leb-true r max_rows c1.0);
              pool-fits = omega (arith, s.place-behind, leb-true p max_pool c2.0);
            };
        codes = s.codes;
        holds_rows = omega (arith, ap length w, length-append (rows 0 u) (drop (r * 16) table));
        holds-pool = omega (arith, ap length b, length-append (pool_bytes u) (drop p pool));
        table_is = padded-of table (rows 0 u) (drop (r * 16) table) w c3.0;
        pool-is = padded-of pool (pool_bytes u) (drop p pool) b c3.1;
      }
      )

  -- a type that is given is the one that the table and pool set out
  pub type_of_sound : (t : Datatype) → AllBytes pool → type_of table pool ≡ gives t → SetsOut t table pool
  unfolding type_of
  type_of_sound t b h = whole-sound t (type_at_sound table pool b max_levels 0 0) h

  -- and one that they set out is given
  pub type_of_complete : (t : Datatype) → SetsOut t table pool → type_of table pool ≡ gives t
  unfolding type_of whole_type padded
  type_of_complete t s =
      let x = zeros (length table - length (rows 0 t)) in
      let y = zeros (length pool - length (pool_bytes t)) in
      let f : From table pool 0 0 (rows 0 t ++ x) (pool_bytes t ++ y) = record { words = s.table_is; bytes = s.pool-is; inside = omega arith } in
      let b = from_bytes table pool _ 0 (pool_bytes t) (from-words table pool 0 0 (rows 0 t) (row_count t) f (length-rows t 0)) in
      rw (
        type_at_complete table pool max_levels t s.within.levels s.codes 0 0 x y f,
        le-leb (0 + row_count t) max_rows (omega (arith, s.within.rows_fit)),
        le-leb (0 + length (pool_bytes t)) max_pool (omega (arith, s.within.pool-fits)),
        b.words,
        b.bytes,
        all_zero-zeros (length table - length (rows 0 t)),
        all_zero-zeros (length pool - length (pool_bytes t)),
      )

  pub sets_out_unique : (t u : Datatype) → SetsOut t table pool → SetsOut u table pool → t ≡ u
  sets_out_unique t u s v =
      let e = type_of_complete t s in
      let f = type_of_complete u v in
      cc

  whole-refuses : (x : Found Datatype) (e : Refusal) → whole_type table pool x ≡ refuses e → e ≡ BadTable
  unfolding whole_type
  whole-refuses (found t r p) e h = refused (leb r max_rows && (leb p max_pool && (all_zero (drop (r * 16) table) && all_zero (drop p pool)))) t BadTable e h
  whole-refuses bad e h = cc

  -- no other refusal than BadTable
  pub type_of_refuses : (e : Refusal) → type_of table pool ≡ refuses e → e ≡ BadTable
  unfolding type_of
  type_of_refuses e h = whole-refuses (type_at max_levels table pool 0 0) e h

  -- where there is no type in the table, it is refused
  pub type_of_none : AllBytes pool → ((t : Datatype) → SetsOut t table pool → ⊥) → type_of table pool ≡ refuses BadTable
  type_of_none b n = go (type_of table pool) refl
    where
      go : (x : Outcome Datatype) → type_of table pool ≡ x → type_of table pool ≡ refuses BadTable
      go (gives t) e = absurd (n t (type_of_sound t b e))
      go (refuses e) h = rw (← type_of_refuses e h) h

-- a table and pool that are long enough set a type out
pub sets_out_of : (t : Datatype) (n m : ℕ) → WithinLimits t → known t ≡ true → length (rows 0 t) ≤ n → length (pool_bytes t) ≤ m → SetsOut t (table_of n t) (pool_of m t)
unfolding table_of pool_of
sets_out_of t n m w c h k =
    let l = length-padded n (rows 0 t) h in
    let g = length-padded m (pool_bytes t) k in
    record { within = w; codes = c; holds_rows = omega arith; holds-pool = omega arith; table_is = rw l; pool-is = rw g }

pub type_of_of : (t : Datatype) (n m : ℕ) → WithinLimits t → known t ≡ true → length (rows 0 t) ≤ n → length (pool_bytes t) ≤ m → type_of (table_of n t) (pool_of m t) ≡ gives t
type_of_of t n m w c h k = type_of_complete (table_of n t) (pool_of m t) t (sets_out_of t n m w c h k)
