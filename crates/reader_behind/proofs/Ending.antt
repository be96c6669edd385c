-- The ways out of the functions that end a type over a base.
use Rattle.std.specs.Prelude.{Err, Ok, Result}
use mathlib.Core.Path.{◌≡◌, refl, sym, ap, ◌∙◌}
use mathlib.Core.Bool.{true, false}
use mathlib.Core.List.{List, [], ◌∷◌, ◌++◌, append-nil}
use Prim.Native.Nat.{ℕ, suc, ◌+◌, ◌-◌, ◌*◌, ◌<◌, ◌≤◌, min}
use native.Mathlib.Nat.{add-zero}
use native.Mathlib.Omega.{arith}
use borrow.Author.Tests.{eq-eqb, ne_eqb}
use lib.Dec.{eqb}
use lib.ListN.{length, get_or, take, drop, length-append, length-drop}
use lib.Seq.{sets, length-take-le}
use Rattle.refusal.specs.declared.Refusal.{Refusal}
use Rattle.refusal.specs.declared.Refusal.TheVariants.{ZeroSize}
use Rattle.format.specs.declared.Header.{Header}
use Rattle.format.specs.Bits.{low_bits, high_bits}
use Rattle.format.specs.Bytes.{dimension_bytes, dimensions_from}
use Rattle.format.specs.Datatype.{enum_names, enum_values, Datatype, variable_length, array, enumeration, type_size_of, row_count, pool_bytes, product}
use Rattle.format.specs.Reading.{got, refused, then, count_of, class_kind, sized}
use Rattle.format.specs.Table.{row, enumeration_row, variable_length_row, array_row, rows, enum_rows, isEnumeration, isVariableLength, isArray}
use Rattle.format.proofs.Bytes.{length_dimensions, length-dimensions_from, dimension_bytes-back, all-bytes, bytes_take, bytes_drop}
use Rattle.format.proofs.Scaling.{cap_again}
use Rattle.reading.specs.declared.Limits.{Limits}
use Rattle.reading.specs.declared.State.{State}
use Rattle.reading.specs.declared.Cursor.{Cursor}
use Rattle.reading.specs.declared.Around.{Around}
use Rattle.reading.specs.declared.Around.TheVariants.{VariableLength}
use Rattle.reading.specs.Contract.{run, here, AfterEnum, read_enum_members_of, behind, variable_of, dimensions_of_lem, Surrounds, BaseRead, Ended, Ends, EndsRow}
use Rattle.reader_behind.specs.Ending.{StoresVariable}
use Rattle.reading.proofs.Steps.{sized_no, sized-go, sized-zero}
use Rattle.reading.proofs.Contracts.{by_done, not_done, by_refused, not-refused, by_row}

-- ---- by what is returned

module _ {d : List ℕ} {lim : Limits} {used pooled : ℕ} {h : Header} {ds : List ℕ} {inner : State} {t t' p p' : List ℕ} where
  ends : {s : State}
      → ((base : Datatype) → type_size_of base ≡ inner.size → inner.end.rows ≡ used + 1 + row_count base → inner.end.pooled ≡ pooled + 4 * length ds + length (pool_bytes base)
      → Ended d lim used pooled h ds base inner.end s t t' p p')
      → Ends d lim used pooled h ds inner (Ok s) t t' p p'
  ends w =
      record {
        done = by_done
            (λ s. (base : Datatype) → type_size_of base ≡ inner.size → inner.end.rows ≡ used + 1 + row_count base → inner.end.pooled ≡ pooled + 4 * length ds + length (pool_bytes base)
            → Ended d lim used pooled h ds base inner.end s t t' p p')
            w;
        denied = not-refused
            (λ e. (base : Datatype) → type_size_of base ≡ inner.size → run (sized h (behind h ds (class_kind h.class) base)) d lim inner.end.at inner.end.rows inner.end.pooled ≡ refused e);
      }

  stops : {e : Refusal} → ((base : Datatype) → type_size_of base ≡ inner.size → run (sized h (behind h ds (class_kind h.class) base)) d lim inner.end.at inner.end.rows inner.end.pooled ≡ refused e)
      → Ends d lim used pooled h ds inner (Err e) t t' p p'
  stops w =
      record {
        done = not_done
            (λ s. (base : Datatype) → type_size_of base ≡ inner.size → inner.end.rows ≡ used + 1 + row_count base → inner.end.pooled ≡ pooled + 4 * length ds + length (pool_bytes base)
            → Ended d lim used pooled h ds base inner.end s t t' p p');
        denied = by_refused
            (λ e. (base : Datatype) → type_size_of base ≡ inner.size → run (sized h (behind h ds (class_kind h.class) base)) d lim inner.end.at inner.end.rows inner.end.pooled ≡ refused e)
            w;
      }

-- the dimensions' bytes are those of the message
copied : (d : List ℕ) (start rank : ℕ) → start + 4 * rank ≤ length d → ((i : ℕ) → get_or d i 0 < 256) → dimension_bytes (dimensions_from rank (take (4 * rank) (drop start d))) ≡ take (4 * rank) (drop start d)
copied d start rank long small =
    let n : 4 * rank ≤ length (drop start d) = omega (arith, length-drop start d) in
    dimension_bytes-back rank (take (4 * rank) (drop start d)) (length-take-le (4 * rank) (drop start d) n)
    (bytes_take (4 * rank) (drop start d) (bytes_drop start d (all-bytes d small)))

-- ---- class 9

module _ {h : Header} {used : ℕ} {t t' : List ℕ} where
  -- f0's low four bits are 1: a string
  pub string_stored : {k x y u v : ℕ} {w : ℕ × ℕ × ℕ} → k ≡ low_bits 4 h.f0 → k ≡ 1 → x ≡ high_bits 4 h.f0 → u ≡ x → y ≡ low_bits 4 h.f1 → v ≡ y → w ≡ (1, u + 1, v + 1)
      → t' ≡ sets t (used * 16) (10 ∷ 0 ∷ 0 ∷ 0 ∷ 0 ∷ w.0 ∷ w.1 ∷ w.2 ∷ 0 ∷ 0 ∷ 0 ∷ 0 ∷ 0 ∷ 0 ∷ 0 ∷ 0 ∷ []) → StoresVariable h used t t'
  unfolding variable_of variable_length_row row
  string_stored {k} {x} {y} {u} {v} ek e1 ex eu ey ev ew et =
      let one : eqb (low_bits 4 h.f0) 1 ≡ true = eq-eqb (low_bits 4 h.f0) 1 (omega arith) in
      let a : suc (high_bits 4 h.f0) ≡ u + 1 = omega arith in
      let c : suc (low_bits 4 h.f1) ≡ v + 1 = omega arith in
      record { string = 1; padding = u + 1; charset = v + 1; is = λ base. rw (one, a, c); table = rw ew at et }

  -- all else is a sequence
  pub sequence_stored : {k : ℕ} {w : ℕ × ℕ × ℕ} → k ≡ low_bits 4 h.f0 → (k ≡ 1 → ⊥) → w ≡ (0, 0, 0)
      → t' ≡ sets t (used * 16) (10 ∷ 0 ∷ 0 ∷ 0 ∷ 0 ∷ w.0 ∷ w.1 ∷ w.2 ∷ 0 ∷ 0 ∷ 0 ∷ 0 ∷ 0 ∷ 0 ∷ 0 ∷ 0 ∷ []) → StoresVariable h used t t'
  unfolding variable_of variable_length_row row
  sequence_stored {k} ek e1 ew et =
      let no : eqb (low_bits 4 h.f0) 1 ≡ false = ne_eqb (low_bits 4 h.f0) 1 (λ e. e1 (ek ∙ e)) in
      record { string = 0; padding = 0; charset = 0; is = λ base. rw no; table = rw ew at et }

variable_ends : (d : List ℕ) (lim : Limits) (used pooled : ℕ) (h : Header) (inner : State) (t t' p : List ℕ) → BaseRead d lim used pooled [] inner t p → class_kind h.class ≡ isVariableLength
    → StoresVariable h used t t' → Ends d lim used pooled h [] inner (Ok (record { end = inner.end; size = 16 })) t t' p p
unfolding behind type_size_of row_count pool_bytes rows row enumeration_row variable_length_row array_row
variable_ends d lim used pooled h inner t t' p b kind x =
    let f = b.ready.filled in
    let m = b.ready.room in
    let c = inner.end in
    ends
    λ base en er ep.
    record {
      tree = variable_length x.string x.padding x.charset base;
      is = sized-go h (behind h [] (class_kind h.class) base) (length d) c.at (drop c.at d) (lim.rows - c.rows) (lim.pool - c.pooled)
          (variable_length x.string x.padding x.charset base) c.at (drop c.at d) (lim.rows - c.rows) (lim.pool - c.pooled) (rw (kind, x.is base)) (omega arith);
      size_is = refl;
      some_size = omega arith;
      head = variable_length_row x.string x.padding x.charset;
      more = [];
      before = [];
      after = [];
      head-long = refl;
      before-long = refl;
      words_are = rw (append-nil, add-zero);
      bytes-are = sym (append-nil (pool_bytes base));
      table = x.table;
      pool = refl;
      rows_are = omega arith;
      pooled_are = omega arith;
      filled = f;
      room = m;
      near = b.near;
    }

-- ---- class 10

module _ (d : List ℕ) (lim : Limits) (used pooled : ℕ) (h : Header) (start rank : ℕ) (inner : State) (z : ℕ) (t p : List ℕ)
    (kind : class_kind h.class ≡ isArray) (size : z ≡ min (inner.size * product (dimensions_from rank (take (4 * rank) (drop start d)))) 4294967295) where
  array_size : (base : Datatype) → type_size_of base ≡ inner.size → z ≡ type_size_of (array (dimensions_from rank (take (4 * rank) (drop start d))) base)
  unfolding type_size_of
  array_size base e = size ∙ ap (λ (n : ℕ). min (n * product (dimensions_from rank (take (4 * rank) (drop start d)))) 4294967295) (sym e)

  array-given : (base : Datatype) → run (behind h (dimensions_from rank (take (4 * rank) (drop start d))) (class_kind h.class) base) d lim inner.end.at inner.end.rows inner.end.pooled
      ≡ here (array (dimensions_from rank (take (4 * rank) (drop start d))) base) d lim inner.end
  unfolding behind
  array-given base = rw kind

  array_empty : {t' p' : List ℕ} → z ≡ 0
      → Ends d lim used pooled h (dimensions_from rank (take (4 * rank) (drop start d))) inner (Err (ZeroSize h.class)) t t' p p'
  array_empty e =
      stops
      λ base en.
      sized-zero h (behind h (dimensions_from rank (take (4 * rank) (drop start d))) (class_kind h.class) base) (length d) inner.end.at (drop inner.end.at d) (lim.rows - inner.end.rows) (lim.pool - inner.end.pooled)
      (array (dimensions_from rank (take (4 * rank) (drop start d))) base) inner.end.at (drop inner.end.at d) (lim.rows - inner.end.rows) (lim.pool - inner.end.pooled) (array-given base) (sym (array_size base en) ∙ e)

  array-stored : {t' p' : List ℕ} → BaseRead d lim used pooled (dimensions_from rank (take (4 * rank) (drop start d))) inner t p → start + 4 * rank ≤ length d → ((i : ℕ) → get_or d i 0 < 256) → 0 < z
      → t' ≡ sets t (used * 16) (11 ∷ 0 ∷ pooled ∷ rank ∷ 0 ∷ 0 ∷ 0 ∷ 0 ∷ 0 ∷ 0 ∷ 0 ∷ 0 ∷ 0 ∷ 0 ∷ 0 ∷ 0 ∷ [])
      → p' ≡ sets p pooled (take (4 * rank) (drop start d))
      → Ends d lim used pooled h (dimensions_from rank (take (4 * rank) (drop start d))) inner
      (Ok (record { end = inner.end; size = z })) t t' p p'
  unfolding row_count pool_bytes rows row enumeration_row variable_length_row array_row
  array-stored w long small some et ep =
      let ds = dimensions_from rank (take (4 * rank) (drop start d)) in
      let k = length-dimensions_from rank (take (4 * rank) (drop start d)) in
      let l = length_dimensions ds in
      ends
      λ base en er eq.
      let v = array_size base en in
      let n : 0 < type_size_of (array ds base) = omega (arith, some) in
      record {
        tree = array ds base;
        is = sized-go h (behind h ds (class_kind h.class) base) (length d) inner.end.at (drop inner.end.at d) (lim.rows - inner.end.rows) (lim.pool - inner.end.pooled)
            (array ds base) inner.end.at (drop inner.end.at d) (lim.rows - inner.end.rows) (lim.pool - inner.end.pooled) (array-given base) n;
        size_is = v;
        some_size = n;
        head = 11 ∷ 0 ∷ pooled ∷ length ds ∷ 0 ∷ 0 ∷ 0 ∷ 0 ∷ 0 ∷ 0 ∷ 0 ∷ 0 ∷ 0 ∷ 0 ∷ 0 ∷ 0 ∷ [];
        more = [];
        before = dimension_bytes ds;
        after = [];
        head-long = refl;
        before-long = l;
        words_are = rw append-nil;
        bytes-are = rw append-nil;
        table = et ∙ rw k;
        pool = ep ∙ ap (sets p pooled) (sym (copied d start rank long small));
        rows_are = omega arith;
        pooled_are = omega (arith, length-append (dimension_bytes ds) (pool_bytes base));
        filled = w.ready.filled;
        room = w.ready.room;
        near = w.near;
      }

  pub array-ends : {t' p' : List ℕ} (r : Result State Refusal) → BaseRead d lim used pooled (dimensions_from rank (take (4 * rank) (drop start d))) inner t p → start + 4 * rank ≤ length d → ((i : ℕ) → get_or d i 0 < 256)
      → p' ≡ sets p pooled (take (4 * rank) (drop start d))
      → EndsRow used h.class (11 ∷ 0 ∷ pooled ∷ rank ∷ 0 ∷ 0 ∷ 0 ∷ 0 ∷ 0 ∷ 0 ∷ 0 ∷ 0 ∷ 0 ∷ 0 ∷ 0 ∷ 0 ∷ []) inner.end z r t t'
      → Ends d lim used pooled h (dimensions_from rank (take (4 * rank) (drop start d))) inner r t t' p p'
  array-ends {t'} {p'} r w long small ep x =
      by_row (λ y. Ends d lim used pooled h (dimensions_from rank (take (4 * rank) (drop start d))) inner y t t' p p') r x
      (λ some et. array-stored w long small some et ep) array_empty

-- ---- class 8

module _ (d : List ℕ) (lim : Limits) (used pooled : ℕ) (h : Header) (inner : State) (count : ℕ) (r : Result Cursor Refusal) (t t₁ p p₁ : List ℕ)
    (kind : class_kind h.class ≡ isEnumeration) (counted : count ≡ count_of h)
    (members : AfterEnum count (run (read_enum_members_of h.version count inner.size) d lim inner.end.at inner.end.rows inner.end.pooled) d lim inner.end.rows inner.end.pooled r t t₁ p p₁) where
  members-are : (base : Datatype) → type_size_of base ≡ inner.size → run (behind h [] (class_kind h.class) base) d lim inner.end.at inner.end.rows inner.end.pooled
      ≡ then (run (read_enum_members_of h.version count inner.size) d lim inner.end.at inner.end.rows inner.end.pooled) (λ ms at s r p. got (enumeration h.size base ms) at s r p)
  unfolding behind
  members-are base e = rw (kind, e, ← counted)

  pub enum_stops : {e : Refusal} → r ≡ Err e
      → Ends d lim used pooled h [] inner (Err e) t t₁ p p₁
  unfolding then
  enum_stops {e} er =
      stops
      λ base en.
      sized_no h (behind h [] (class_kind h.class) base) (length d) inner.end.at (drop inner.end.at d) (lim.rows - inner.end.rows) (lim.pool - inner.end.pooled) e
      (members-are base en ∙ rw (members.denied e er))

  module _ (s : Cursor) (done : r ≡ Ok s) where
    enum_given : (base : Datatype) → type_size_of base ≡ inner.size → run (behind h [] (class_kind h.class) base) d lim inner.end.at inner.end.rows inner.end.pooled
        ≡ here (enumeration h.size base (members.done s done).tree) d lim s
    unfolding then
    enum_given base en = members-are base en ∙ rw (members.done s done).is

    enum_empty : {t' : List ℕ} → h.size ≡ 0
        → Ends d lim used pooled h [] inner (Err (ZeroSize h.class)) t t' p p₁
    unfolding type_size_of
    enum_empty z =
        stops
        λ base en.
        sized-zero h (behind h [] (class_kind h.class) base) (length d) inner.end.at (drop inner.end.at d) (lim.rows - inner.end.rows) (lim.pool - inner.end.pooled)
        (enumeration h.size base (members.done s done).tree) s.at (drop s.at d) (lim.rows - s.rows) (lim.pool - s.pooled) (enum_given base en) z

    enum_stored : {t' : List ℕ} → 0 < h.size
        → t' ≡ sets t₁ (used * 16) (9 ∷ h.size ∷ 0 ∷ 0 ∷ count ∷ 0 ∷ 0 ∷ 0 ∷ 0 ∷ 0 ∷ 0 ∷ 0 ∷ 0 ∷ 0 ∷ 0 ∷ 0 ∷ [])
        → Ends d lim used pooled h [] inner
        (Ok (record { end = s; size = h.size })) t t' p p₁
    unfolding type_size_of row_count pool_bytes rows row enumeration_row variable_length_row array_row
    enum_stored some et =
        let l = members.done s done in
        let ms = l.tree in
        ends
        λ base en er ep.
        let q : inner.end.pooled ≡ pooled + length (pool_bytes base) = omega arith in
        record {
          tree = enumeration h.size base ms;
          is = sized-go h (behind h [] (class_kind h.class) base) (length d) inner.end.at (drop inner.end.at d) (lim.rows - inner.end.rows) (lim.pool - inner.end.pooled)
              (enumeration h.size base ms) s.at (drop s.at d) (lim.rows - s.rows) (lim.pool - s.pooled) (enum_given base en) some;
          size_is = refl;
          some_size = some;
          head = 9 ∷ h.size ∷ 0 ∷ 0 ∷ length ms ∷ 0 ∷ 0 ∷ 0 ∷ 0 ∷ 0 ∷ 0 ∷ 0 ∷ 0 ∷ 0 ∷ 0 ∷ 0 ∷ [];
          more = enum_rows (pooled + length (pool_bytes base)) ms;
          before = [];
          after = enum_names ms ++ enum_values ms;
          head-long = refl;
          before-long = refl;
          words_are = rw add-zero;
          bytes-are = refl;
          table = et ∙ rw (l.such, l.table, q);
          pool = l.pool;
          rows_are = omega arith;
          pooled_are = omega (arith, length-append (pool_bytes base) (enum_names ms ++ enum_values ms));
          filled = l.ready.filled;
          room = l.ready.room;
          near = l.near;
        }

    pub enum_ends : {t' : List ℕ} (q : Result State Refusal)
        → EndsRow used h.class (9 ∷ h.size ∷ 0 ∷ 0 ∷ count ∷ 0 ∷ 0 ∷ 0 ∷ 0 ∷ 0 ∷ 0 ∷ 0 ∷ 0 ∷ 0 ∷ 0 ∷ 0 ∷ []) s h.size q t₁ t'
        → Ends d lim used pooled h [] inner q t t' p p₁
    enum_ends {t'} q x =
        by_row (λ y. Ends d lim used pooled h [] inner y t t' p p₁) q x
        enum_stored enum_empty

-- ---- by class

-- the dimensions are those of the arm that was taken
module _ {d : List ℕ} {lim : Limits} {used pooled : ℕ} {inner : State} {a b : Around} (e : a ≡ b) where
  pub base_at : {t p : List ℕ} → BaseRead d lim used pooled (dimensions_of_lem d a) inner t p → BaseRead d lim used pooled (dimensions_of_lem d b) inner t p
  base_at w = rw e at w

  pub ends_at : {h : Header} {r : Result State Refusal} {t t' p p' : List ℕ} → Ends d lim used pooled h (dimensions_of_lem d b) inner r t t' p p' → Ends d lim used pooled h (dimensions_of_lem d a) inner r t t' p p'
  ends_at w = rw e w

pub variable_at : {d : List ℕ} {lim : Limits} {used pooled : ℕ} {h : Header} {inner : State} {t t' p : List ℕ} {a : Around} → a ≡ VariableLength → Surrounds d (class_kind h.class) a
    → BaseRead d lim used pooled (dimensions_of_lem d a) inner t p → StoresVariable h used t t' → Ends d lim used pooled h (dimensions_of_lem d a) inner (Ok (record { end = inner.end; size = 16 })) t t' p p
unfolding dimensions_of_lem
variable_at {d} {lim} {used} {pooled} {h} {inner} {t} {t'} {p} e s w x =
    rw e (variable_ends d lim used pooled h inner t t' p (base_at e w) (s.variable e) x)

-- a product capped at 4,294,967,296, and then at 4,294,967,295
pub capped_twice : (n rank start : ℕ) (d : List ℕ) {total z : ℕ} → total ≡ min (n * product (dimensions_from rank (take (rank * 4) (drop start d)))) 4294967296 → z ≡ min total 4294967295
    → z ≡ min (n * product (dimensions_from rank (take (4 * rank) (drop start d)))) 4294967295
capped_twice n rank start d et ez =
    let m : rank * 4 ≡ 4 * rank = omega arith in
    ez ∙ rw (et, m) (cap_again _)

-- the dimensions lie in front of what is used of the pool
pub array_held : (rank : ℕ) (x : List ℕ) {d : List ℕ} {lim : Limits} {used pooled : ℕ} {inner : State} {t p : List ℕ} → BaseRead d lim used pooled (dimensions_from rank x) inner t p → pooled + 4 * rank ≤ length p
array_held rank x w =
    let a = w.place in
    let b = w.ready.room in
    let c = w.ready.pool in
    omega (arith, length-dimensions_from rank x)
