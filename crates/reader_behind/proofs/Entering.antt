-- A compound's member up to its type: the ways out of `enter_member`.
use Rattle.std.specs.Prelude.{Err, Ok}
use mathlib.Core.Path.{◌≡◌, refl, ap, ◌∙◌}
use mathlib.Core.List.{List, [], ◌∷◌}
use Prim.Native.Nat.{ℕ, suc, ◌+◌, ◌-◌, ◌*◌, ◌<◌, ◌≤◌}
use native.Mathlib.Omega.{arith}
use lib.ListN.{length, take, drop}
use lib.Seq.{sets, length-sets}
use Rattle.refusal.specs.declared.Refusal.{Refusal}
use Rattle.refusal.specs.declared.Refusal.TheVariants.{Short}
use Rattle.format.specs.Bytes.{number_from}
use Rattle.format.specs.Datatype.{Datatype, member}
use Rattle.format.specs.Message.{name_padding_of, offset_width, skipped_bytes_of}
use Rattle.format.specs.Reading.{Reader, got, refused, then, inner, read_name_of, read_members_of}
use Rattle.format.specs.Table.{row, member_row}
use Rattle.format.specs.Utf8.{mended}
use Rattle.names.specs.Names.{WholeName}
use Rattle.names.specs.declared.Name.{Name}
use Rattle.reading.specs.declared.Cursor.{Cursor}
use Rattle.reading.specs.declared.Limits.{Limits}
use Rattle.reading.specs.Contract.{run, Ready, Entered, Enters}
use Rattle.reading.proofs.Contracts.{by_done, not_done, by_refused, not-refused, ready_at}
use Rattle.reading.proofs.Steps.{number-go, number_short, bytes-go, bytes-short}
use Rattle.reader_behind.specs.Naming.{NameBegins}
use Rattle.reader_behind.proofs.Naming.{name-whole}

-- ---- the definition: a member begins with its name

module _ (d : List ℕ) (lim : Limits) (ver size at used pooled : ℕ) (rd : Reader Datatype) (k : ℕ) where
  member_no : (e : Refusal) → run (read_name_of ver) d lim at used pooled ≡ refused e → run (read_members_of rd ver size (suc k)) d lim at used pooled ≡ refused e
  unfolding read_members_of then
  member_no e q = rw q

  module _ {p p' : List ℕ} (free : used < lim.rows) (n m pad width : ℕ) (w : WholeName d at p p' pooled lim.pool n m) (pe : pad ≡ name_padding_of ver (n + 1)) (we : width ≡ offset_width ver size) where
    member_narrow : 0 < width → length d < at + (n + 1) + pad + width → run (read_members_of rd ver size (suc k)) d lim at used pooled ≡ refused (Short (at + (n + 1) + pad + width) (length d))
    unfolding read_members_of then
    member_narrow z h =
        rw (
          name-whole d lim ver at used pooled free n m pad w pe,
          ← we,
          number_short width (at + (n + 1) + pad) d (lim.rows - (used + 1)) (lim.pool - (pooled + m)) z h,
        )

    module _ (wide : at + (n + 1) + pad + width ≤ length d) (sk : ℕ) (se : sk ≡ skipped_bytes_of ver) where
      member_cut : length d < at + (n + 1) + pad + width + sk → run (read_members_of rd ver size (suc k)) d lim at used pooled ≡ refused (Short (at + (n + 1) + pad + width + sk) (length d))
      unfolding read_members_of then
      member_cut h =
          rw (
            name-whole d lim ver at used pooled free n m pad w pe,
            ← we,
            ← se,
            number-go width (at + (n + 1) + pad) d (lim.rows - (used + 1)) (lim.pool - (pooled + m)) wide,
            bytes-short sk (at + (n + 1) + pad + width) d (lim.rows - (used + 1)) (lim.pool - (pooled + m)) (omega arith) h,
          )

      member-entered : at + (n + 1) + pad + width + sk ≤ length d → run (read_members_of rd ver size (suc k)) d lim at used pooled
          ≡ then (run (inner rd) d lim (at + (n + 1) + pad + width + sk) (used + 1) (pooled + m))
          (λ t at' s r p. then (read_members_of rd ver size k (length d) at' s r p) (λ ms at'' s r p. got (member (mended (take n (drop at d))) (number_from (take width (drop (at + (n + 1) + pad) d))) t ms) at'' s r p))
      unfolding read_members_of then
      member-entered h =
          rw (
            name-whole d lim ver at used pooled free n m pad w pe,
            ← we,
            ← se,
            number-go width (at + (n + 1) + pad) d (lim.rows - (used + 1)) (lim.pool - (pooled + m)) wide,
            bytes-go sk (at + (n + 1) + pad + width) d (lim.rows - (used + 1)) (lim.pool - (pooled + m)) h,
          )

-- ---- the ways out

module _ {d : List ℕ} {lim : Limits} {ver size : ℕ} {c : Cursor} {t t' p p' : List ℕ} where
  stops : {e : Refusal} → ((rd : Reader Datatype) (k : ℕ) → run (read_members_of rd ver size (suc k)) d lim c.at c.rows c.pooled ≡ refused e) → Enters d lim ver size c (Err e) t t' p p'
  stops q =
      record {
        entered = not_done (λ s. Entered d lim ver size c s t t' p p');
        stopped = by_refused (λ e. (rd : Reader Datatype) (k : ℕ) → run (read_members_of rd ver size (suc k)) d lim c.at c.rows c.pooled ≡ refused e) q;
      }

  pub enter_stops : {e : Refusal} → NameBegins d lim c.at c.rows c.pooled (Err e) p p' → Enters d lim ver size c (Err e) t t' p p'
  enter_stops {e} w = stops (λ rd k. member_no d lim ver size c.at c.rows c.pooled rd k e (w.stopped e refl ver))

  module _ {x : Name} (w : NameBegins d lim c.at c.rows c.pooled (Ok x) p p') where
    module _ {pad width : ℕ} (pe : (pad ≡ name_padding_of ver (x.length + 1)) × (pad < 8)) (we : (width ≡ offset_width ver size) × ((0 < width) × (width ≤ 4))) where
      pub enter_narrow : length d < c.at + (x.length + 1) + pad + width → Enters d lim ver size c (Err (Short (c.at + (x.length + 1) + pad + width) (length d))) t t' p p'
      enter_narrow h = stops (λ rd k. member_narrow d lim ver size c.at c.rows c.pooled rd k (w.free x refl) x.length x.stored pad width (w.whole x refl) pe.0 we.0 we.1.0 h)

      module _ {sk : ℕ} (wide : c.at + (x.length + 1) + pad + width ≤ length d) (se : (sk ≡ skipped_bytes_of ver) × (sk ≤ 28)) where
        pub enter_cut : length d < c.at + (x.length + 1) + pad + width + sk → Enters d lim ver size c (Err (Short (c.at + (x.length + 1) + pad + width + sk) (length d))) t t' p p'
        enter_cut h = stops (λ rd k. member_cut d lim ver size c.at c.rows c.pooled rd k (w.free x refl) x.length x.stored pad width (w.whole x refl) pe.0 we.0 wide sk se.0 h)

        pub enter_inner : {o : ℕ} → Ready lim c.rows c.pooled t p → c.at + (x.length + 1) + pad + width + sk ≤ length d → o ≡ number_from (take width (drop (c.at + (x.length + 1) + pad) d))
            → t' ≡ sets t (c.rows * 16) (row 12 ((1, o) ∷ (2, c.pooled) ∷ (3, x.stored) ∷ (4, 0) ∷ []))
            → Enters d lim ver size c (Ok (record { at = c.at + (x.length + 1) + pad + width + sk; rows = c.rows + 1; pooled = c.pooled + x.stored })) t t' p p'
        unfolding member_row row
        enter_inner {o} ready long oe et =
            let y = w.whole x refl in
            let free = w.free x refl in
            let l = y.long in
            let f = y.fits in
            record {
              entered = by_done (λ s. Entered d lim ver size c s t t' p p') (record {
                name = mended (take x.length (drop c.at d));
                offset = number_from (take width (drop (c.at + (x.length + 1) + pad) d));
                is = λ rd k. member-entered d lim ver size c.at c.rows c.pooled rd k (w.free x refl) x.length x.stored pad width y pe.0 we.0 wide sk se.0 long;
                rows_are = refl;
                pooled_are = ap (λ (k : ℕ). c.pooled + k) l;
                table = et ∙ ap (λ (k : ℕ). sets t (c.rows * 16) (member_row c.pooled k x.stored)) oe ∙ ap (λ (k : ℕ). sets t (c.rows * 16) (member_row c.pooled (number_from (take width (drop (c.at + (x.length + 1) + pad) d))) k)) l;
                pool = y.pool;
                ready = ready_at (c.rows + 1) (c.pooled + x.stored) ready (omega arith) f (ap length et ∙ length-sets t (c.rows * 16) (row 12 ((1, o) ∷ (2, c.pooled) ∷ (3, x.stored) ∷ (4, 0) ∷ []))) (ap length y.pool ∙ length-sets p c.pooled (mended (take x.length (drop c.at d))));
                within = long;
              });
              stopped = not-refused (λ e. (rd : Reader Datatype) (k : ℕ) → run (read_members_of rd ver size (suc k)) d lim c.at c.rows c.pooled ≡ refused e);
            }
