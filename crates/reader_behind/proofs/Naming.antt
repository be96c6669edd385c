-- A name at a place of the message, by what `read_name` found there: the laws of `read_name_of`, and the ways out of `enter_enum_member`.
use Rattle.std.specs.Prelude.{Err, Ok, Result}
use mathlib.Core.Path.{◌≡◌, refl, sym, ap, ◌∙◌}
use mathlib.Core.Option.{none}
use mathlib.Core.List.{List, [], ◌∷◌, ◌++◌, append_assoc}
use Prim.Native.Nat.{ℕ, zero, suc, ◌+◌, ◌-◌, ◌*◌, ◌<◌, ◌≤◌, min}
use native.Mathlib.Omega.{arith}
use mir.Syntax.{w64}
use mir.Val.{Fits}
use lib.ListN.{length, take, drop, length-drop, take-append-drop}
use native.Mathlib.Decide.{dec_le}
use Rattle.std.proofs.lemmas.List.{drop_all}
use lib.Seq.{sets, sets-eq, drop-drop, length-take-le}
use borrow.Rule.Slice.PartMut.{put_mid}
use Rattle.std.specs.Result.{MatchResult, IsErrAnd}
use Rattle.format.proofs.Lists.{length_part, sets-front, part-all}
use Rattle.refusal.specs.declared.Refusal.{Refusal}
use Rattle.refusal.specs.declared.Refusal.TheVariants.{TooMany, Short, PoolFull}
use Rattle.format.specs.Bytes.{first_nul}
use Rattle.format.specs.Message.{name_padding_of}
use Rattle.format.specs.Reading.{got, refused, then, read_name_of}
use Rattle.format.specs.Table.{row, enum_member_row}
use Rattle.format.specs.Utf8.{mended}
use Rattle.names.specs.Names.{Reads, WholeName, FullName}
use Rattle.names.specs.declared.Name.{Name}
use Rattle.names.specs.declared.NameError.{NameError}
use Rattle.names.specs.declared.NameError.TheVariants.{Missing, Full}
use Rattle.reading.specs.declared.Cursor.{Cursor}
use Rattle.reading.specs.declared.Limits.{Limits}
use Rattle.reading.specs.Contract.{run, Named, Names}
use Rattle.reader_behind.specs.Naming.{NameBegins, name_refusal_of}
use Rattle.reading.proofs.Contracts.{by_done, not_done, by_refused, not-refused}
use Rattle.reading.proofs.Steps.{row-go, row-full, name-go, name-none, piece-go, piece-full, skip-go}

-- ---- the definition

module _ (d : List ℕ) (lim : Limits) (ver at used pooled : ℕ) where
  pub name_rowless : lim.rows ≤ used → run (read_name_of ver) d lim at used pooled ≡ refused TooMany
  unfolding read_name_of then
  name_rowless h = rw (row-full (length d) at (drop at d) lim.rows used (lim.pool - pooled) h)

  module _ (free : used < lim.rows) where
    pub name-missing : first_nul (drop at d) ≡ none → run (read_name_of ver) d lim at used pooled ≡ refused (Short (at + 1) (length d))
    unfolding read_name_of then
    name-missing h =
        rw (row-go (length d) at (drop at d) lim.rows used (lim.pool - pooled) free, name-none (length d) at d (lim.rows - (used + 1)) (lim.pool - pooled) h)

    pub name_over : FullName d at pooled lim.pool → run (read_name_of ver) d lim at used pooled ≡ refused PoolFull
    unfolding read_name_of then
    name_over w =
        rw (
          row-go (length d) at (drop at d) lim.rows used (lim.pool - pooled) free,
          name-go w.n at d (lim.rows - (used + 1)) (lim.pool - pooled) (length d) w.found,
          piece-full (mended (take w.n (drop at d))) (length d) (at + (w.n + 1)) (drop (at + (w.n + 1)) d) (lim.rows - (used + 1)) lim.pool pooled w.long,
        )

    module _ {p p' : List ℕ} (n m pad : ℕ) (w : WholeName d at p p' pooled lim.pool n m) (pe : pad ≡ name_padding_of ver (n + 1)) where
      pub name-whole : run (read_name_of ver) d lim at used pooled
          ≡ got (mended (take n (drop at d))) (at + (n + 1) + pad) (drop (at + (n + 1) + pad) d) (lim.rows - (used + 1)) (lim.pool - (pooled + m))
      unfolding read_name_of then
      name-whole =
          let i = w.inside in
          let f = w.fits in
          let l = w.long in
          let long : length (take n (drop at d)) ≡ n = length-take-le n (drop at d) (omega (arith, length-drop at d)) in
          rw (
            row-go (length d) at (drop at d) lim.rows used (lim.pool - pooled) free,
            name-go n at d (lim.rows - (used + 1)) (lim.pool - pooled) (length d) w.found,
            piece-go (mended (take n (drop at d))) (length d) (at + (n + 1)) (drop (at + (n + 1)) d) (lim.rows - (used + 1)) lim.pool pooled (omega arith),
            long,
            ← pe,
            ← l,
            skip-go pad (at + (n + 1)) d (lim.rows - (used + 1)) (lim.pool - (pooled + m)) (length d),
          )

-- ---- the ways out of `begin_member`

-- the rest of a message from a place on that may be past its end
from-there : (d : List ℕ) (at k : ℕ) → Dec (at ≤ length d) → k ≡ min at (length d) → drop k d ≡ drop at d
from-there d at k (yes h) e = let z : k ≡ at = omega arith in ap (λ (j : ℕ). drop j d) z
from-there d at k (no h) e = drop_all k d (omega arith) ∙ sym (drop_all at d (omega arith))

pub rest-there : (d : List ℕ) (at k : ℕ) → k ≡ min at (length d) → take (length d - k) (drop k d) ≡ drop at d
rest-there d at k e = part-all d k ∙ from-there d at k (dec_le at (length d)) e

-- stores in a part of a list are stores in the list
part-back : (v k : ℕ) (m : List ℕ) → v ≤ k → drop v (take k m) ++ drop k m ≡ drop v m
part-back zero k m h = take-append-drop k m
part-back (suc v) zero m h = absurd (omega arith)
part-back (suc v) (suc k) [] h = refl
part-back (suc v) (suc k) (x ∷ m) h = part-back v k m (omega arith)

put-part : (l vs : List ℕ) (at k : ℕ) → length vs ≤ k → at + k ≤ length l → put_mid at k l (sets (take k (drop at l)) 0 vs) ≡ sets l at vs
put-part l vs at k h g =
    rw (sets-front vs (take k (drop at l)) (omega (arith, length_part l at k g)), sets-eq vs l at (omega arith), append_assoc, ← drop-drop (length vs) at l, ← part-back (length vs) k (drop at l) h, append_assoc) refl

module _ {d : List ℕ} {lim : Limits} {at used pooled : ℕ} {p p' : List ℕ} where
  unnamed : {e : Refusal} → ((v : ℕ) → run (read_name_of v) d lim at used pooled ≡ refused e) → NameBegins d lim at used pooled (Err e) p p'
  unnamed q = record {
    free = not_done _;
    whole = not_done _;
    stopped = by_refused (λ e. (v : ℕ) → run (read_name_of v) d lim at used pooled ≡ refused e) q;
  }

  pub member_full : lim.rows ≤ used → NameBegins d lim at used pooled (Err TooMany) p p'
  member_full h = unnamed (λ v. name_rowless d lim v at used pooled h)

-- the name is read at the start of the rest of the message, and stored at the start of the pool's part that is free
module _ (d : List ℕ) (lim : Limits) (at used pooled : ℕ) (p q d' : List ℕ) (k : ℕ) (e : d' ≡ drop at d) (h : pooled + k ≡ lim.pool) (l : lim.pool ≤ length p) where
  whole-there : {n m : ℕ} → WholeName d' 0 (take k (drop pooled p)) q 0 (length (take k (drop pooled p))) n m → WholeName d at p (put_mid pooled k p q) pooled lim.pool n m
  whole-there {n} {m} w =
      let b = length_part p pooled k (omega arith) in
      let s : mended (take n d') ≡ mended (take n (drop at d)) = ap (λ (x : List ℕ). mended (take n x)) e in
      record {
        found = ap first_nul (sym e) ∙ w.found;
        inside = let i = w.inside in let z : length d' ≡ length d - at = ap length e ∙ length-drop at d in omega arith;
        long = w.long ∙ ap length s;
        fits = let f = w.fits in omega arith;
        pool = ap (put_mid pooled k p) (w.pool ∙ ap (sets (take k (drop pooled p)) 0) s) ∙ put-part p (mended (take n (drop at d))) pooled k (omega (arith, w.long, ap length s, w.fits)) (omega arith);
      }

  full-there : FullName d' 0 0 (length (take k (drop pooled p))) → FullName d at pooled lim.pool
  full-there w =
      record {
        n = w.n;
        found = ap first_nul (sym e) ∙ w.found;
        long = let b = length_part p pooled k (omega arith) in let f = w.long in let s : length (mended (take w.n d')) ≡ length (mended (take w.n (drop at d))) = ap (λ (x : List ℕ). length (mended (take w.n x))) e in omega arith;
      }

  module _ (free : used < lim.rows) where
    failed : (f : NameError) {x : Result Name NameError} → Reads d' (take k (drop pooled p)) q x → x ≡ Err f → NameBegins d lim at used pooled (Err (name_refusal_of at (length d) f)) p (put_mid pooled k p q)
    unfolding name_refusal_of
    failed Missing w i = unnamed (λ v. name-missing d lim v at used pooled free (ap first_nul (sym e) ∙ w.missing i))
    failed Full w i = unnamed (λ v. name_over d lim v at used pooled free (full-there (w.full i)))

    pub member_begins : (x : Result Name NameError) (r : Result Name Refusal) (L : NameError → Refusal → Type 0) → MatchResult x (λ y. r ≡ Ok y) (λ f. IsErrAnd r (L f))
        → ((f : NameError) (g : Refusal) → L f g → g ≡ name_refusal_of at (length d) f) → Reads d' (take k (drop pooled p)) q x → NameBegins d lim at used pooled r p (put_mid pooled k p q)
    member_begins (Ok y) r L i s w =
        rw i (record {
          free = λ y e. free;
          whole = by_done (λ y. WholeName d at p (put_mid pooled k p q) pooled lim.pool y.length y.stored) (whole-there (w.whole y refl));
          stopped = not-refused _;
        })
    member_begins (Err f) (Ok y) L i s w = absurd i
    member_begins (Err f) (Err g) L i s w = rw (s f g i) (failed f w refl)

-- ---- what is known of a name that was read

module _ {d : List ℕ} {lim : Limits} {at used pooled : ℕ} {p p' : List ℕ} {x : Name} (w : NameBegins d lim at used pooled (Ok x) p p') where
  pub whole-inside : at + x.length < length d
  whole-inside = (w.whole x refl).inside

  pub whole-fits : pooled + x.stored ≤ lim.pool
  whole-fits = (w.whole x refl).fits

  -- the same in the form of a need: what is counted from them does not wrap
  pub whole-one : length d < 18446744073709551616 → Fits w64 (x.length + 1)
  whole-one l = let i = whole-inside in record { fits = omega arith }

  pub whole-next : length d < 18446744073709551616 → Fits w64 (at + (x.length + 1))
  whole-next l = let i = whole-inside in record { fits = omega arith }

  pub whole-padded : {pad : ℕ} → pad < 8 → length d * 1 < 9223372036854775808 → Fits w64 (at + (x.length + 1) + pad)
  whole-padded k l = let i = whole-inside in record { fits = omega arith }

  pub whole-offset : {pad width : ℕ} → pad < 8 → width ≤ 4 → length d * 1 < 9223372036854775808 → Fits w64 (at + (x.length + 1) + pad + width)
  whole-offset k h l = let i = whole-inside in record { fits = omega arith }

  pub whole_pooled : lim.pool ≤ 65536 → Fits w64 (pooled + x.stored)
  whole_pooled l = let i = whole-fits in record { fits = omega arith }

  pub whole_word : lim.pool ≤ 65536 → x.stored < 4294967296
  whole_word l = let i = whole-fits in omega arith

-- ---- the ways out of `enter_enum_member`

module _ {d : List ℕ} {lim : Limits} {ver width : ℕ} {c : Cursor} {t t' p p' : List ℕ} where
  pub enum_stops : {e : Refusal} → NameBegins d lim c.at c.rows c.pooled (Err e) p p' → Names d lim ver width c (Err e) t t' p p'
  enum_stops {e} w =
      record {
        named = not_done (λ s. Named d lim ver width c s t t' p p');
        stopped = by_refused (λ f. run (read_name_of ver) d lim c.at c.rows c.pooled ≡ refused f) (w.stopped e refl ver);
      }

  pub enum_named : {x : Name} {pad : ℕ} → NameBegins d lim c.at c.rows c.pooled (Ok x) p p' → (pad ≡ name_padding_of ver (x.length + 1)) × (pad < 8)
      → t' ≡ sets t (c.rows * 16) (row 13 ((1, 0) ∷ (2, c.pooled) ∷ (3, x.stored) ∷ (4, width) ∷ []))
      → Names d lim ver width c (Ok (record { at = c.at + (x.length + 1) + pad; rows = c.rows + 1; pooled = c.pooled + x.stored })) t t' p p'
  unfolding enum_member_row row
  enum_named {x} {pad} w pe et =
      let y = w.whole x refl in
      let free = w.free x refl in
      let i = y.inside in
      let l = y.long in
      record {
        named = by_done (λ s. Named d lim ver width c s t t' p p') (record {
          name = mended (take x.length (drop c.at d));
          is = name-whole d lim ver c.at c.rows c.pooled free x.length x.stored pad y pe.0;
          rows_are = refl;
          pooled_are = ap (λ (k : ℕ). c.pooled + k) l;
          table = et ∙ ap (λ (k : ℕ). sets t (c.rows * 16) (enum_member_row c.pooled k width)) l;
          pool = y.pool;
          filled = omega arith;
          room = y.fits;
          near = omega arith;
        });
        stopped = not-refused (λ e. run (read_name_of ver) d lim c.at c.rows c.pooled ≡ refused e);
      }
