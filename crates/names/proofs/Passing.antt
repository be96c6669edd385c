-- The pass over a name: what holds before each byte, and what it gives at the end.
use Rattle.std.specs.Prelude.{Ok, Err}
use mathlib.Core.Path.{◌≡◌, refl, sym, ap, subst, ◌∙◌}
use mathlib.Core.Option.{Option, none, some}
use mathlib.Core.Logic.{◌⊎◌, inl, inr, ⊎_elim}
use mathlib.Core.List.{List, [], ◌∷◌, ◌++◌, append_assoc, append-nil}
use Prim.Native.Nat.{ℕ, zero, suc, ◌+◌, ◌≤◌, ◌<◌}
use native.Mathlib.Numerals.{add-one}
use native.Mathlib.Omega.{arith}
use borrow.Author.Tests.{le-leb}
use lib.ListN.{length, take, drop, get_or, length-append}
use lib.Seq.{sets, take-suc, drop-cons}
use Rattle.format.specs.Bytes.{first_nul, one_more_of}
use Rattle.format.specs.Utf8.{Utf8State, ready, begin, step, up_to, leads, at_end, mended_from, mended, state_after, output_of}
use Rattle.format.proofs.Lists.{sets_append}
use Rattle.format.proofs.Utf8.{mended_resumes}
use Rattle.names.specs.Pass.{carrying, state_of, Fits, Steps}
use Rattle.names.specs.Names.{Stored, WholeName, Reads}
use Rattle.names.specs.declared.Name.{Name}
use Rattle.names.specs.declared.NameError.TheVariants.{Missing, Full}
use Rattle.names.specs.declared.Carry.{Carry}
use Rattle.names.specs.declared.Stepped.{Stepped}

-- ---- the first NUL

-- a place that was found k bytes further on
abbrev pub shift : ℕ → Option ℕ → Option ℕ
shift k none = none
shift k (some m) = some (m + k)

shift_none : (o : Option ℕ) (k : ℕ) → k ≡ 0 → o ≡ shift k o
shift_none none k h = refl
shift_none (some m) k h = ap some (omega arith)

shift-more : (k : ℕ) (o : Option ℕ) → shift k (one_more_of o) ≡ shift (suc k) o
unfolding one_more_of
shift-more k none = refl
shift-more k (some m) = ap some (omega arith)

nul-zero : (b : ℕ) (l : List ℕ) → b ≡ 0 → first_nul (b ∷ l) ≡ some 0
unfolding first_nul
nul-zero zero l e = refl
nul-zero (suc b) l e = absurd (omega arith)

nul-more : (b : ℕ) (l : List ℕ) → (b ≡ 0 → ⊥) → first_nul (b ∷ l) ≡ one_more_of (first_nul l)
unfolding first_nul
nul-more zero l e = absurd (e refl)
nul-more (suc b) l e = refl

nul_end : (d : List ℕ) (i : ℕ) → length d ≤ i → first_nul (drop i d) ≡ none
unfolding first_nul
nul_end [] zero h = refl
nul_end [] (suc i) h = refl
nul_end (x ∷ d) zero h = absurd (omega arith)
nul_end (x ∷ d) (suc i) h = nul_end d i (omega arith)

-- ---- one byte more of the pass

after_snoc : (st : Utf8State) (s : List ℕ) (b : ℕ) → state_after st (s ++ (b ∷ [])) ≡ (step (state_after st s) b).next
unfolding state_after
after_snoc st [] b = refl
after_snoc st (x ∷ s) b = after_snoc (step st x).next s b

output_snoc : (st : Utf8State) (s : List ℕ) (b : ℕ) → output_of st (s ++ (b ∷ [])) ≡ output_of st s ++ (step (state_after st s) b).out
unfolding state_after output_of
output_snoc st [] b = append-nil (step st b).out
output_snoc st (x ∷ s) b =
    ap (λ (l : List ℕ). (step st x).out ++ l) (output_snoc (step st x).next s b)
    ∙ sym (append_assoc (step st x).out (output_of (step st x).next s) (step (state_after (step st x).next s) b).out)

mended-is : (s : List ℕ) → mended s ≡ output_of ready s ++ at_end (state_after ready s)
unfolding mended mended_from
mended-is s = ap (mended_from ready) (sym (append-nil s)) ∙ mended_resumes ready s []

-- a plain byte between characters gives itself out
plain : (st : Carry) (b : ℕ) → st.count ≡ 0 → b < 128 → ((step (state_of st) b).out ≡ b ∷ []) × (state_of st ≡ (step (state_of st) b).next)
unfolding state_of carrying step up_to leads begin
plain st b h k =
    let l : b ≤ 0x7f = omega arith in
    rw (h, le-leb b 0x7f l) (refl, refl)

-- ---- the pool

-- `out` is written up to pos, or does not fit and pos is past the pool's end
pub record Written (before pool : List ℕ) (pos : ℕ) (out : List ℕ) : Type 0 where
  pub same : length pool ≡ length before
  pub fits : pos ≤ length before → (pos ≡ length out) × (pool ≡ sets before 0 out)
  pub past : length before < pos → length before < length out

le_or_lt : (a b : ℕ) → (a ≤ b) ⊎ (b < a)
le_or_lt zero b = inl (omega arith)
le_or_lt (suc a) zero = inr (omega arith)
le_or_lt (suc a) (suc b) = ⊎_elim (λ (h : a ≤ b). inl (omega arith)) (λ (h : b < a). inr (omega arith)) (le_or_lt a b)

module _ (before pool pool' : List ℕ) (pos : ℕ) (out x : List ℕ) (r : ℕ) (w : Written before pool pos out) (s : Stored pool pool' pos x r) where
  -- bytes that fit go behind those that did
  both_fit : pos + length x ≤ length before → (r ≡ length (out ++ x)) × (pool' ≡ sets before 0 (out ++ x))
  both_fit h =
      let f = w.fits (omega arith) in
      let g = s.fits (omega (arith, w.same)) in
      let z : pos ≡ 0 + length out = omega (arith, f.0) in (
        omega (arith, f.0, g.0, length-append out x),
        g.1 ∙ ap (λ (l : List ℕ). sets l pos x) f.1 ∙ ap (λ (k : ℕ). sets (sets before 0 out) k x) z ∙ sym (sets_append out x before 0),
      )

  too_long : length before < pos + length x → length before < length (out ++ x)
  too_long h =
      ⊎_elim
      (λ (k : pos ≤ length before). omega (arith, (w.fits k).0, length-append out x))
      (λ (k : length before < pos). omega (arith, w.past k, length-append out x))
      (le_or_lt pos (length before))

  fits_after : r ≤ length before → pos + length x ≤ length before
  fits_after k =
      ⊎_elim
      (λ (h : pos + length x ≤ length before). h)
      (λ (h : length before < pos + length x). absurd (omega (arith, w.same, s.past (omega (arith, w.same)))))
      (le_or_lt (pos + length x) (length before))

  past_after : length before < r → length before < pos + length x
  past_after k =
      ⊎_elim
      (λ (h : pos + length x ≤ length before). absurd (omega (arith, (s.fits (omega (arith, w.same))).0)))
      (λ (h : length before < pos + length x). h)
      (le_or_lt (pos + length x) (length before))

  written-more : Written before pool' r (out ++ x)
  written-more = record {
    same = s.same ∙ w.same;
    fits = λ k. both_fit (fits_after k);
    past = λ k. too_long (past_after k);
  }

-- ---- the loop

-- before the byte at i
pub record Passing (d before pool : List ℕ) (i pos : ℕ) (st : Carry) : Type 0 where
  pub nul : first_nul d ≡ shift i (first_nul (drop i d))
  pub state : state_of st ≡ state_after ready (take i d)
  pub fits : Fits st
  pub written : Written before pool pos (output_of ready (take i d))

pub begun : (d p : List ℕ) (st : Carry) → st.count ≡ 0 → Passing d p p 0 0 st
unfolding state_of carrying state_after output_of
begun d p st e =
    record {
      nul = shift_none (first_nul d) 0 refl;
      state = rw e;
      fits = record { few = omega arith; waits = λ k. absurd (omega arith) };
      written = record { same = refl; fits = λ k. (refl, refl); past = λ k. absurd (omega arith) };
    }

module _ (d before pool pool' : List ℕ) (i pos : ℕ) (st : Carry) (was : Passing d before pool i pos st) where
  module _ (h : i < length d) where
    read_more : take (i + 1) d ≡ take i d ++ (get_or d i 0 ∷ [])
    read_more = ap (λ (k : ℕ). take k d) (add-one i) ∙ take-suc d i 0 h

    nul-next : (get_or d i 0 ≡ 0 → ⊥) → first_nul d ≡ shift (i + 1) (first_nul (drop (i + 1) d))
    nul-next z =
        was.nul
        ∙ ap (λ (l : List ℕ). shift i (first_nul l)) (drop-cons d i 0 h)
        ∙ ap (shift i) (nul-more (get_or d i 0) (drop (suc i) d) z)
        ∙ shift-more i (first_nul (drop (suc i) d))
        ∙ ap (λ (k : ℕ). shift k (first_nul (drop k d))) (sym (add-one i))

    passed : (z : Carry) (x : List ℕ) (r : ℕ) → (get_or d i 0 ≡ 0 → ⊥) → x ≡ (step (state_of st) (get_or d i 0)).out → state_of z ≡ (step (state_of st) (get_or d i 0)).next → Fits z → Stored pool pool' pos x r → Passing d before pool' (i + 1) r z
    passed z x r nz e f ok s =
        let b = get_or d i 0 in
        let o = output_of ready (take i d) in
        record {
          nul = nul-next nz;
          state = f ∙ ap (λ (t : Utf8State). (step t b).next) was.state ∙ sym (after_snoc ready (take i d) b) ∙ ap (state_after ready) (sym read_more);
          fits = ok;
          written =
              let q : output_of ready (take (i + 1) d) ≡ o ++ x = ap (output_of ready) read_more ∙ output_snoc ready (take i d) b ∙ ap (λ (t : Utf8State). o ++ (step t b).out) (sym was.state) ∙ ap (λ (l : List ℕ). o ++ l) (sym e) in
              rw q (written-more before pool pool' pos o x r was.written s);
        }

    pub passed-plain : (r : ℕ) → (get_or d i 0 ≡ 0 → ⊥) → get_or d i 0 < 128 → st.count ≡ 0 → Stored pool pool' pos (get_or d i 0 ∷ []) r → Passing d before pool' (i + 1) r st
    passed-plain r nz l e s =
        let q = plain st (get_or d i 0) e l in
        passed st (get_or d i 0 ∷ []) r nz (sym q.0) q.1 was.fits s

    pub passed-step : (y : Stepped) (r : ℕ) → (get_or d i 0 ≡ 0 → ⊥) → Steps y (step (state_of st) (get_or d i 0)) → Stored pool pool' pos (take y.len y.out) r → Passing d before pool' (i + 1) r y.next
    passed-step y r nz t s = passed y.next (take y.len y.out) r nz t.out t.next t.fits s

    -- the NUL
    module _ (nz : get_or d i 0 ≡ 0) (r : ℕ) (s : Stored pool pool' pos (at_end (state_of st)) r) where
      found : first_nul d ≡ some i
      found =
          was.nul
          ∙ ap (λ (l : List ℕ). shift i (first_nul l)) (drop-cons d i 0 h)
          ∙ ap (shift i) (nul-zero (get_or d i 0) (drop (suc i) d) nz)
          ∙ ap some (omega arith)

      whole-name : mended (take i d) ≡ output_of ready (take i d) ++ at_end (state_of st)
      whole-name = mended-is (take i d) ∙ ap (λ (t : Utf8State). output_of ready (take i d) ++ at_end t) (sym was.state)

      at_last : Written before pool' r (mended (take i d))
      at_last = rw whole-name (written-more before pool pool' pos (output_of ready (take i d)) (at_end (state_of st)) r was.written s)

      pub ends-full : length pool' < r → Reads d before pool' (Err Full)
      ends-full k = record {
        same = at_last.same;
        whole = λ x e. absurd (cc);
        full = λ e. record { n = i; found = found; long = omega (arith, at_last.past (omega (arith, at_last.same))) };
        missing = λ e. absurd (cc);
      }

      is_whole : r ≤ length pool' → WholeName d 0 before pool' 0 (length before) i r
      is_whole k =
          let f = at_last.fits (omega (arith, at_last.same)) in
          record {
            found = found;
            inside = omega arith;
            long = f.0;
            fits = omega (arith, at_last.same);
            pool = f.1;
          }

      pub ends-whole : r ≤ length pool' → Reads d before pool' (Ok (record { length = i; stored = r }))
      ends-whole k = record {
        same = at_last.same;
        whole = λ x e.
            let q : record { length = i; stored = r } ≡ x = cc in
            subst (λ (y : Name). WholeName d 0 before pool' 0 (length before) y.length y.stored) q (is_whole k);
        full = λ e. absurd (cc);
        missing = λ e. absurd (cc);
      }

  pub ends-missing : length d ≤ i → Reads d before pool (Err Missing)
  ends-missing h = record {
    same = was.written.same;
    whole = λ x e. absurd (cc);
    full = λ e. absurd (cc);
    missing = λ e. was.nul ∙ ap (shift i) (nul_end d i (omega arith));
  }
