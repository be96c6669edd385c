-- Laws of records copied one behind the other.
use Prim.Native.Nat.{ℕ, zero, suc, ◌+◌, ◌<◌, ◌≤◌}
use mathlib.Core.Path.{◌≡◌, refl, sym, ap, ◌∙◌}
use mathlib.Core.Bool.{Bool, true, false}
use mathlib.Core.Logic.{⊎_elim}
use mathlib.Core.List.{List, [], ◌++◌, append-nil}
use native.Mathlib.Numerals.{add-one}
use native.Mathlib.Omega.{arith}
use lib.ListN.{length, get_or, take, drop, length-append}
use lib.Seq.{sets, take_all}
use lib.Dec.{eqb}
use borrow.Author.Tests.{eq-eqb, ne_eqb, eqb-true, eqb-false}
use Rattle.format.proofs.Lists.{sets_append}
use Rattle.groups.specs.Groups.{firsts_to, firsts_of}
use Rattle.groups.specs.Duplicates.{record_at_of}
use Rattle.groups.specs.Join.{records_at}
use Rattle.groups.proofs.Cases.{same_or_not, below_or_same}
use Rattle.groups.proofs.Records.{records-next_hit, records-next_miss}
use Rattle.firsts.specs.Found.{Standing, numbers_in}
use Rattle.firsts.specs.Records.{both, keys_in, IsRecord}
use Rattle.join.specs.Copying.{added, copied, Put}
use Rattle.firsts.specs.declared.found.Found.{Found}

-- ---- what a record adds

module _ (f : Found) (k : ℕ) where
  added-here : get_or (numbers_in f) k 0 ≡ k → added f k ≡ record_at_of (both f.records) f.records.size k
  unfolding added
  added-here e = rw (eq-eqb (get_or (numbers_in f) k 0) k e)

  added-not : (get_or (numbers_in f) k 0 ≡ k → ⊥) → added f k ≡ []
  unfolding added
  added-not d = rw (ne_eqb (get_or (numbers_in f) k 0) k d)

  copied-next : copied f (k + 1) ≡ copied f k ++ added f k
  unfolding copied
  copied-next =
      ⊎_elim
      (λ (e : get_or (numbers_in f) k 0 ≡ k). records-next_hit (both f.records) f.records.size (numbers_in f) k e ∙ rw (added-here e))
      (λ (d : get_or (numbers_in f) k 0 ≡ k → ⊥). records-next_miss (both f.records) f.records.size (numbers_in f) k d ∙ rw (added-not d) (sym (append-nil (copied f k))))
      (same_or_not (get_or (numbers_in f) k 0) k)

  length-next : length (copied f (k + 1)) ≡ length (copied f k) + length (added f k)
  length-next = ap length copied-next ∙ length-append (copied f k) (added f k)

copied_mono : (f : Found) (m n : ℕ) → m ≤ n → length (copied f m) ≤ length (copied f n)
copied_mono f m zero h = let e : m ≡ 0 = omega arith in rw e (omega arith)
copied_mono f m (suc n) h =
    ⊎_elim
    (λ (l : m < suc n). rw (← (add-one n)) (omega (arith, copied_mono f m n (omega arith), length-next f n)))
    (λ (e : m ≡ suc n). rw e (omega arith))
    (below_or_same m (suc n) (omega arith))

-- ---- one record

-- a record that is a first
added-first : (f : Found) (k : ℕ) {t : Bool} → t ≡ eqb (get_or (numbers_in f) k 0) k → t ≡ true → {x : List ℕ} → IsRecord (both f.records) f.records.size k x → added f k ≡ x
added-first f k g e r = added-here f k (eqb-true (get_or (numbers_in f) k 0) k (sym g ∙ e)) ∙ sym r.is

pub first_told : {x : Bool} (ns : List ℕ) (k f : ℕ) → f ≡ get_or ns k 0 → x ≡ eqb f k → x ≡ eqb (get_or ns k 0) k
first_told ns k f g e = e ∙ ap (λ (i : ℕ). eqb i k) g

pub put-from : (block : List ℕ) (size k : ℕ) {x : List ℕ} → IsRecord block size k x → 0 + size ≤ length x
put-from block size k r = omega (arith, r.long)

module _ (f : Found) (k to : ℕ) where
  module _ (room : ℕ) (h : to + length (added f k) ≤ room) {t : Bool} (g : t ≡ eqb (get_or (numbers_in f) k 0) k) (e : t ≡ true) {x : List ℕ} (r : IsRecord (both f.records) f.records.size k x) where
    pub put_to : to + f.records.size ≤ room
    put_to = omega (arith, ap length (added-first f k g e r), r.long)

  module _ {t : Bool} (g : t ≡ eqb (get_or (numbers_in f) k 0) k) where
    pub put-here : t ≡ true → {x : List ℕ} → IsRecord (both f.records) f.records.size k x → (out out' : List ℕ) → out' ≡ sets out to (take f.records.size (drop 0 x)) → Put f k to (to + f.records.size) out out'
    put-here e {x = x} r out out' q =
        let here : added f k ≡ x = added-first f k g e r in
        let t : take f.records.size (drop 0 x) ≡ x = take_all f.records.size x (omega (arith, r.long)) in
        record { next = omega (arith, ap length here, r.long); stored = q ∙ rw (t, here) }

    pub put-not : t ≡ false → (out : List ℕ) → Put f k to to out out
    put-not d out =
        let z : added f k ≡ [] = added-not f k (eqb-false (get_or (numbers_in f) k 0) k (sym g ∙ d)) in
        record { next = rw z (omega arith); stored = rw z }

-- ---- all records

module _ (f : Found) where
  pub copied_none : (out : List ℕ) → (0 ≡ length (copied f 0)) × (out ≡ sets out 0 (copied f 0))
  unfolding copied firsts_to records_at
  copied_none out = (refl, refl)

  module _ (k to to' : ℕ) (out₁ out₂ : List ℕ) (p : Put f k to to' out₁ out₂) (e : to ≡ length (copied f k)) where
    pub copied_to : to' ≡ length (copied f (k + 1))
    copied_to = omega (arith, p.next, length-next f k)

    pub copied_more : (out : List ℕ) → out₁ ≡ sets out 0 (copied f k) → out₂ ≡ sets out 0 (copied f (k + 1))
    copied_more out q =
        let z : 0 + length (copied f k) ≡ to = omega arith in
        p.stored ∙ rw (q, copied-next f k, sets_append (copied f k) (added f k) out 0, z)

  pub copied_room : (k to room room₀ : ℕ) → to ≡ length (copied f k) → k < f.n → length (copied f f.n) ≤ room₀ → room ≡ room₀ → to + length (added f k) ≤ room
  copied_room k to room room₀ t l h s = omega (arith, length-next f k, copied_mono f (k + 1) f.n (omega arith))

  -- all firsts
  pub copied_all : Standing f → copied f f.n ≡ records_at (both f.records) f.records.size (firsts_of (keys_in f.table.now f.pool.now f.records))
  unfolding copied firsts_of
  copied_all s = rw s.count
