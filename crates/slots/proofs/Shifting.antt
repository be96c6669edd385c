-- Slots moved by an offset, entry after entry, and stored one list behind another.
use Rattle.std.proofs.Common.{◌≡◌, ℕ, zero, suc, ◌+◌, ◌*◌, ◌<◌, List, [], ◌∷◌, ◌++◌, length, sym, refl, ap, ◌∙◌, append_assoc, add-zero, suc-mul, suc-add, zero-add, zero-mul, le-mul_of_pos_right, arith, length-append}
use lib.Seq.{length-sets}
use Rattle.format.specs.Slots.{shifted, entries}
use Rattle.format.proofs.Lists.{sets_append}
use Rattle.format.proofs.Slots.{length-shifted, length-entries}
use Rattle.slots.specs.Slots.{AllBelow, Fits, Listed}

-- ---- lists of numbers

all_append : (m : ℕ) (vs ws : List ℕ) → AllBelow m (vs ++ ws) → AllBelow m vs × AllBelow m ws
unfolding AllBelow
all_append m [] ws h = (tt, h)
all_append m (v ∷ vs) ws h = let i = all_append m vs ws h.1 in ((h.0, i.0), i.1)

pub shifted_append : (o : ℕ) (ss us : List ℕ) → shifted o (ss ++ us) ≡ shifted o ss ++ shifted o us
unfolding shifted
shifted_append o [] us = refl
shifted_append o (s ∷ ss) us = ap (λ (l : List ℕ). (o + s) ∷ l) (shifted_append o ss us)

pub shifted_twice : (a b : ℕ) (ss : List ℕ) → shifted a (shifted b ss) ≡ shifted (a + b) ss
unfolding shifted
shifted_twice a b [] = refl
shifted_twice a b (s ∷ ss) = let e : a + (b + s) ≡ a + b + s = omega arith in rw (e, shifted_twice a b ss)

pub shifted-zero : (ss : List ℕ) → shifted 0 ss ≡ ss
unfolding shifted
shifted-zero [] = refl
shifted-zero (s ∷ ss) = let e : 0 + s ≡ s = omega arith in rw (e, shifted-zero ss)

-- entries from the next on are those from this on, a stride further
entries-shift : (stride : ℕ) (ss : List ℕ) (k n : ℕ) → entries stride ss (suc k) n ≡ shifted stride (entries stride ss k n)
unfolding entries
entries-shift stride ss k zero = unfold shifted in refl
entries-shift stride ss k (suc n) =
    let e : suc k * stride ≡ stride + k * stride = omega (arith, suc-mul k stride) in
    rw (shifted_append, shifted_twice, e, entries-shift stride ss (suc k) n)

pub entries-more : (stride base : ℕ) (ss : List ℕ) (n : ℕ) → shifted base (entries stride ss 0 (suc n)) ≡ shifted base ss ++ shifted (base + stride) (entries stride ss 0 n)
unfolding entries
entries-more stride base ss n =
    let e : base + 0 * stride ≡ base = omega (arith, zero-mul stride) in
    shifted_append base (shifted (0 * stride) ss) (entries stride ss 1 n) ∙ rw (shifted_twice base (0 * stride) ss, e, entries-shift stride ss 0 n, shifted_twice base stride (entries stride ss 0 n))

-- so many entries, then others
pub entries_split : (stride base : ℕ) (ss : List ℕ) (c e : ℕ) → shifted base (entries stride ss 0 (c + e)) ≡ shifted base (entries stride ss 0 c) ++ shifted (base + c * stride) (entries stride ss 0 e)
entries_split stride base ss zero e =
    let i : base + 0 * stride ≡ base = omega (arith, zero-mul stride) in
    rw (zero-add e, i) (unfold entries shifted in refl)
entries_split stride base ss (suc c) e =
    let i : base + suc c * stride ≡ base + stride + c * stride = omega (arith, suc-mul c stride) in
    rw (suc-add c e, i, entries-more stride base ss (c + e), entries-more stride base ss c, append_assoc (shifted base ss) (shifted (base + stride) (entries stride ss 0 c)) (shifted (base + stride + c * stride) (entries stride ss 0 e)))
    (ap (λ (l : List ℕ). shifted base ss ++ l) (entries_split stride (base + stride) ss c e))

pub length_moved : (stride base : ℕ) (ss : List ℕ) (n : ℕ) → length (shifted base (entries stride ss 0 n)) ≡ n * length ss
length_moved stride base ss n = length-shifted base (entries stride ss 0 n) ∙ length-entries stride ss 0 n

-- entries of numbers that 32 bits hold are not many
entries_cons : (stride base : ℕ) (ss : List ℕ) (k n : ℕ) → shifted base (entries stride ss k (suc n)) ≡ shifted (base + k * stride) ss ++ shifted base (entries stride ss (suc k) n)
unfolding entries
entries_cons stride base ss k n = shifted_append base (shifted (k * stride) ss) (entries stride ss (suc k) n) ∙ rw (shifted_twice base (k * stride) ss)

pub first-low : (m base : ℕ) (ss : List ℕ) → (ss ≡ [] → ⊥) → AllBelow m (shifted base ss) → base < m
unfolding shifted AllBelow
first-low m base [] h i = absurd (h refl)
first-low m base (s ∷ ss) h i = omega (arith, i.0)

pub few-entries : (m stride base : ℕ) (ss : List ℕ) → (ss ≡ [] → ⊥) → 0 < stride → (k n : ℕ) → AllBelow m (shifted base (entries stride ss k (suc n))) → k + n < m
few-entries m stride base ss z h k zero i =
    let j = (all_append m (shifted (base + k * stride) ss) (shifted base (entries stride ss (suc k) 0)) (rw (entries_cons stride base ss k 0) at i)).0 in
    omega (arith, first-low m (base + k * stride) ss z j, le-mul_of_pos_right k h)
few-entries m stride base ss z h k (suc n) i =
    let j = (all_append m (shifted (base + k * stride) ss) (shifted base (entries stride ss (suc k) (suc n))) (rw (entries_cons stride base ss k (suc n)) at i)).1 in
    omega (arith, few-entries m stride base ss z h (suc k) n j)

-- ---- one list after another

module _ (vs ws out : List ℕ) (at : ℕ) (f : Fits (vs ++ ws) out at) where
  pub fits-first : Fits vs out at
  fits-first = record { room = omega (arith, f.room, length-append vs ws); low = (all_append _ vs ws f.low).0 }

  pub fits-second : {x : ℕ} {out' : List ℕ} → Listed vs out at x out' → Fits ws out' x
  fits-second l =
      record {
        room = rw (l.next, l.out-is, length-sets) (omega (arith, f.room, length-append vs ws));
        low = (all_append _ vs ws f.low).1;
      }

pub listed_both : (vs ws out : List ℕ) (at x y : ℕ) (out₁ out₂ : List ℕ) → Listed vs out at x out₁ → Listed ws out₁ x y out₂ → Listed (vs ++ ws) out at y out₂
listed_both vs ws out at x y out₁ out₂ a b =
    record {
      next = rw (b.next, a.next, length-append) (omega arith);
      out-is = rw (b.out-is, a.out-is, a.next) (sym (sets_append vs ws out at));
    }

pub listed-none : (out : List ℕ) (at : ℕ) → Listed [] out at at out
listed-none out at = record { next = sym (add-zero at); out-is = refl }

pub shifted_none : (base : ℕ) (ss : List ℕ) → ss ≡ [] → shifted base ss ≡ []
unfolding shifted
shifted_none base ss e = rw e

pub entries_none : (stride k n : ℕ) → entries stride [] k n ≡ []
unfolding entries shifted
entries_none stride k zero = refl
entries_none stride k (suc n) = entries_none stride (suc k) n
