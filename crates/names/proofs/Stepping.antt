-- What a byte begins, and the steps of the pass: a law for each way out of the code.
use mathlib.Core.Path.{◌≡◌, refl, sym, ap, ◌∙◌}
use mathlib.Core.Bool.{true, false, ◌&&◌, and-false}
use mathlib.Core.List.{List, [], ◌∷◌, ◌++◌}
use Prim.Native.Nat.{ℕ, zero, suc, ◌+◌, ◌-◌, ◌≤◌, ◌<◌}
use native.Mathlib.Omega.{arith}
use borrow.Author.Tests.{le-leb, lt-leb}
use lib.Dec.{leb}
use lib.ListN.{length, take, get_or}
use lib.Seq.{length-take-le}
use Rattle.format.specs.Utf8.{Lead, single, ill, lead, up_to, leads, ready, waiting, Utf8Step, replacement, begin, broken, going, step, carried}
use Rattle.names.specs.Pass.{lead_of, Sized, carrying, state_of, carry_on_of, Fits, Steps}
use Rattle.names.specs.declared.Start.{Start}
use Rattle.names.specs.declared.Start.TheVariants.{Single, Ill, More}
use Rattle.names.specs.declared.Carry.{Carry}
use Rattle.names.specs.declared.Stepped.{Stepped}

-- ---- the table, line by line

pub line : (k : ℕ) (x y : Lead) (xs : List (ℕ × Lead)) (b : ℕ) → b ≤ k → y ≡ x → y ≡ up_to ((k, x) ∷ xs) b
unfolding up_to
line k x y xs b h e = rw (le-leb b k h, e)

pub further : (k : ℕ) (x y : Lead) (xs : List (ℕ × Lead)) (b : ℕ) → k < b → y ≡ up_to xs b → y ≡ up_to ((k, x) ∷ xs) b
unfolding up_to
further k x y xs b h e = rw (lt-leb b k h) e

pub behind : (b : ℕ) → ill ≡ up_to [] b
unfolding up_to
behind b = refl

-- ---- between characters

idle : (z : Carry) → z.count ≡ 0 → state_of z ≡ ready
unfolding state_of carrying
idle z h = rw h

idle_fits : (z : Carry) → z.count ≡ 0 → Fits z
idle_fits z h = record { few = omega arith; waits = λ p. absurd (omega arith) }

-- bytes are given out, and nothing is carried on
given : (o : List ℕ) (n : ℕ) (z : Carry) (x : Utf8Step) → z.count ≡ 0 → length o ≡ 6 → n ≤ 6 → take n o ≡ x.out → ready ≡ x.next → Steps (record { out = o; len = n; next = z }) x
given o n z x h six short e f =
    record { out = e; next = idle z h ∙ f; fits = idle_fits z h; six = six; short = short }

one-fits : (b n lo hi : ℕ) → Sized (More n lo hi) → Fits (record { count = 1; first = b; second = 0; third = 0; more = n; low = lo; high = hi })
unfolding Sized
one-fits b n lo hi h = record { few = omega arith; waits = λ p. (h.0, omega arith) }

module _ (b : ℕ) (s : Start) (is : (lead_of s ≡ up_to leads b) × Sized s) where
  single_is : s ≡ Single → up_to leads b ≡ single
  unfolding lead_of
  single_is e = sym is.0 ∙ ap lead_of e

  ill_is : s ≡ Ill → up_to leads b ≡ ill
  unfolding lead_of
  ill_is e = sym is.0 ∙ ap lead_of e

  more-is : (n lo hi : ℕ) → s ≡ More n lo hi → up_to leads b ≡ lead n lo hi
  unfolding lead_of
  more-is n lo hi e = sym is.0 ∙ ap lead_of e

  module _ (z : Carry) (none : z.count ≡ 0) where
    pub begins_single : s ≡ Single → Steps (record { out = b ∷ 0 ∷ 0 ∷ 0 ∷ 0 ∷ 0 ∷ []; len = 1; next = z }) (begin b (up_to leads b))
    unfolding begin
    begins_single e = rw (single_is e) (given _ 1 z _ none refl (omega arith) refl refl)

    pub begins_ill : s ≡ Ill → Steps (record { out = 0xef ∷ 0xbf ∷ 0xbd ∷ 0 ∷ 0 ∷ 0 ∷ []; len = 3; next = z }) (begin b (up_to leads b))
    unfolding begin replacement
    begins_ill e = rw (ill_is e) (given _ 3 z _ none refl (omega arith) refl refl)

  module _ (n lo hi : ℕ) (e : s ≡ More n lo hi) where
    starts : Fits (record { count = 1; first = b; second = 0; third = 0; more = n; low = lo; high = hi })
    starts = one-fits b n lo hi (rw e at is.1)

    pub begins-more : Steps (record { out = 0 ∷ 0 ∷ 0 ∷ 0 ∷ 0 ∷ 0 ∷ []; len = 0; next = record { count = 1; first = b; second = 0; third = 0; more = n; low = lo; high = hi } }) (begin b (up_to leads b))
    unfolding begin state_of carrying
    begins-more = rw (more-is n lo hi e) (record { out = refl; next = refl; fits = starts; six = refl; short = omega arith })

-- what begins gives out three bytes at the most
begins-short : (b : ℕ) (x : Lead) → length (begin b x).out ≤ 3
unfolding begin replacement
begins-short b single = omega arith
begins-short b ill = omega arith
begins-short b (lead n lo hi) = omega arith

first_three : (l : List ℕ) (n : ℕ) → n ≤ 3 → length l ≡ 6 → take n (get_or l 0 0 ∷ get_or l 1 0 ∷ get_or l 2 0 ∷ []) ≡ take n l
first_three [] n h e = absurd (omega arith)
first_three (x ∷ []) n h e = absurd (omega arith)
first_three (x ∷ y ∷ []) n h e = absurd (omega arith)
first_three (x ∷ y ∷ z ∷ l) zero h e = refl
first_three (x ∷ y ∷ z ∷ l) (suc zero) h e = refl
first_three (x ∷ y ∷ z ∷ l) (suc (suc zero)) h e = refl
first_three (x ∷ y ∷ z ∷ l) (suc (suc (suc zero))) h e = refl
first_three (x ∷ y ∷ z ∷ l) (suc (suc (suc (suc n)))) h e = absurd (omega arith)

pub breaks : (b : ℕ) (y : Stepped) → Steps y (begin b (up_to leads b))
    → Steps (record { out = 0xef ∷ 0xbf ∷ 0xbd ∷ get_or y.out 0 0 ∷ get_or y.out 1 0 ∷ get_or y.out 2 0 ∷ []; len = 3 + y.len; next = y.next }) (broken (begin b (up_to leads b)))
unfolding broken replacement
breaks b y s =
    let n : y.len ≤ 3 = omega (arith, length-take-le y.len y.out (omega (arith, s.six, s.short)), ap length s.out, begins-short b (up_to leads b)) in
    let q : 3 + y.len ≡ suc (suc (suc y.len)) = omega arith in
    record {
      out = rw q (ap (λ (l : List ℕ). 0xef ∷ 0xbf ∷ 0xbd ∷ l) (first_three y.out y.len n s.six ∙ s.out));
      next = s.next;
      fits = s.fits;
      six = refl;
      short = omega arith;
    }

-- ---- in a character

more_left : (n : ℕ) → 1 < n → (k : ℕ) × (n - 1 ≡ suc k)
more_left zero h = absurd (omega arith)
more_left (suc zero) h = absurd (omega arith)
more_left (suc (suc k)) h = (k, omega arith)

module _ (st : Carry) (b : ℕ) (ok : Fits st × (0 < st.count)) where
  pub waits-more : 1 ≤ st.more
  waits-more = omega (arith, ok.0.waits ok.1)

  total : st.count + st.more ≤ 4
  total = (ok.0.waits ok.1).1

  carried_1 : st.count ≡ 1 → carried (state_of st) ≡ st.first ∷ []
  unfolding carried state_of carrying
  carried_1 e = rw e

  carried_2 : st.count ≡ 2 → carried (state_of st) ≡ st.first ∷ st.second ∷ []
  unfolding carried state_of carrying
  carried_2 e = rw e

  carried_3 : st.count ≡ 3 → carried (state_of st) ≡ st.first ∷ st.second ∷ st.third ∷ []
  unfolding carried state_of carrying
  carried_3 e = rw e

  last : st.more ≡ 1 → st.more - 1 ≡ 0
  last e = omega arith

  module _ (z : Carry) (none : z.count ≡ 0) where
    pub whole_2 : st.count ≡ 1 → st.more ≡ 1 → Steps (record { out = st.first ∷ b ∷ 0 ∷ 0 ∷ 0 ∷ 0 ∷ []; len = 2; next = z }) (going (carried (state_of st) ++ (b ∷ [])) (st.more - 1))
    unfolding going
    whole_2 h k = rw (carried_1 h, last k) (given _ 2 z _ none refl (omega arith) refl refl)

    pub whole_3 : st.count ≡ 2 → st.more ≡ 1 → Steps (record { out = st.first ∷ st.second ∷ b ∷ 0 ∷ 0 ∷ 0 ∷ []; len = 3; next = z }) (going (carried (state_of st) ++ (b ∷ [])) (st.more - 1))
    unfolding going
    whole_3 h k = rw (carried_2 h, last k) (given _ 3 z _ none refl (omega arith) refl refl)

    pub whole_4 : (st.count ≡ 1 → ⊥) → (st.count ≡ 2 → ⊥) → Steps (record { out = st.first ∷ st.second ∷ st.third ∷ b ∷ 0 ∷ 0 ∷ []; len = 4; next = z }) (going (carried (state_of st) ++ (b ∷ [])) (st.more - 1))
    unfolding going
    whole_4 h k =
        let three : st.count ≡ 3 = omega (arith, ok.0.few) in
        let one : st.more ≡ 1 = omega (arith, total, waits-more) in
        rw (carried_3 three, last one) (given _ 4 z _ none refl (omega arith) refl refl)

  pub longer_2 : {r : Stepped} → st.count ≡ 1 → (st.more ≡ 1 → ⊥) → r ≡ carry_on_of 2 st.first b 0 (st.more - 1) → Steps r (going (carried (state_of st) ++ (b ∷ [])) (st.more - 1))
  unfolding going state_of carrying
  longer_2 h k e =
      let m = more_left st.more (omega (arith, waits-more)) in
      let f : 2 + (st.more - 1) ≤ 4 = omega (arith, total, waits-more) in
      let g : 0 < st.more - 1 = omega (arith, waits-more) in
      rw (e, carried_1 h, m.1)
      (record {
        out = refl;
        next = refl;
        fits = record { few = omega arith; waits = λ p. (omega arith, omega (arith, f, m.1)) };
        six = refl;
        short = omega arith;
      })

  pub longer_3 : {r : Stepped} → st.count ≡ 2 → (st.more ≡ 1 → ⊥) → r ≡ carry_on_of 3 st.first st.second b (st.more - 1) → Steps r (going (carried (state_of st) ++ (b ∷ [])) (st.more - 1))
  unfolding going state_of carrying
  longer_3 h k e =
      let m = more_left st.more (omega (arith, waits-more)) in
      let f : 3 + (st.more - 1) ≤ 4 = omega (arith, total, waits-more) in
      rw (e, carried_2 h, m.1)
      (record {
        out = refl;
        next = refl;
        fits = record { few = omega arith; waits = λ p. (omega arith, omega (arith, f, m.1)) };
        six = refl;
        short = omega arith;
      })

-- ---- a step

pub steps_idle : (st : Carry) (b : ℕ) (r : Stepped) → st.count ≡ 0 → Steps r (begin b (up_to leads b)) → Steps r (step (state_of st) b)
unfolding step
steps_idle st b r h s = rw (idle st h) s

-- the state and the step of a character that is not whole
busy-with :
    (c m : ℕ) (w : List ℕ) (lo hi : ℕ) →
    (c ≡ 0 → ⊥) →
    (0 < c → 0 < m) →
    (n : ℕ) × (m ≡ suc n) × (carrying c w m lo hi ≡ waiting (carried (carrying c w m lo hi)) (suc n) lo hi)
unfolding carrying carried
busy-with zero m w lo hi h k = absurd (h refl)
busy-with (suc c) zero w lo hi h k = absurd (omega (arith, k (omega arith)))
busy-with (suc c) (suc n) w lo hi h k = (n, refl, refl)

busy : (st : Carry) → (st.count ≡ 0 → ⊥) → Fits st → (n : ℕ) × (st.more ≡ suc n) × (state_of st ≡ waiting (carried (state_of st)) (suc n) st.low st.high)
unfolding state_of
busy st h f = busy-with st.count st.more (st.first ∷ st.second ∷ st.third ∷ []) st.low st.high h (λ p. (f.waits p).0)

step-outside : (w : List ℕ) (n lo hi b : ℕ) → (leb lo b && leb b hi) ≡ false → step (waiting w (suc n) lo hi) b ≡ broken (begin b (up_to leads b))
unfolding step
step-outside w n lo hi b e = rw e

step-inside : (w : List ℕ) (n lo hi b : ℕ) → (leb lo b && leb b hi) ≡ true → step (waiting w (suc n) lo hi) b ≡ going (w ++ (b ∷ [])) n
unfolding step
step-inside w n lo hi b e = rw e

pub steps_low : (st : Carry) (b : ℕ) (r : Stepped) → Fits st → (st.count ≡ 0 → ⊥) → b < st.low → Steps r (broken (begin b (up_to leads b))) → Steps r (step (state_of st) b)
steps_low st b r f h l s =
    let y = busy st h f in
    rw (y.2, step-outside (carried (state_of st)) y.0 st.low st.high b (rw (lt-leb st.low b l) refl)) s

pub steps_high : (st : Carry) (b : ℕ) (r : Stepped) → Fits st → (st.count ≡ 0 → ⊥) → st.high < b → Steps r (broken (begin b (up_to leads b))) → Steps r (step (state_of st) b)
steps_high st b r f h l s =
    let y = busy st h f in
    rw (y.2, step-outside (carried (state_of st)) y.0 st.low st.high b (rw (lt-leb b st.high l) (and-false (leb st.low b)))) s

pub steps_on : (st : Carry) (b : ℕ) (r : Stepped) → Fits st → (st.count ≡ 0 → ⊥) → st.low ≤ b → b ≤ st.high → Steps r (going (carried (state_of st) ++ (b ∷ [])) (st.more - 1)) → Steps r (step (state_of st) b)
steps_on st b r f h lo hi s =
    let y = busy st h f in
    let e : st.more - 1 ≡ y.0 = omega (arith, y.1) in
    rw (y.2, step-inside (carried (state_of st)) y.0 st.low st.high b (rw (le-leb st.low b lo, le-leb b st.high hi)), ← e) s
