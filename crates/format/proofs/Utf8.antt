-- Making a name valid leaves valid UTF-8 as it is, gives valid UTF-8 for every list of bytes, carries at most three bytes,
-- can be broken off and taken up again, and gives at most three bytes for each.
use Prim.Native.Nat.{ℕ, zero, suc, ◌+◌, ◌*◌, ◌≤◌, ◌<◌}
use native.Mathlib.Omega.{arith}
use mathlib.Core.Path.{◌≡◌, refl, ap, sym, ◌∙◌}
use mathlib.Core.Bool.{Bool, true, false, cond, ◌&&◌}
use mathlib.Core.List.{List, [], ◌∷◌, ◌++◌, append_assoc, append-nil}
use lib.ListN.{length, length-append}
use lib.Dec.{leb, ltb}
use Rattle.format.specs.Bytes.{AllBytes}
use Rattle.format.specs.Message.{no_nul}
use Rattle.format.specs.Utf8.{Lead, single, lead, ill, up_to, leads, Utf8State, ready, waiting, Utf8Step, replacement, begin, broken, going, step, at_end, mended_from, mended, is_ready, well_formed_from, well_formed, carried, state_after, output_of}
use Rattle.format.proofs.Booleans.{and_both}

-- ---- valid UTF-8 is left as it is

begin_keeps : (b : ℕ) (x : Lead) → (begin b x).sound ≡ true → (begin b x).out ++ carried (begin b x).next ≡ b ∷ []
unfolding begin carried
begin_keeps b single h = refl
begin_keeps b (lead n lo hi) h = refl
begin_keeps b ill h = cc

going_keeps : (w : List ℕ) (n : ℕ) → (going w n).out ++ carried (going w n).next ≡ w
unfolding going carried
going_keeps w zero = append-nil w
going_keeps w (suc n) = refl

cond-keeps :
    (c : Bool) (x y : Utf8Step) (w : List ℕ) →
    x.out ++ carried x.next ≡ w →
    (cond c x (broken y)).sound ≡ true →
    (cond c x (broken y)).out ++ carried (cond c x (broken y)).next ≡ w
unfolding broken
cond-keeps true x y w h k = h
cond-keeps false x y w h k = cc

step_keeps : (st : Utf8State) (b : ℕ) → (step st b).sound ≡ true → (step st b).out ++ carried (step st b).next ≡ carried st ++ (b ∷ [])
unfolding step carried broken
step_keeps ready b h = begin_keeps b (up_to leads b) h
step_keeps (waiting w zero lo hi) b h = cc
step_keeps (waiting w (suc n) lo hi) b h =
    cond-keeps (leb lo b && leb b hi) (going (w ++ (b ∷ [])) n) (begin b (up_to leads b)) _ (going_keeps (w ++ (b ∷ [])) n) h

mended-from : (st : Utf8State) (s : List ℕ) → well_formed_from st s ≡ true → mended_from st s ≡ carried st ++ s
unfolding well_formed_from mended_from at_end is_ready carried
mended-from ready [] h = refl
mended-from (waiting w n lo hi) [] h = cc
mended-from st (b ∷ s) h =
    let both = and_both (step st b).sound (well_formed_from (step st b).next s) h in
    rw (mended-from (step st b).next s both.1, ← append_assoc (step st b).out, step_keeps st b both.0, append_assoc (carried st))

pub mended-of_well_formed : (s : List ℕ) → well_formed s ≡ true → mended s ≡ s
unfolding well_formed mended carried
mended-of_well_formed s h = mended-from ready s h

-- ---- what is given out is valid UTF-8

-- from between characters, the bytes w are valid and lead to the state st
abbrev Leads : List ℕ → Utf8State → Type 0
Leads w st = (t : List ℕ) → well_formed_from ready (w ++ t) ≡ well_formed_from st t

-- a step gives out whole characters, and its next state is the one after the bytes that it carries
abbrev Valid : Utf8Step → Type 0
Valid x = Leads x.out ready × Leads (carried x.next) x.next

begin-valid : (b : ℕ) (x : Lead) → up_to leads b ≡ x → Valid (begin b x)
unfolding begin carried well_formed_from step
begin-valid b single e = (λ t. rw e, λ t. refl)
begin-valid b (lead n lo hi) e = (λ t. refl, λ t. rw e)
begin-valid b ill e = (unfold replacement up_to leads going in λ t. refl, λ t. refl)

broken-valid : (x : Utf8Step) → Valid x → Valid (broken x)
unfolding broken replacement well_formed_from step begin up_to leads going
broken-valid x h = (λ t. h.0 t, h.1)

going-valid : (w : List ℕ) (n : ℕ) → Leads w (going w n).next → Valid (going w n)
unfolding going carried
going-valid w zero h = (h, λ t. refl)
going-valid w (suc n) h = (λ t. refl, h)

cond-valid : (c : Bool) (x y : Utf8Step) → (c ≡ true → Valid x) → Valid y → Valid (cond c x y)
cond-valid true x y h k = h refl
cond-valid false x y h k = k

went : (c : Bool) (w : List ℕ) (n : ℕ) (y : Utf8Step) (t : List ℕ) → c ≡ true → ((cond c (going w n) y).sound && well_formed_from (cond c (going w n) y).next t) ≡ well_formed_from (going w n).next t
unfolding going
went true w zero y t e = refl
went true w (suc n) y t e = refl
went false w n y t e = cc

step-valid : (st : Utf8State) (b : ℕ) → Leads (carried st) st → Valid (step st b)
unfolding step carried well_formed_from
step-valid ready b h = begin-valid b (up_to leads b) refl
step-valid (waiting w zero lo hi) b h = broken-valid _ (begin-valid b (up_to leads b) refl)
step-valid (waiting w (suc n) lo hi) b h =
    cond-valid
    (leb lo b && leb b hi)
    (going (w ++ (b ∷ [])) n)
    (broken (begin b (up_to leads b)))
    (λ e.
    going-valid
    (w ++ (b ∷ []))
    n
    (λ t. ap (well_formed_from ready) (append_assoc w (b ∷ []) t) ∙ h (b ∷ t) ∙ went (leb lo b && leb b hi) (w ++ (b ∷ [])) n (broken (begin b (up_to leads b))) t e))
    (broken-valid _ (begin-valid b (up_to leads b) refl))

mended-from-valid : (st : Utf8State) (s : List ℕ) → Leads (carried st) st → well_formed_from ready (mended_from st s) ≡ true
unfolding mended_from
mended-from-valid ready [] h = unfold at_end well_formed_from is_ready in refl
mended-from-valid (waiting w n lo hi) [] h = unfold at_end well_formed_from is_ready replacement step begin up_to leads going in refl
mended-from-valid st (b ∷ s) h =
    let v = step-valid st b h in
    v.0 (mended_from (step st b).next s) ∙ mended-from-valid (step st b).next s v.1

pub mended-is_well_formed : (s : List ℕ) → well_formed (mended s) ≡ true
unfolding well_formed mended carried
mended-is_well_formed s = mended-from-valid ready s (λ t. refl)

-- ---- the state

-- what a waiting state carries: at least one byte, with those that are still to come at most four, and one of them to come
pub data Sized : Utf8State → Type 0 where
  sized-ready : Sized ready
  sized-waiting : {w : List ℕ} {n lo hi : ℕ} → 1 ≤ length w → length w + suc n ≤ 4 → Sized (waiting w (suc n) lo hi)

SizedLead : Lead → Type 0
SizedLead single = Unit {0}
SizedLead ill = Unit {0}
SizedLead (lead n lo hi) = (1 ≤ n) × (n ≤ 3)

AllSized : List (ℕ × Lead) → Type 0
AllSized [] = Unit {0}
AllSized (x ∷ xs) = SizedLead x.1 × AllSized xs

cond-lead : (c : Bool) (x y : Lead) → SizedLead x → SizedLead y → SizedLead (cond c x y)
cond-lead true x y h k = h
cond-lead false x y h k = k

up_to_sized : (xs : List (ℕ × Lead)) (b : ℕ) → AllSized xs → SizedLead (up_to xs b)
unfolding up_to AllSized
up_to_sized [] b h = unfold SizedLead in tt
up_to_sized (x ∷ xs) b h = cond-lead (leb b x.0) x.1 (up_to xs b) h.0 (up_to_sized xs b h.1)

leads-sized : (b : ℕ) → SizedLead (up_to leads b)
leads-sized b = up_to_sized leads b (unfold leads AllSized SizedLead in search arith depth 30)

begin-sized : (b : ℕ) (x : Lead) → SizedLead x → Sized (begin b x).next
unfolding begin SizedLead
begin-sized b single h = sized-ready
begin-sized b ill h = sized-ready
begin-sized b (lead zero lo hi) h = absurd (omega arith)
begin-sized b (lead (suc n) lo hi) h = sized-waiting {w = b ∷ []} {n = n} (omega arith) (omega arith)

going-sized : (w : List ℕ) (n : ℕ) → 1 ≤ length w → length w + n ≤ 4 → Sized (going w n).next
unfolding going
going-sized w zero h k = sized-ready
going-sized w (suc n) h k = sized-waiting h k

cond-sized : (c : Bool) (x y : Utf8Step) → Sized x.next → Sized y.next → Sized (cond c x y).next
cond-sized true x y h k = h
cond-sized false x y h k = k

pub step-sized : (st : Utf8State) (b : ℕ) → Sized st → Sized (step st b).next
unfolding step broken
step-sized ready b h = begin-sized b _ (leads-sized b)
step-sized (waiting w zero lo hi) b h = elim h [ ]
step-sized (waiting w (suc n) lo hi) b (sized-waiting h k) =
    cond-sized
    (leb lo b && leb b hi)
    _
    _
    (going-sized (w ++ (b ∷ [])) n (omega (arith, length-append w (b ∷ []))) (omega (arith, length-append w (b ∷ []))))
    (begin-sized b _ (leads-sized b))

pub after-sized : (st : Utf8State) (s : List ℕ) → Sized st → Sized (state_after st s)
unfolding state_after
after-sized st [] h = h
after-sized st (b ∷ s) h = after-sized (step st b).next s (step-sized st b h)

sized-three : {st : Utf8State} → Sized st → length (carried st) ≤ 3
unfolding carried
sized-three sized-ready = omega arith
sized-three (sized-waiting h k) = omega arith

pub carries_three : (s : List ℕ) → length (carried (state_after ready s)) ≤ 3
carries_three s = sized-three (after-sized ready s sized-ready)

-- ---- broken off and taken up again

pub mended_resumes : (st : Utf8State) (s t : List ℕ) → mended_from st (s ++ t) ≡ output_of st s ++ mended_from (state_after st s) t
unfolding mended_from output_of state_after
mended_resumes st [] t = refl
mended_resumes st (b ∷ s) t =
    ap (λ (l : List ℕ). (step st b).out ++ l) (mended_resumes (step st b).next s t) ∙ sym (append_assoc (step st b).out (output_of (step st b).next s) (mended_from (state_after (step st b).next s) t))

-- ---- its bytes, and how many

-- what holds of each byte of the replacement and of each byte read holds of each byte given out or carried
module _ (P : ℕ → Type 0) where
  Each : List ℕ → Type 0
  Each [] = Unit {0}
  Each (b ∷ s) = P b × Each s

  each_append : (s t : List ℕ) → Each s → Each t → Each (s ++ t)
  unfolding Each
  each_append [] t h k = k
  each_append (b ∷ s) t h k = (h.0, each_append s t h.1 k)

  module _ (mark : Each replacement) where
    abbrev EachStep : Utf8Step → Type 0
    EachStep x = Each x.out × Each (carried x.next)

    begin-each : (b : ℕ) (x : Lead) → P b → EachStep (begin b x)
    unfolding begin carried Each
    begin-each b single h = ((h, tt), tt)
    begin-each b (lead n lo hi) h = (tt, (h, tt))
    begin-each b ill h = (mark, tt)

    broken-each : (x : Utf8Step) → EachStep x → EachStep (broken x)
    unfolding broken
    broken-each x h = (each_append replacement x.out mark h.0, h.1)

    going-each : (w : List ℕ) (n : ℕ) → Each w → EachStep (going w n)
    unfolding going carried Each
    going-each w zero h = (h, tt)
    going-each w (suc n) h = (tt, h)

    cond-each : (c : Bool) (x y : Utf8Step) → EachStep x → EachStep y → EachStep (cond c x y)
    cond-each true x y h k = h
    cond-each false x y h k = k

    step-each : (st : Utf8State) (b : ℕ) → Each (carried st) → P b → EachStep (step st b)
    unfolding step carried Each
    step-each ready b h k = begin-each b (up_to leads b) k
    step-each (waiting w zero lo hi) b h k = broken-each _ (begin-each b (up_to leads b) k)
    step-each (waiting w (suc n) lo hi) b h k =
        cond-each
        (leb lo b && leb b hi)
        (going (w ++ (b ∷ [])) n)
        (broken (begin b (up_to leads b)))
        (going-each (w ++ (b ∷ [])) n (each_append w (b ∷ []) h (k, tt)))
        (broken-each _ (begin-each b (up_to leads b) k))

    mended-each : (st : Utf8State) (s : List ℕ) → Each (carried st) → Each s → Each (mended_from st s)
    unfolding mended_from at_end Each
    mended-each ready [] h k = tt
    mended-each (waiting w n lo hi) [] h k = mark
    mended-each st (b ∷ s) h k =
        let e = step-each st b h k.0 in
        each_append (step st b).out _ e.0 (mended-each (step st b).next s e.1 k.1)

abbrev IsByte : ℕ → Type 0
IsByte b = b < 256

bytes-each : (s : List ℕ) → AllBytes s → Each IsByte s
unfolding AllBytes Each
bytes-each [] h = tt
bytes-each (b ∷ s) h = (h.0, bytes-each s h.1)

each-bytes : (s : List ℕ) → Each IsByte s → AllBytes s
unfolding AllBytes Each
each-bytes [] h = tt
each-bytes (b ∷ s) h = (h.0, each-bytes s h.1)

pub mended-bytes : (s : List ℕ) → AllBytes s → AllBytes (mended s)
unfolding mended carried Each replacement
mended-bytes s h =
    each-bytes (mended_from ready s) (mended-each IsByte (omega arith, (omega arith, (omega arith, tt))) ready s tt (bytes-each s h))

abbrev NotNul : ℕ → Type 0
NotNul b = ltb 0 b ≡ true

nul-each : (s : List ℕ) → no_nul s ≡ true → Each NotNul s
unfolding no_nul Each
nul-each [] h = tt
nul-each (b ∷ s) h = let both = and_both (ltb 0 b) (no_nul s) h in (both.0, nul-each s both.1)

each-nul : (s : List ℕ) → Each NotNul s → no_nul s ≡ true
unfolding no_nul Each
each-nul [] h = refl
each-nul (b ∷ s) h = rw h.0 (each-nul s h.1)

pub mended_no_nul : (s : List ℕ) → no_nul s ≡ true → no_nul (mended s) ≡ true
unfolding mended carried Each replacement
mended_no_nul s h = each-nul (mended_from ready s) (mended-each NotNul (refl, (refl, (refl, tt))) ready s tt (nul-each s h))

-- a step gives out at most three bytes for each that it takes or no longer carries
abbrev Short : ℕ → Utf8Step → Type 0
Short n x = length x.out + 3 * length (carried x.next) ≤ 3 * n

begin-short : (b : ℕ) (x : Lead) → Short 1 (begin b x)
unfolding begin carried replacement
begin-short b single = omega arith
begin-short b (lead n lo hi) = omega arith
begin-short b ill = omega arith

broken-short : (x : Utf8Step) (w : List ℕ) → 1 ≤ length w → Short 1 x → Short (length w + 1) (broken x)
unfolding broken replacement
broken-short x w h k = omega arith

going-short : (w : List ℕ) (n m : ℕ) → length w ≡ m → Short m (going w n)
unfolding going carried
going-short w zero m h = omega arith
going-short w (suc n) m h = omega arith

cond_short : (c : Bool) (n : ℕ) (x y : Utf8Step) → Short n x → Short n y → Short n (cond c x y)
cond_short true n x y h k = h
cond_short false n x y h k = k

step-short : (st : Utf8State) (b : ℕ) → Sized st → Short (length (carried st) + 1) (step st b)
unfolding step carried
step-short ready b h = begin-short b (up_to leads b)
step-short (waiting w zero lo hi) b h = elim h [ ]
step-short (waiting w (suc n) lo hi) b (sized-waiting h k) =
    cond_short
    (leb lo b && leb b hi)
    (length w + 1)
    (going (w ++ (b ∷ [])) n)
    (broken (begin b (up_to leads b)))
    (going-short (w ++ (b ∷ [])) n (length w + 1) (length-append w (b ∷ [])))
    (broken-short (begin b (up_to leads b)) w h (begin-short b (up_to leads b)))

mended-short : (st : Utf8State) (s : List ℕ) → Sized st → length (mended_from st s) ≤ 3 * (length (carried st) + length s)
unfolding mended_from at_end
mended-short ready [] h = omega arith
mended-short (waiting w zero lo hi) [] h = elim h [ ]
mended-short (waiting w (suc n) lo hi) [] (sized-waiting h k) = unfold carried replacement in omega arith
mended-short st (b ∷ s) h =
    omega (
      arith,
      length-append (step st b).out (mended_from (step st b).next s),
      step-short st b h,
      mended-short (step st b).next s (step-sized st b h),
    )

pub mended-length : (s : List ℕ) → length (mended s) ≤ 3 * length s
unfolding mended carried
mended-length s = omega (arith, mended-short ready s sized-ready)

-- each part that breaks off becomes one replacement
examples :
    mended (0x61 ∷ 0xe2 ∷ 0x82 ∷ 0xf0 ∷ 0x9f ∷ 0x80 ∷ 0x62 ∷ 0xe2 ∷ 0x82 ∷ 0xac ∷ 0xc0 ∷ [])
    ≡ 0x61 ∷ (replacement ++ (replacement ++ (0x62 ∷ 0xe2 ∷ 0x82 ∷ 0xac ∷ replacement)))
unfolding mended mended_from step going broken begin replacement up_to leads at_end
examples = refl
