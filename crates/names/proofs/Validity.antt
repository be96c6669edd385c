-- Whether a name is valid: one pass whose state leaves out the bytes of a character that is not whole.
use mathlib.Core.Path.{◌≡◌, refl, sym, ap, ◌∙◌}
use mathlib.Core.Bool.{Bool, true, false, cond, ◌&&◌, and-false}
use mathlib.Core.List.{List, [], ◌∷◌, ◌++◌}
use Prim.Native.Nat.{ℕ, zero, suc, ◌+◌, ◌-◌, ◌≤◌, ◌<◌}
use native.Mathlib.Numerals.{add-one}
use native.Mathlib.Omega.{arith}
use borrow.Author.Tests.{le-leb, lt-ltb}
use lib.Dec.{leb}
use lib.ListN.{length, take, drop, get_or}
use lib.Seq.{drop-cons}
use Rattle.std.proofs.lemmas.List.{drop_all, take_all, length-drop}
use Rattle.format.specs.Message.{no_nul}
use Rattle.format.specs.Utf8.{Lead, single, ill, lead, up_to, leads, Utf8State, ready, waiting, begin, broken, going, step, is_ready, well_formed_from, well_formed}
use Rattle.names.specs.Pass.{lead_of, Sized, less_one, follow_of}
use Rattle.names.specs.declared.Start.{Start}
use Rattle.names.specs.declared.Start.TheVariants.{Single, Ill, More}

-- so many bytes are still to come
unfoldable pub awaiting : (more low high : ℕ) → Utf8State
awaiting zero lo hi = ready
awaiting (suc n) lo hi = waiting [] (suc n) lo hi

unfoldable pub valid_from : (more low high : ℕ) → List ℕ → Bool
valid_from n lo hi s = no_nul s && well_formed_from (awaiting n lo hi) s

-- the bytes that a state carries do not matter
Forgets : List ℕ → Type 0
Forgets s = (w : List ℕ) (n lo hi : ℕ) → well_formed_from (waiting w n lo hi) s ≡ well_formed_from (waiting [] n lo hi) s

forget_on : (s : List ℕ) → Forgets s → (w v : List ℕ) (n : ℕ) → ((going w n).sound && well_formed_from (going w n).next s) ≡ ((going v n).sound && well_formed_from (going v n).next s)
unfolding going Forgets
forget_on s f w v zero = refl
forget_on s f w v (suc n) = f w (suc n) 0x80 0xbf ∙ sym (f v (suc n) 0x80 0xbf)

forget_step : (b : ℕ) (s w : List ℕ) (n : ℕ) (t : Bool) → Forgets s
    → ((cond t (going (w ++ (b ∷ [])) n) (broken (begin b (up_to leads b)))).sound && well_formed_from (cond t (going (w ++ (b ∷ [])) n) (broken (begin b (up_to leads b)))).next s)
    ≡ ((cond t (going (b ∷ []) n) (broken (begin b (up_to leads b)))).sound && well_formed_from (cond t (going (b ∷ []) n) (broken (begin b (up_to leads b)))).next s)
forget_step b s w n true f = forget_on s f (w ++ (b ∷ [])) (b ∷ []) n
forget_step b s w n false f = refl

forget : (s : List ℕ) → Forgets s
unfolding Forgets well_formed_from is_ready step broken
forget [] w n lo hi = refl
forget (b ∷ s) w zero lo hi = refl
forget (b ∷ s) w (suc n) lo hi = forget_step b s w n (leb lo b && leb b hi) (forget s)

awaiting_any : (w : List ℕ) (n lo hi : ℕ) (s : List ℕ) → well_formed_from (waiting w (suc n) lo hi) s ≡ well_formed_from (awaiting (suc n) lo hi) s
unfolding awaiting Forgets
awaiting_any w n lo hi s = forget s w (suc n) lo hi

-- the next byte b, and s behind it
module _ (b : ℕ) (s : List ℕ) where
  nul_byte : (n lo hi : ℕ) → b ≡ 0 → valid_from n lo hi (b ∷ s) ≡ false
  unfolding valid_from no_nul
  nul_byte n lo hi e = rw e

  module _ (other : b ≡ 0 → ⊥) where
    other_byte : (n lo hi : ℕ) {t : Bool} → well_formed_from (awaiting n lo hi) (b ∷ s) ≡ t → valid_from n lo hi (b ∷ s) ≡ (no_nul s && t)
    unfolding valid_from no_nul
    other_byte n lo hi e = rw (lt-ltb 0 b (omega arith), e)

    fails : (n lo hi : ℕ) → well_formed_from (awaiting n lo hi) (b ∷ s) ≡ false → valid_from n lo hi (b ∷ s) ≡ false
    fails n lo hi e = other_byte n lo hi e ∙ and-false (no_nul s)

    -- between characters
    single_byte : (n lo hi : ℕ) → n ≡ 0 → up_to leads b ≡ single → valid_from n lo hi (b ∷ s) ≡ valid_from n lo hi s
    unfolding valid_from
    single_byte n lo hi e l = other_byte n lo hi (rw e (unfold awaiting well_formed_from step begin in rw l))

    ill_byte : (n lo hi : ℕ) → n ≡ 0 → up_to leads b ≡ ill → valid_from n lo hi (b ∷ s) ≡ false
    ill_byte n lo hi e l = fails n lo hi (rw e (unfold awaiting well_formed_from step begin in rw l))

    lead_byte : (n lo hi m lo' hi' : ℕ) → n ≡ 0 → up_to leads b ≡ lead (suc m) lo' hi' → valid_from n lo hi (b ∷ s) ≡ valid_from (suc m) lo' hi' s
    unfolding valid_from
    lead_byte n lo hi m lo' hi' e l = other_byte n lo hi (rw e (unfold awaiting well_formed_from step begin in rw l (awaiting_any (b ∷ []) m lo' hi' s)))

    -- in a character
    outside_byte : (n lo hi : ℕ) → (leb lo b && leb b hi) ≡ false → valid_from (suc n) lo hi (b ∷ s) ≡ false
    outside_byte n lo hi e = fails (suc n) lo hi (unfold awaiting well_formed_from step broken in rw e)

    inside_byte : (n lo hi : ℕ) → (leb lo b && leb b hi) ≡ true → valid_from (suc n) lo hi (b ∷ s) ≡ valid_from n 0x80 0xbf s
    unfolding valid_from
    inside_byte zero lo hi e = other_byte (suc zero) lo hi (unfold awaiting well_formed_from step going in rw e)
    inside_byte (suc n) lo hi e = other_byte (suc (suc n)) lo hi (unfold awaiting well_formed_from step going in rw e (awaiting_any (b ∷ []) n 0x80 0xbf s))

-- ---- the loop: what is to follow, and the rest of the name

unfoldable pub valid_of : Lead → List ℕ → Bool
valid_of single s = valid_from 0 0 0 s
valid_of ill s = false
valid_of (lead n lo hi) s = valid_from n lo hi s

-- ASCII bytes but NUL do not decide
pub plain-start : (s : List ℕ) (k : ℕ) → k ≤ length s → ((i : ℕ) → i < k → (0 < get_or s i 0) × (get_or s i 0 < 128)) → (no_nul s && well_formed s) ≡ valid_of (lead_of Single) (take (length s - k) (drop k s))
unfolding lead_of valid_of
plain-start s k h e = rw (take_all (length s - k) (drop k s) (omega (arith, length-drop k s))) (unfold valid_from well_formed awaiting in go s k h e)
  where
    go : (s : List ℕ) (k : ℕ) → k ≤ length s → ((i : ℕ) → i < k → (0 < get_or s i 0) × (get_or s i 0 < 128)) → valid_from 0 0 0 s ≡ valid_from 0 0 0 (drop k s)
    go s zero h e = refl
    go [] (suc k) h e = absurd (omega arith)
    go (b ∷ s) (suc k) h e =
        let f : (0 < b) × (b < 128) = e 0 (omega arith) in
        single_byte b s (λ z. omega (arith, f.0)) 0 0 0 refl (unfold up_to leads in rw (le-leb b 0x7f (omega (arith, f.1)))) ∙ go s k (omega arith) (λ i g. e (suc i) (omega arith))

module _ (b : ℕ) (s : List ℕ) (other : b ≡ 0 → ⊥) where
  follows-single : (r : Start) → lead_of r ≡ up_to leads b → Sized r → valid_of single (b ∷ s) ≡ valid_of (lead_of r) s
  unfolding lead_of Sized valid_of
  follows-single Single e z = single_byte b s other 0 0 0 refl (sym e)
  follows-single Ill e z = ill_byte b s other 0 0 0 refl (sym e)
  follows-single (More zero lo hi) e z = absurd (omega (arith, z.0))
  follows-single (More (suc m) lo hi) e z = lead_byte b s other 0 0 0 m lo hi refl (sym e)

  less-valid : (n : ℕ) → valid_from n 0x80 0xbf s ≡ valid_of (less_one (suc n)) s
  unfolding less_one valid_of valid_from awaiting
  less-valid zero = refl
  less-valid (suc n) = refl

  follows_more : (n lo hi : ℕ) (t : Bool) → (leb lo b && leb b hi) ≡ t → valid_from (suc n) lo hi (b ∷ s) ≡ valid_of (cond t (less_one (suc n)) ill) s
  follows_more n lo hi true e = inside_byte b s other n lo hi e ∙ less-valid n
  follows_more n lo hi false e = outside_byte b s other n lo hi e ∙ unfold valid_of in refl

  follows : (x r : Start) → Sized x → lead_of r ≡ follow_of (lead_of x) b → Sized r → valid_of (lead_of x) (b ∷ s) ≡ valid_of (lead_of r) s
  unfolding lead_of Sized follow_of
  follows Single r z e y = follows-single r e y
  follows Ill r z e y = unfold valid_of in ap (λ (l : Lead). valid_of l s) (sym e)
  follows (More zero lo hi) r z e y = absurd (omega (arith, z.0))
  follows (More (suc n) lo hi) r z e y = unfold valid_of in (follows_more n lo hi (leb lo b && leb b hi) refl ∙ ap (λ (l : Lead). valid_of l s) (sym e))

nul_of : (b : ℕ) (s : List ℕ) → b ≡ 0 → (x : Start) → valid_of (lead_of x) (b ∷ s) ≡ false
unfolding lead_of valid_of
nul_of b s e Single = nul_byte b s 0 0 0 e
nul_of b s e Ill = refl
nul_of b s e (More n lo hi) = nul_byte b s n lo hi e

none_of : (x : Start) → (x ≡ Single → ⊥) → Sized x → valid_of (lead_of x) [] ≡ false
unfolding lead_of valid_of valid_from no_nul well_formed_from awaiting is_ready Sized
none_of Single n y = absurd (n refl)
none_of Ill n y = refl
none_of (More zero lo hi) n y = absurd (omega (arith, y.0))
none_of (More (suc m) lo hi) n y = refl

module _ (name : List ℕ) (i : ℕ) (x : Start) {z : Bool} (inv : z ≡ valid_of (lead_of x) (drop i name)) where
  module _ (h : i < length name) where
    pub valid-nul : get_or name i 0 ≡ 0 → false ≡ z
    valid-nul e = sym (inv ∙ ap (valid_of (lead_of x)) (drop-cons name i 0 h) ∙ nul_of (get_or name i 0) (drop (suc i) name) e x)

    pub valid-next : (r : Start) → Sized x → (get_or name i 0 ≡ 0 → ⊥) → (lead_of r ≡ follow_of (lead_of x) (get_or name i 0)) × Sized r → z ≡ valid_of (lead_of r) (drop (i + 1) name)
    valid-next r y other e =
        inv
        ∙ ap (valid_of (lead_of x)) (drop-cons name i 0 h)
        ∙ follows (get_or name i 0) (drop (suc i) name) other x r y e.0 e.1
        ∙ ap (λ (k : ℕ). valid_of (lead_of r) (drop k name)) (sym (add-one i))

    pub valid-ill : (r : Start) → Sized x → (get_or name i 0 ≡ 0 → ⊥) → (lead_of r ≡ follow_of (lead_of x) (get_or name i 0)) × Sized r → r ≡ Ill → false ≡ z
    unfolding lead_of valid_of
    valid-ill r y other e f = sym (valid-next r y other e ∙ ap (λ (q : Start). valid_of (lead_of q) (drop (i + 1) name)) f)

  pub valid_single : length name ≤ i → x ≡ Single → true ≡ z
  unfolding lead_of valid_of valid_from no_nul well_formed_from awaiting is_ready
  valid_single h e = sym (inv ∙ rw (drop_all i name h, e))

  pub valid_other : length name ≤ i → (x ≡ Single → ⊥) → Sized x → false ≡ z
  valid_other h n y = sym (inv ∙ ap (valid_of (lead_of x)) (drop_all i name h) ∙ none_of x n y)

  pub valid-ended-ill : length name ≤ i → x ≡ Ill → Sized x → false ≡ z
  valid-ended-ill h e = valid_other h (λ f. let w : ◌≡◌ {A = ℕ} 0 1 = cc in omega arith)

  pub valid-unfinished : length name ≤ i → (m lo hi : ℕ) → x ≡ More m lo hi → Sized x → false ≡ z
  valid-unfinished h m lo hi e = valid_other h (λ f. let w : ◌≡◌ {A = ℕ} 0 1 = cc in omega arith)
