-- Stores in the pool.
use mathlib.Core.Path.{◌≡◌, refl, ap, ◌∙◌}
use mathlib.Core.List.{List, [], ◌∷◌, append_assoc}
use Prim.Native.Nat.{ℕ, zero, suc, ◌+◌, ◌≤◌}
use native.Mathlib.Omega.{arith}
use borrow.Rule.Slice.PartMut.{put_mid}
use lib.ListN.{length}
use lib.Seq.{sets, length-sets, sets-eq, drop-drop}
use Rattle.format.specs.Utf8.{replacement, at_end}
use Rattle.names.specs.Names.{Stored}
use Rattle.names.specs.Pass.{carrying, state_of}
use Rattle.names.specs.declared.Carry.{Carry}

-- the pool p, then q
module _ (p q : List ℕ) (pos : ℕ) where
  module _ (x : List ℕ) (r : ℕ) where
    all_in : pos + length x ≤ length p → r ≡ pos + length x → q ≡ sets p pos x → Stored p q pos x r
    all_in h k e = record { same = ap length e ∙ length-sets p pos x; fits = λ g. (k, e); past = λ g. absurd (omega arith) }

    -- the part from pos on is copied
    pub all_copied : (n : ℕ) (y : List ℕ) → y ≡ x → n ≡ length x → pos + length x ≤ length p → r ≡ pos + length x → q ≡ put_mid pos n p y → Stored p q pos x r
    all_copied n y e m h k w = all_in h k (w ∙ rw (e, m, sets-eq x p pos h, append_assoc, drop-drop (length x) pos p) refl)

  module _ (st : Carry) where
    at_end_none : st.count ≡ 0 → at_end (state_of st) ≡ []
    unfolding at_end state_of carrying
    at_end_none h = rw h

    at_end_some : (n : ℕ) → (n ≡ 0 → ⊥) → at_end (carrying n (st.first ∷ st.second ∷ st.third ∷ []) st.more st.low st.high) ≡ replacement
    unfolding at_end carrying
    at_end_some zero h = absurd (h refl)
    at_end_some (suc n) h = refl

    pub closed_none : st.count ≡ 0 → Stored p p pos (at_end (state_of st)) pos
    closed_none h = rw (at_end_none h) (record { same = refl; fits = λ g. (omega arith, refl); past = λ g. omega arith })

    pub closed_some : (r : ℕ) → (st.count ≡ 0 → ⊥) → Stored p q pos (0xef ∷ 0xbf ∷ 0xbd ∷ []) r → Stored p q pos (at_end (state_of st)) r
    unfolding state_of
    closed_some r h s = rw (at_end_some st.count h) (unfold replacement in s)
