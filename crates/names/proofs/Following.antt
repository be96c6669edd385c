-- What is to follow a byte of a character.
use mathlib.Core.Path.{◌≡◌, ap, ◌∙◌}
use mathlib.Core.Bool.{and-false}
use Prim.Native.Nat.{ℕ, zero, suc, ◌-◌, ◌≤◌, ◌<◌}
use native.Mathlib.Omega.{arith}
use borrow.Author.Tests.{le-leb, lt-leb}
use lib.Dec.{leb}
use Rattle.format.specs.Utf8.{lead, up_to, leads}
use Rattle.names.specs.Pass.{lead_of, follow_of, less_one, Sized}
use Rattle.names.specs.declared.Start.{Start}
use Rattle.names.specs.declared.Start.TheVariants.{Single, Ill, More}

-- what is to follow x and then b is r
abbrev pub Goes : (x : Start) (b : ℕ) (r : Start) → Type 0
Goes x b r = (lead_of r ≡ follow_of (lead_of x) b) × Sized r

less-two : (n : ℕ) → 2 ≤ n → lead (n - 1) 0x80 0xbf ≡ less_one n
unfolding less_one
less-two zero h = absurd (omega arith)
less-two (suc zero) h = absurd (omega arith)
less-two (suc (suc n)) h = ap (λ (k : ℕ). lead k 0x80 0xbf) (omega arith)

pub more-one : (x : Start) {n lo hi : ℕ} → x ≡ More n lo hi → Sized x → 1 ≤ n
unfolding Sized
more-one x {n} e y = let k : (0 < n) × (n ≤ 3) = rw e at y in omega arith

module _ (x : Start) (b : ℕ) where
  pub single-goes : (r : Start) → x ≡ Single → (lead_of r ≡ up_to leads b) × Sized r → Goes x b r
  unfolding lead_of follow_of
  single-goes r e h = (h.0 ∙ rw e, h.1)

  pub ill-goes : x ≡ Ill → Goes x b Ill
  unfolding lead_of follow_of Sized
  ill-goes e = (rw e, tt)

  module _ {n lo hi : ℕ} (e : x ≡ More n lo hi) where
    pub low-goes : b < lo → Goes x b Ill
    unfolding lead_of follow_of Sized
    low-goes h = (rw (e, lt-leb lo b h), tt)

    pub high-goes : hi < b → Goes x b Ill
    unfolding lead_of follow_of Sized
    high-goes h = (rw (e, lt-leb b hi h, and-false (leb lo b)), tt)

    module _ (l : lo ≤ b) (h : b ≤ hi) where
      pub last-goes : n ≡ 1 → Goes x b Single
      unfolding lead_of follow_of less_one Sized
      last-goes k = (rw (e, k, le-leb lo b l, le-leb b hi h), tt)

      pub on-goes : Sized x → (n ≡ 1 → ⊥) → Goes x b (More (n - 1) 0x80 0xbf)
      unfolding lead_of follow_of less_one Sized
      on-goes y k =
          let z : (0 < n) × (n ≤ 3) = rw e at y in
          (rw (e, le-leb lo b l, le-leb b hi h) (less-two n (omega arith)), (omega arith, omega arith))
