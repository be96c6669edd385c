-- What holds of every answer of a reader, whatever the bytes: postconditions carried through the steps.
use Prim.Native.Nat.{ℕ, zero, suc, ◌+◌, ◌-◌}
use mathlib.Core.Path.{◌≡◌, refl}
use mathlib.Core.Bool.{Bool, true, false, cond}
use mathlib.Core.List.{List}
use mathlib.Core.Option.{Option, none, some}
use native.Mathlib.Omega.{arith}
use lib.ListN.{length, length-take}
use lib.Dec.{leb}
use borrow.Author.Tests.{leb-true}
use Rattle.refusal.specs.declared.Refusal.{Refusal}
use Rattle.format.specs.Bytes.{AllBytes, first_nul, total_width}
use Rattle.format.specs.Reading.{Answer, got, refused, then, bytes, skip, number, numbers, name_to, name, take_row, piece, moved, require, read_header}
use Rattle.format.proofs.Bytes.{bytes_take, bytes_drop}

abbrev pub Post : Type 0 → Type 1
Post A = A → ℕ → List ℕ → ℕ → ℕ → Type 0

-- what is got, if anything, meets Q
pub data Sure {A : Type 0} (Q : Post A) : Answer A → Type 0 where
  met : {a : A} {at : ℕ} {s : List ℕ} {r p : ℕ} → Q a at s r p → Sure Q (got a at s r p)
  nothing : {e : Refusal} → Sure Q (refused e)

pub sure_then : {A B : Type 0} {Q : Post A} {R : Post B} {x : Answer A} {k : A → ℕ → List ℕ → ℕ → ℕ → Answer B}
    → Sure Q x → ((a : A) (at : ℕ) (s : List ℕ) (r p : ℕ) → Q a at s r p → Sure R (k a at s r p)) → Sure R (then x k)
unfolding then
sure_then (met h) f = f _ _ _ _ _ h
sure_then nothing f = nothing

pub sure_cond : {A : Type 0} {Q : Post A} {x y : Answer A} (b : Bool) → (b ≡ true → Sure Q x) → Sure Q y → Sure Q (cond b x y)
sure_cond true h k = h refl
sure_cond false h k = k

-- a postcondition that does not speak of the place holds in the outer message too
pub sure_moved : {A : Type 0} {Q : A → List ℕ → ℕ → ℕ → Type 0} {x : Answer A} (n : ℕ) → Sure (λ a at s r p. Q a s r p) x → Sure (λ a at s r p. Q a s r p) (moved n x)
unfolding moved
sure_moved n (met h) = met h
sure_moved n nothing = nothing

module _ (v at : ℕ) (s : List ℕ) (r p : ℕ) where
  pub sure_require : (b : Bool) (e : Refusal) → Sure (λ u at' s' r' p'. (b ≡ true) × (r ≡ r') × (p ≡ p') × (AllBytes s → AllBytes s')) (require b e v at s r p)
  unfolding require
  sure_require b e = sure_cond b (λ h. met (h, refl, refl, λ k. k)) nothing

  pub sure_bytes : (n : ℕ) → Sure (λ b at' s' r' p'. (length b ≡ n) × (r ≡ r') × (p ≡ p') × (AllBytes s → AllBytes b × AllBytes s')) (bytes n v at s r p)
  unfolding bytes
  sure_bytes n =
      sure_cond (leb n (length s))
      (λ e. met (rw length-take (omega (arith, leb-true n (length s) e)), refl, refl, λ h. (bytes_take n s h, bytes_drop n s h)))
      nothing

  pub sure_number : (n : ℕ) → Sure (λ b at' s' r' p'. (r ≡ r') × (p ≡ p') × (AllBytes s → AllBytes s')) (number n v at s r p)
  unfolding number
  sure_number n = sure_then (sure_bytes n) (λ b at' s' r' p' h. met (h.1, h.2, λ k. (h.3 k).1))

  pub sure_numbers : (ws : List ℕ) → Sure (λ b at' s' r' p'. (r ≡ r') × (p ≡ p') × (AllBytes s → AllBytes s')) (numbers ws v at s r p)
  unfolding numbers
  sure_numbers ws = sure_then (sure_bytes (total_width ws)) (λ b at' s' r' p' h. met (h.1, h.2, λ k. (h.3 k).1))

  pub sure_skip : (n : ℕ) → Sure (λ b at' s' r' p'. (r ≡ r') × (p ≡ p') × (AllBytes s → AllBytes s')) (skip n v at s r p)
  unfolding skip
  sure_skip n = met (refl, refl, bytes_drop n s)

  pub sure_piece : (b : List ℕ) → Sure (λ x at' s' r' p'. (r ≡ r') × (p ≡ length b + p') × (AllBytes s → AllBytes s')) (piece b v at s r p)
  unfolding piece
  sure_piece b = sure_cond (leb (length b) p) (λ e. met {p = p - length b} (refl, omega (arith, leb-true (length b) p e), λ h. h)) nothing

  sure_name_to : (o : Option ℕ) → Sure (λ x at' s' r' p'. (r ≡ r') × (p ≡ p') × (AllBytes s → AllBytes x × AllBytes s')) (name_to o v at s r p)
  unfolding name_to
  sure_name_to none = nothing
  sure_name_to (some n) = met (refl, refl, λ h. (bytes_take n s h, bytes_drop (n + 1) s h))

  pub sure_name : Sure (λ x at' s' r' p'. (r ≡ r') × (p ≡ p') × (AllBytes s → AllBytes x × AllBytes s')) (name v at s r p)
  unfolding name
  sure_name = sure_name_to (first_nul s)

pub sure_header : (v at : ℕ) (s : List ℕ) (r p l : ℕ)
    → Sure (λ h at' s' r' p'. (r ≡ r') × (p ≡ p') × (AllBytes s → AllBytes s')) (read_header l v at s r p)
unfolding read_header
sure_header v at s r p l =
    sure_then (sure_bytes v at s r p 8) λ b a1 s1 r1 p1 h1.
    sure_then (sure_require v a1 s1 r1 p1 _ _) λ u a2 s2 r2 p2 h2.
    met (omega arith, omega arith, λ k. h2.3 (h1.3 k).1)

pub sure_row : (v at : ℕ) (s : List ℕ) (r p : ℕ) → Sure (λ b at' s' r' p'. (r ≡ suc r') × (p ≡ p') × (AllBytes s → AllBytes s')) (take_row v at s r p)
unfolding take_row
sure_row v at s zero p = nothing
sure_row v at s (suc r) p = met (refl, refl, λ h. h)
