-- "15 or more is the Rust's reading": a byte's high four bits are at most 15, so every limit from 15 up gives the same reading.
use Prim.Native.Nat.{ℕ, zero, suc, ◌/◌, ◌≤◌, min}
use mathlib.Core.Path.{◌≡◌, refl, ap}
use mathlib.Core.Bool.{Bool, true, false}
use mathlib.Core.List.{List, [], ◌∷◌}
use native.Mathlib.Omega.{arith}
use lib.ListN.{length}
use borrow.Author.Tests.{le-leb}
use Rattle.format.specs.declared.Header.{Header}
use Rattle.format.specs.Bytes.{AllBytes}
use Rattle.format.specs.Bits.{high_bits}
use Rattle.format.specs.Datatype.{Datatype}
use Rattle.format.specs.Reading.{Answer, Reader, then, moved, inner, header_of_lem, read_header, read_members_of, read_variable, read_array, read_properties, sized, read_type_of, read_outcome_of, reading_into, reading}
use Rattle.format.specs.Table.{Kind, is_leaf, isCompound, isEnumeration, isVariableLength, isArray, isUnknown, max_rows, max_pool}
use Rattle.format.proofs.Sure.{Post, Sure, met, nothing, sure_require, sure_bytes, sure_number, sure_piece, sure_header, sure_row}
use Rattle.format.proofs.Faithful.{Reads-sound, sound-inner, sound-name, sound-type}

-- two readers give the same answer, whatever the bytes
abbrev Alike : {A : Type 0} → Reader A → Reader A → Type 0
Alike rd rd' = (v at : ℕ) (s : List ℕ) (r p : ℕ) → AllBytes s → rd v at s r p ≡ rd' v at s r p

-- a step, and what follows it
alike_then : {A B : Type 0} {Q : Post A} {x y : Answer A} {k k' : A → ℕ → List ℕ → ℕ → ℕ → Answer B}
    → x ≡ y → Sure Q x → ((a : A) (at : ℕ) (s : List ℕ) (r p : ℕ) → Q a at s r p → k a at s r p ≡ k' a at s r p) → then x k ≡ then y k'
unfolding then
alike_then {k = k} {k' = k'} e (met h) f = rw (← e) (f _ _ _ _ _ h)
alike_then {k = k} {k' = k'} e nothing f = rw (← e)

alike_first : {A B : Type 0} {x y : Answer A} (k : A → ℕ → List ℕ → ℕ → ℕ → Answer B) → x ≡ y → then x k ≡ then y k
alike_first k e = rw e

module _ (rd rd' : Reader Datatype) (sound : Reads-sound rd) (alike : Alike rd rd') where
  alike_inner : Alike (inner rd) (inner rd')
  unfolding inner
  alike_inner v at s r p b = ap (moved at) (alike (length s) 0 s r p b)

  alike_members : (ver size n : ℕ) → Alike (read_members_of rd ver size n) (read_members_of rd' ver size n)
  unfolding read_members_of
  alike_members ver size zero v at s r p b = refl
  alike_members ver size (suc n) v at s r p b =
      alike_then refl (sound-name ver v at s r p b) λ g a1 s1 r1 p1 h1.
      alike_then refl (sure_number v a1 s1 r1 p1 _) λ o a2 s2 r2 p2 h2.
      alike_then refl (sure_bytes v a2 s2 r2 p2 _) λ y a3 s3 r3 p3 h3.
      let rest = (h3.3 (h2.2 h1.2)).1 in
      alike_then (alike_inner v a3 s3 r3 p3 rest) (sound-inner rd sound v a3 s3 r3 p3 rest) λ t a4 s4 r4 p4 h4.
      alike_first _ (alike_members ver size n v a4 s4 r4 p4 h4.1)

  alike_variable : (h : Header) (c : Bool) → Alike (read_variable rd h c) (read_variable rd' h c)
  unfolding read_variable
  alike_variable h true v at s r p b =
      alike_then refl (sure_require v at s r p _ _) λ u a1 s1 r1 p1 h1.
      alike_then refl (sure_require v a1 s1 r1 p1 _ _) λ u a2 s2 r2 p2 h2.
      alike_first _ (alike_inner v a2 s2 r2 p2 (h2.3 (h1.3 b)))
  alike_variable h false v at s r p b = alike_first _ (alike_inner v at s r p b)

  alike_array : (ver : ℕ) → Alike (read_array rd ver) (read_array rd' ver)
  unfolding read_array
  alike_array ver v at s r p b =
      alike_then refl (sure_bytes v at s r p _) λ x a1 s1 r1 p1 h1.
      alike_then refl (sure_bytes v a1 s1 r1 p1 _) λ g a2 s2 r2 p2 h2.
      alike_then refl (sure_piece v a2 s2 r2 p2 _) λ w a3 s3 r3 p3 h3.
      alike_first _ (alike_inner v a3 s3 r3 p3 (h3.2 (h2.3 (h1.3 b).1).1))

  alike_properties : (h : Header) (c : Kind) → Alike (read_properties rd h c) (read_properties rd' h c)
  unfolding read_properties
  alike_properties h (is_leaf c) v at s r p b = refl
  alike_properties h isCompound v at s r p b =
      alike_then refl (sure_require v at s r p _ _) λ u a1 s1 r1 p1 h1.
      alike_then refl (sure_require v a1 s1 r1 p1 _ _) λ u a2 s2 r2 p2 h2.
      alike_first _ (alike_members _ _ _ v a2 s2 r2 p2 (h2.3 (h1.3 b)))
  alike_properties h isEnumeration v at s r p b = alike_first _ (alike_inner v at s r p b)
  alike_properties h isVariableLength v at s r p b = alike_variable h _ v at s r p b
  alike_properties h isArray v at s r p b =
      alike_then refl (sure_require v at s r p _ _) λ u a1 s1 r1 p1 h1.
      alike_then refl (sure_require v a1 s1 r1 p1 _ _) λ u a2 s2 r2 p2 h2.
      alike_array _ v a2 s2 r2 p2 (h2.3 (h1.3 b))
  alike_properties h isUnknown v at s r p b = refl

-- the version of a header
version_low : (b : List ℕ) → AllBytes b → (header_of_lem b).version ≤ 15
unfolding AllBytes header_of_lem high_bits
version_low [] h = omega arith
version_low (x ∷ b) h = omega (arith, h.0)

alike_header : (l : ℕ) → 15 ≤ l → Alike (read_header l) (read_header 15)
unfolding read_header
alike_header l hl v at s r p b =
    alike_then refl (sure_bytes v at s r p 8) λ x a1 s1 r1 p1 h1.
    let low = version_low x (h1.3 b).0 in
    rw (le-leb (header_of_lem x).version l (omega arith), le-leb (header_of_lem x).version 15 low)

alike_type : (l : ℕ) → 15 ≤ l → (n : ℕ) → Alike (read_type_of l n) (read_type_of 15 n)
unfolding read_type_of sized
alike_type l hl zero v at s r p b = refl
alike_type l hl (suc n) v at s r p b =
    alike_then refl (sure_row v at s r p) λ u a1 s1 r1 p1 h1.
    alike_then (alike_header l hl v a1 s1 r1 p1 (h1.2 b)) (sure_header v a1 s1 r1 p1 l) λ h a2 s2 r2 p2 h2.
    alike_first _ (alike_properties (read_type_of l n) (read_type_of 15 n) (sound-type l n) (alike_type l hl n) h _ v a2 s2 r2 p2 (h2.2 (h1.2 b)))

pub limit-from_15 : (l n m : ℕ) (s : List ℕ) → AllBytes s → 15 ≤ l → reading l n m s ≡ reading 15 n m s
unfolding reading reading_into
limit-from_15 l n m s b h = ap read_outcome_of (alike_type l h 32 (length s) 0 s (min (n / 16) max_rows) (min m max_pool) b)
