-- Laws of lists that the toolchain's library has not: stores one behind another, and parts of a list.
use Prim.Native.Nat.{ℕ, zero, suc, ◌+◌, ◌-◌, ◌≤◌, ◌<◌}
use mathlib.Core.Path.{◌≡◌, sym, ap, ◌∙◌}
use mathlib.Core.List.{List, [], ◌∷◌, ◌++◌}
use native.Mathlib.Nat.{add-zero, zero-add}
use native.Mathlib.Numerals.{add-one}
use native.Mathlib.Omega.{arith}
use lib.ListN.{length, get_or, take, drop, set, length-drop}
use lib.Seq.{sets, sets-eq, take_all, take-nil, take-suc, length-take-le}

-- stores of vs and then of ws behind them are stores of both
pub sets_append : (vs ws l : List ℕ) (i : ℕ) → sets l i (vs ++ ws) ≡ sets (sets l i vs) (i + length vs) ws
sets_append [] ws l i = ap (λ (k : ℕ). sets l k ws) (sym (add-zero i))
sets_append (v ∷ vs) ws l i = sets_append vs ws (set l i v) (suc i) ∙ ap (λ (k : ℕ). sets (sets (set l i v) (suc i) vs) k ws) (omega arith)

-- the same, of three lists as code has them
pub sets_more : (l xs ys : List ℕ) {l₁ l₂ : List ℕ} (i j : ℕ) → l₁ ≡ sets l i xs → l₂ ≡ sets l₁ j ys → j ≡ i + length xs → l₂ ≡ sets l i (xs ++ ys)
sets_more l xs ys i j a b e = b ∙ ap (λ (k : List ℕ). sets k j ys) a ∙ ap (λ (k : ℕ). sets (sets l i xs) k ys) e ∙ sym (sets_append xs ys l i)

-- stores from the start on
pub sets-front : (vs l : List ℕ) → length vs ≤ length l → sets l 0 vs ≡ vs ++ drop (length vs) l
sets-front vs l h = sets-eq vs l 0 (omega arith) ∙ ap (λ (k : ℕ). vs ++ drop k l) (zero-add (length vs))

-- one store more of a copy
pub sets-take : (d l : List ℕ) (i j : ℕ) → j < length d → set (sets l i (take j d)) (i + j) (get_or d j 0) ≡ sets l i (take (j + 1) d)
sets-take d l i j h =
    let e : length (take j d) ≡ j = length-take-le j d (omega arith) in
    ap (λ (k : ℕ). set (sets l i (take j d)) (i + k) (get_or d j 0)) (sym e)
    ∙ sym (sets_append (take j d) (get_or d j 0 ∷ []) l i)
    ∙ ap (λ (vs : List ℕ). sets l i vs) (sym (take-suc d j 0 h) ∙ ap (λ (k : ℕ). take k d) (sym (add-one j)))

-- the part of a slice from i to its end
pub part-all : (d : List ℕ) (i : ℕ) → take (length d - i) (drop i d) ≡ drop i d
part-all d i = take_all (length d - i) (drop i d) (omega (arith, length-drop i d))

-- a part that lies in the list
pub length_part : (l : List ℕ) (p n : ℕ) → p + n ≤ length l → length (take n (drop p l)) ≡ n
length_part l p n h = length-take-le n (drop p l) (omega (arith, length-drop p l))

pub drop-take : (m n k : ℕ) (l : List ℕ) → k ≡ m + n → drop m (take k l) ≡ take n (drop m l)
drop-take zero n k l e =
    let q : k ≡ n = omega arith in
    rw q
drop-take (suc m) n zero l e = absurd (omega arith)
drop-take (suc m) n (suc k) [] e = sym (take-nil n)
drop-take (suc m) n (suc k) (x ∷ l) e = drop-take m n k l (omega arith)
