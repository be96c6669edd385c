-- Putting one piece of a text behind another, and the pieces: bytes, digits, names.
use Prim.Native.Nat.{ℕ, zero, suc, ◌+◌, ◌-◌, ◌/◌, ◌%◌, ◌<◌, ◌≤◌, min}
use mathlib.Core.Path.{◌≡◌, refl, sym, ap, ◌∙◌}
use mathlib.Core.Bool.{Bool, true, false}
use mathlib.Core.List.{List, [], ◌∷◌, ◌++◌, append_assoc, append-nil}
use mathlib.Core.Option.{some}
use native.Mathlib.Omega.{arith}
use native.Mathlib.Numerals.{add-one}
use lib.ListN.{length, get_or, take, length-append}
use lib.Seq.{sets, length-sets, set_out, take-suc, take_all}
use lib.Dec.{ltb}
use borrow.Author.Tests.{lt-ltb, le-ltb, ltb-true, ltb-false}
use Rattle.format.proofs.Lists.{sets_append}
use Rattle.refusal.specs.Refusal.{number_of, values_of, values_from}
use Rattle.refusal.specs.declared.Refusal.{Refusal}
use Rattle.refusal.specs.declared.Refusal.TheVariants.{BadTable, TooDeep, TooMany, Short, TooNew, BadClass, BadVersion, BadPadding, BadCharset, BadReferenceKind, PoolFull, ZeroSize, NoSuchEdition, Unstorable, NotInEdition, OutsideRecord, HeapHeld, WrongLength, Unmapped, SlotOutside, NoRoom}
use Rattle.refusal.specs.declared.RefusalValues.{RefusalValues}
use Rattle.listing.specs.Text.{decimal_in, decimal, spaced, hex_digit_of, hexadecimal, name_text, refusal_text}
use Rattle.listing.specs.Puts.{last, Puts, name_of}
use Rattle.std.specs.Borrow.{Bor}
use Rattle.std.specs.Prelude.{Option, Some, None, MatchOption, option_to_list, slice_get}

-- past the end nothing is stored
sets-past : (vs l : List ℕ) (i : ℕ) → length l ≤ i → sets l i vs ≡ l
sets-past [] l i h = refl
sets-past (v ∷ vs) l i h = ap (λ (k : List ℕ). sets k (suc i) vs) (set_out l i v h) ∙ sets-past vs l (suc i) (omega arith)

-- so a place may as well stop at `last`
sets_stop : (vs l : List ℕ) (i n : ℕ) → length l ≤ last → i ≡ min n last → sets l i vs ≡ sets l n vs
sets_stop vs l i n h e = go (ltb n last) refl
  where
    go : (b : Bool) → ltb n last ≡ b → sets l i vs ≡ sets l n vs
    go true t = let k : i ≡ n = omega (arith, ltb-true n last t) in ap (λ (j : ℕ). sets l j vs) k
    go false t = sets-past vs l i (omega (arith, ltb-false n last t)) ∙ sym (sets-past vs l n (omega (arith, ltb-false n last t)))

-- ---- one piece behind another

pub nothing_put : {at : ℕ} {out : List ℕ} → Puts [] at at out out
nothing_put {at = at} = record { behind = λ h. omega arith; written = λ h k. refl }

pub then-put : {s t : List ℕ} {at a r : ℕ} {out out₁ out₂ : List ℕ} → Puts s at a out out₁ → Puts t a r out₁ out₂ → Puts (s ++ t) at r out out₂
then-put {s = s} {t = t} {at = at} {a = a} {out = out} {out₁ = out₁} x y =
    record {
      behind = λ h. let i = x.behind h in let j = y.behind (omega arith) in omega (arith, length-append s t);
      written = λ h k.
          let i = x.behind h in
          let w = x.written h k in
          let l : length out₁ ≤ last = omega (arith, ap length w, length-sets out at s) in
          y.written (omega arith) l ∙ sets_stop t out₁ a (at + length s) l i ∙ ap (λ (o : List ℕ). sets o (at + length s) t) w ∙ sym (sets_append s t out at);
    }

pub put_as : {s t : List ℕ} {at r : ℕ} {out out' : List ℕ} → s ≡ t → Puts s at r out out' → Puts t at r out out'
put_as e x = rw e at x

-- ---- a byte

module _ (b at : ℕ) (out : List ℕ) where
  -- past the end it is not stored; the place behind it stops at `last`
  pub byte_past : length out ≤ at → {r : ℕ} → r ≡ min (at + 1) last → Puts (b ∷ []) at r out out
  byte_past h e = record { behind = λ i. e; written = λ i j. sym (set_out out at b h) }

-- ---- digits

module _ (n k at : ℕ) (out : List ℕ) where
  pub digits_none : k ≡ 0 → Puts (decimal_in k n) at at out out
  digits_none e = rw e (unfold decimal_in in nothing_put)

  module _ (h : k ≡ 0 → ⊥) where
    pub digits_one : {r : ℕ} {out' : List ℕ} → n < 10 → Puts ((48 + n) ∷ []) at r out out' → Puts (decimal_in k n) at r out out'
    digits_one {r = r} {out' = out'} g x = go k h
      where
        go : (k : ℕ) → (k ≡ 0 → ⊥) → Puts (decimal_in k n) at r out out'
        go zero z = absurd (z refl)
        go (suc j) z = unfold decimal_in in rw (lt-ltb n 10 g) x

    pub digits_more : {a r : ℕ} {out₁ out₂ : List ℕ} → 10 ≤ n → Puts (decimal_in (k - 1) (n / 10)) at a out out₁ → Puts ((48 + n % 10) ∷ []) a r out₁ out₂ → Puts (decimal_in k n) at r out out₂
    digits_more {a = a} {r = r} {out₁ = out₁} {out₂ = out₂} g x y = go k h x
      where
        go : (k : ℕ) → (k ≡ 0 → ⊥) → Puts (decimal_in (k - 1) (n / 10)) at a out out₁ → Puts (decimal_in k n) at r out out₂
        go zero z w = absurd (z refl)
        go (suc j) z w =
            let i : suc j - 1 ≡ j = omega arith in
            let v : Puts (decimal_in j (n / 10)) at a out out₁ = rw i at w in
            unfold decimal_in in rw (le-ltb n 10 g) (then-put v y)

-- ---- a piece for each number of a list

-- the pieces of the first k numbers stand
pub record PutFirst (f : List ℕ → List ℕ) (s : List ℕ) (at : ℕ) (out₀ : List ℕ) (k a : ℕ) (out : List ℕ) : Type 0 where
  pub long : length out ≡ length out₀
  pub within : k ≤ length s
  pub puts : Puts (f (take k s)) at a out₀ out

module _ {f : List ℕ → List ℕ} {s : List ℕ} {at : ℕ} {out₀ : List ℕ} where
  first-begun : f [] ≡ [] → PutFirst f s at out₀ 0 at out₀
  first-begun e = record { long = refl; within = omega arith; puts = rw e nothing_put }

  module _ {k a : ℕ} {out : List ℕ} (i : PutFirst f s at out₀ k a out) where
    first_next : ((x y : List ℕ) → f (x ++ y) ≡ f x ++ f y) → k < length s → {b : ℕ} {out₁ : List ℕ} → length out₁ ≡ length out → Puts (f (get_or s k 0 ∷ [])) a b out out₁ → PutFirst f s at out₀ (k + 1) b out₁
    first_next j h l x =
        record {
          long = l ∙ i.long;
          within = omega arith;
          puts = put_as (sym (j (take k s) (get_or s k 0 ∷ [])) ∙ ap f (sym (take-suc s k 0 h) ∙ ap (λ (m : ℕ). take m s) (sym (add-one k)))) (then-put i.puts x);
        }

    first_ended : length s ≤ k → Puts (f s) at a out₀ out
    first_ended h = put_as (ap f (take_all k s h)) i.puts

-- bytes as they are
abbrev pub Same : List ℕ → List ℕ
Same x = x

module _ {s : List ℕ} {at : ℕ} {out₀ : List ℕ} where
  pub text-begun : PutFirst Same s at out₀ 0 at out₀
  text-begun = first-begun refl

  module _ {k a : ℕ} {out : List ℕ} (i : PutFirst Same s at out₀ k a out) where
    pub text-next : k < length s → {b : ℕ} {out₁ : List ℕ} → length out₁ ≡ length out → Puts (get_or s k 0 ∷ []) a b out out₁ → PutFirst Same s at out₀ (k + 1) b out₁
    text-next h l x = first_next i (λ x y. refl) h l x

    pub text-ended : length s ≤ k → Puts s at a out₀ out
    text-ended h = first_ended i h

-- numbers, a space before each
spaced-joins : (x y : List ℕ) → spaced (x ++ y) ≡ spaced x ++ spaced y
unfolding spaced
spaced-joins [] y = refl
spaced-joins (n ∷ x) y = ap (λ (l : List ℕ). (32 ∷ decimal n) ++ l) (spaced-joins x y) ∙ sym (append_assoc (32 ∷ decimal n) (spaced x) (spaced y))

module _ {s : List ℕ} {at : ℕ} {out₀ : List ℕ} where
  pub spaced-begun : PutFirst spaced s at out₀ 0 at out₀
  unfolding spaced
  spaced-begun = first-begun refl

  module _ {k a : ℕ} {out : List ℕ} (i : PutFirst spaced s at out₀ k a out) where
    pub spaced-next : k < length s → {b c : ℕ} {out₁ out₂ : List ℕ} → length out₁ ≡ length out → length out₂ ≡ length out₁ → Puts (32 ∷ []) a b out out₁ → Puts (decimal_in 20 (get_or s k 0)) b c out₁ out₂
        → PutFirst spaced s at out₀ (k + 1) c out₂
    spaced-next h l m x y = first_next i spaced-joins h (m ∙ l) (unfold spaced decimal in put_as (sym (append-nil _)) (then-put x y))

    pub spaced-ended : length s ≤ k → Puts (spaced s) at a out₀ out
    spaced-ended h = first_ended i h

-- hexadecimal
pub hex_low : (d : ℕ) → d < 10 → 48 + d ≡ hex_digit_of d
unfolding hex_digit_of
hex_low d h = rw (lt-ltb d 10 h)

pub hex_high : (d : ℕ) → 10 ≤ d → 55 + d ≡ hex_digit_of d
unfolding hex_digit_of
hex_high d h = rw (le-ltb d 10 h)

hex_joins : (x y : List ℕ) → hexadecimal (x ++ y) ≡ hexadecimal x ++ hexadecimal y
unfolding hexadecimal
hex_joins [] y = refl
hex_joins (b ∷ x) y = ap (λ (l : List ℕ). hex_digit_of (b / 16) ∷ hex_digit_of (b % 16) ∷ l) (hex_joins x y)

module _ {s : List ℕ} {at : ℕ} {out₀ : List ℕ} where
  pub hex_begun : PutFirst hexadecimal s at out₀ 0 at out₀
  unfolding hexadecimal
  hex_begun = first-begun refl

  module _ {k a : ℕ} {out : List ℕ} (i : PutFirst hexadecimal s at out₀ k a out) where
    pub hex_next : k < length s → {b c d e : ℕ} {out₁ out₂ : List ℕ} → length out₁ ≡ length out → length out₂ ≡ length out₁
        → d ≡ hex_digit_of (get_or s k 0 / 16) → Puts (d ∷ []) a b out out₁ → e ≡ hex_digit_of (get_or s k 0 % 16) → Puts (e ∷ []) b c out₁ out₂ → PutFirst hexadecimal s at out₀ (k + 1) c out₂
    hex_next h {d = d} {e = e} l m f x g y =
        let q : d ∷ e ∷ [] ≡ hexadecimal (get_or s k 0 ∷ []) = unfold hexadecimal in rw (f, g) in
        first_next i hex_joins h (m ∙ l) (put_as q (then-put x y))

    pub hex_ended : length s ≤ k → Puts (hexadecimal s) at a out₀ out
    hex_ended h = first_ended i h

-- ---- a name

module _ (s : List ℕ) {at : ℕ} {out : List ℕ} where
  pub name_empty : {r : ℕ} {out' : List ℕ} → length s ≡ 0 → Puts (46 ∷ 10 ∷ []) at r out out' → Puts (name_text (some s) ++ (10 ∷ [])) at r out out'
  name_empty {r = r} {out' = out'} e x = go s e
    where
      go : (s : List ℕ) → length s ≡ 0 → Puts (name_text (some s) ++ (10 ∷ [])) at r out out'
      go [] l = unfold name_text in x
      go (b ∷ s) l = absurd (omega arith)

  pub name-some : {a r : ℕ} {out₁ out₂ : List ℕ} → (length s ≡ 0 → ⊥) → Puts (hexadecimal s) at a out out₁ → Puts (10 ∷ []) a r out₁ out₂ → Puts (name_text (some s) ++ (10 ∷ [])) at r out out₂
  name-some z x y = then-put (put_as (go s z) x) y
    where
      go : (s : List ℕ) → (length s ≡ 0 → ⊥) → hexadecimal s ≡ name_text (some s)
      go [] z = absurd (z refl)
      go (b ∷ s) z = unfold name_text in refl

module _ {name : Option (Bor (List ℕ))} {at a r : ℕ} {out out₁ out₂ : List ℕ} (x : Puts (32 ∷ []) at a out out₁) where
  pub nameless-put : name ≡ None → Puts (45 ∷ 10 ∷ []) a r out₁ out₂ → Puts ((32 ∷ name_text (name_of name)) ++ (10 ∷ [])) at r out out₂
  unfolding name_of name_text
  nameless-put e y = rw e (then-put x y)

  pub name-put : {p : Bor (List ℕ)} → name ≡ Some p → Puts (name_text (some p.now) ++ (10 ∷ [])) a r out₁ out₂ → Puts ((32 ∷ name_text (name_of name)) ++ (10 ∷ [])) at r out out₂
  unfolding name_of
  name-put e y = rw e (then-put x y)

-- ---- the numbers of a line, and of a refusal

pub numbers-put : (l : ℕ) (ns : List ℕ) {at a r : ℕ} {out out₁ out₂ : List ℕ} → Puts (decimal_in 20 l) at a out out₁ → Puts (spaced ns) a r out₁ out₂ → Puts (decimal l ++ spaced ns) at r out out₂
unfolding decimal
numbers-put l ns x y = then-put x y

few-values : (e : Refusal) → length (values_of e) ≤ 2
few-values BadTable = omega arith
few-values TooDeep = omega arith
few-values TooMany = omega arith
few-values (Short a b) = omega arith
few-values (TooNew v) = omega arith
few-values (BadClass c) = omega arith
few-values (BadVersion c v) = omega arith
few-values (BadPadding c) = omega arith
few-values (BadCharset c) = omega arith
few-values (BadReferenceKind c) = omega arith
few-values PoolFull = omega arith
few-values (ZeroSize c) = omega arith
few-values NoSuchEdition = omega arith
few-values Unstorable = omega arith
few-values NotInEdition = omega arith
few-values OutsideRecord = omega arith
few-values HeapHeld = omega arith
few-values WrongLength = omega arith
few-values Unmapped = omega arith
few-values SlotOutside = omega arith
few-values (NoRoom n) = omega arith

-- the values one by one
values-listed : (vs : List ℕ) → length vs ≤ 2 → option_to_list (slice_get vs 0) ++ option_to_list (slice_get vs 1) ≡ vs
values-listed [] h = refl
values-listed (a ∷ []) h = refl
values-listed (a ∷ b ∷ []) h = refl
values-listed (a ∷ b ∷ d ∷ vs) h = absurd (omega arith)

-- an Option as a slice
as_listed : (o : Option ℕ) {s : List ℕ} → MatchOption o (s ≡ []) (λ x. s ≡ x ∷ []) → s ≡ option_to_list o
as_listed None h = h
as_listed (Some x) h = h

module _ (e : Refusal) {v : RefusalValues} (q : v ≡ values_from e) where
  pub refusal_put : {m n a b c d r : ℕ} (f s : List ℕ) {out out₁ out₂ out₃ out₄ out₅ : List ℕ} → m ≡ number_of e → n ≡ m
      → Puts (114 ∷ 101 ∷ 102 ∷ 117 ∷ 115 ∷ 101 ∷ 100 ∷ []) 0 a out out₁ → Puts (spaced (n ∷ [])) a b out₁ out₂ → Puts (spaced f) b c out₂ out₃ → Puts (spaced s) c d out₃ out₄ → Puts (10 ∷ []) d r out₄ out₅
      → MatchOption v.first (f ≡ []) (λ x. f ≡ x ∷ []) → MatchOption v.second (s ≡ []) (λ x. s ≡ x ∷ []) → Puts (refusal_text e) 0 r out out₅
  unfolding refusal_text
  refusal_put {n = n} f s g h w x y z k i j =
      let l : f ++ s ≡ values_of e =
      rw (as_listed v.first i, as_listed v.second j, q) (values-listed (values_of e) (few-values e)) in
      let t : spaced (n ∷ []) ++ (spaced f ++ spaced s) ≡ spaced (number_of e ∷ values_of e) =
      ap (λ (u : List ℕ). spaced (n ∷ []) ++ u) (sym (spaced-joins f s)) ∙ sym (spaced-joins (n ∷ []) (f ++ s)) ∙ rw (l, h ∙ g) in
      then-put (then-put w (put_as t (then-put x (then-put y z)))) k
