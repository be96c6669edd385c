-- The line of a refusal is what `Display` of a refusal prints, and the line's end.
use Prim.Native.Nat.{ℕ, zero, suc, ◌+◌, ◌/◌, ◌%◌, ◌^◌, ◌<◌}
use mathlib.Core.Path.{◌≡◌, refl, sym, ap, ◌∙◌}
use mathlib.Core.Bool.{Bool, true, false}
use mathlib.Core.List.{List, [], ◌∷◌, ◌++◌}
use native.Mathlib.Omega.{arith}
use lib.ListN.{get_or}
use lib.Dec.{ltb}
use borrow.Author.Tests.{lt-ltb, le-ltb, ltb-true, ltb-false}
use Rattle.std.specs.Fmt.{decimal as displayed}
use Rattle.std.proofs.lemmas.Fmt.{decimal_digit, decimal_step}
use Rattle.refusal.specs.Refusal.{number_of, values_of, spaced as displayed_spaced, refused_text}
use Rattle.refusal.specs.declared.Refusal.{Refusal}
use Rattle.refusal.specs.declared.Refusal.TheVariants.{BadTable, TooDeep, TooMany, Short, TooNew, BadClass, BadVersion, BadPadding, BadCharset, BadReferenceKind, PoolFull, ZeroSize, NoSuchEdition, Unstorable, NotInEdition, OutsideRecord, HeapHeld, WrongLength, Unmapped, SlotOutside, NoRoom}
use Rattle.listing.specs.Text.{decimal_in, decimal, spaced, refusal_text}

-- a number of so many digits at most
digits-displayed : (j n : ℕ) → n < 10 ^ suc j → n < 18446744073709551616 → decimal_in (suc j) n ≡ displayed n
unfolding decimal_in
digits-displayed zero n p q = rw (lt-ltb n 10 (omega arith)) (sym (decimal_digit n (omega arith)))
digits-displayed (suc j) n p q = go (digits-displayed j (n / 10) (omega arith) (omega arith)) (ltb n 10) refl
  where
    go : decimal_in (suc j) (n / 10) ≡ displayed (n / 10) → (b : Bool) → ltb n 10 ≡ b → decimal_in (suc (suc j)) n ≡ displayed n
    go r true t = let l = ltb-true n 10 t in rw (lt-ltb n 10 l) (sym (decimal_digit n l))
    go r false t =
        let l = ltb-false n 10 t in
        rw (le-ltb n 10 l) (ap (λ (s : List ℕ). s ++ ((48 + n % 10) ∷ [])) r ∙ sym (decimal_step n l q))

pub decimal-displayed : (n : ℕ) → n < 18446744073709551616 → decimal n ≡ displayed n
unfolding decimal
decimal-displayed n h = digits-displayed 19 n (omega arith) h

pub spaced-displayed : (ns : List ℕ) → ((i : ℕ) → get_or ns i 0 < 18446744073709551616) → spaced ns ≡ displayed_spaced ns
unfolding spaced Rattle.refusal.specs.Refusal.spaced
spaced-displayed [] h = refl
spaced-displayed (n ∷ ns) h = rw (decimal-displayed n (h 0), spaced-displayed ns (λ i. h (suc i)))

small-number : (e : Refusal) → number_of e < 18446744073709551616
small-number BadTable = omega arith
small-number TooDeep = omega arith
small-number TooMany = omega arith
small-number (Short a b) = omega arith
small-number (TooNew v) = omega arith
small-number (BadClass c) = omega arith
small-number (BadVersion c v) = omega arith
small-number (BadPadding c) = omega arith
small-number (BadCharset c) = omega arith
small-number (BadReferenceKind c) = omega arith
small-number PoolFull = omega arith
small-number (ZeroSize c) = omega arith
small-number NoSuchEdition = omega arith
small-number Unstorable = omega arith
small-number NotInEdition = omega arith
small-number OutsideRecord = omega arith
small-number HeapHeld = omega arith
small-number WrongLength = omega arith
small-number Unmapped = omega arith
small-number SlotOutside = omega arith
small-number (NoRoom n) = omega arith

-- of a refusal whose values have 64 bits, as those of every Refusal have
pub refusal-as-displayed : (e : Refusal) → ((i : ℕ) → get_or (values_of e) i 0 < 18446744073709551616) → refusal_text e ≡ refused_text e ++ (10 ∷ [])
unfolding refusal_text refused_text
refusal-as-displayed e h = ap (λ (l : List ℕ). ((114 ∷ 101 ∷ 102 ∷ 117 ∷ 115 ∷ 101 ∷ 100 ∷ []) ++ l) ++ (10 ∷ [])) (spaced-displayed (number_of e ∷ values_of e) each)
  where
    each : (i : ℕ) → get_or (number_of e ∷ values_of e) i 0 < 18446744073709551616
    each zero = small-number e
    each (suc i) = h i
