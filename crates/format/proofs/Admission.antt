-- The admission of a table's type to comparison, for every call that waits behind it.
use Prim.Native.Nat.{ℕ}
use mathlib.Core.Path.{◌≡◌, refl, ap}
use mathlib.Core.Bool.{Bool, true, false, not}
use mathlib.Core.List.{List}
use mathlib.Core.Option.{Option, none, some}
use native.Mathlib.Omega.{arith}
use Rattle.refusal.specs.declared.Refusal.{Refusal}
use Rattle.refusal.specs.declared.Refusal.TheVariants.{ZeroSize, OutsideRecord, HeapHeld}
use Rattle.format.specs.Datatype.{Datatype, type_size_of}
use Rattle.format.specs.Outcome.{Outcome, gives, refuses, when_given, unless}
use Rattle.format.specs.Ownership.{outside, heap_held, admitting, admission}
use Rattle.format.specs.Slots.{first_zero, unless_zero}
use Rattle.format.specs.Table.{type_of}

-- what waits behind an admission meets its refusals
behind : {A B : Type 0} (n : A) (y : Outcome B) (e : Refusal) (z : Option ℕ) (o h : Bool)
    → unless_zero z (unless (not o) OutsideRecord (unless (not h) HeapHeld (gives n))) ≡ refuses e
    → unless_zero z (unless (not o) OutsideRecord (unless (not h) HeapHeld y)) ≡ refuses e
unfolding unless_zero unless
behind n y e (some c) o h q = let k : ZeroSize c ≡ e = cc in ap refuses k
behind n y e none true h q = let k : OutsideRecord ≡ e = cc in ap refuses k
behind n y e none false true q = let k : HeapHeld ≡ e = cc in ap refuses k
behind n y e none false false q = cc

module _ (table pool : List ℕ) where
  pub admission-refused : {A : Type 0} (x : Datatype → Outcome A) (e : Refusal) → admission table pool ≡ refuses e → when_given (type_of table pool) (λ t. admitting t (x t)) ≡ refuses e
  unfolding admission
  admission-refused x e = go (type_of table pool)
    where
      go : (o : Outcome Datatype) → when_given o (λ t. admitting t (gives (type_size_of t))) ≡ refuses e → when_given o (λ t. admitting t (x t)) ≡ refuses e
      go (gives t) h = unfold when_given admitting in behind (type_size_of t) (x t) e (first_zero t) (outside t) (heap_held t) (unfold when_given admitting in h)
      go (refuses f) h = unfold when_given in let k : f ≡ e = unfold when_given in cc in ap refuses k

-- and what is known where there is none
pub record AdmittedOf (table pool : List ℕ) (n : ℕ) : Type 0 where
  pub type : Datatype
  pub is : type_of table pool ≡ gives type
  pub sized : first_zero type ≡ none
  pub inside : outside type ≡ false
  pub plain : heap_held type ≡ false
  pub size_is : n ≡ type_size_of type

within : (t : Datatype) (n : ℕ) (z : Option ℕ) (o h : Bool) → unless_zero z (unless (not o) OutsideRecord (unless (not h) HeapHeld (gives (type_size_of t)))) ≡ gives n
    → (z ≡ none) × (o ≡ false) × (h ≡ false) × (n ≡ type_size_of t)
unfolding unless_zero unless
within t n (some c) o h q = (cc, cc, cc, cc)
within t n none true h q = (cc, cc, cc, cc)
within t n none false true q = (cc, cc, cc, cc)
within t n none false false q = (refl, refl, refl, cc)

pub admission-given : (table pool : List ℕ) (n : ℕ) → admission table pool ≡ gives n → AdmittedOf table pool n
unfolding admission
admission-given table pool n = go (type_of table pool) refl
  where
    go : (o : Outcome Datatype) → type_of table pool ≡ o → when_given o (λ t. admitting t (gives (type_size_of t))) ≡ gives n → AdmittedOf table pool n
    go (gives t) e h =
        let w = within t n (first_zero t) (outside t) (heap_held t) (unfold when_given admitting in h) in
        record { type = t; is = e; sized = w.0; inside = w.1; plain = w.2; size_is = w.3 }
    go (refuses f) e h = absurd (let k : ◌≡◌ {A = ℕ} 0 1 = unfold when_given in cc in omega arith)
