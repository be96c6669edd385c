-- The computed test for what can be stored, as facts.
use Prim.Native.Nat.{ℕ, zero, suc, ◌^◌, ◌<◌}
use mathlib.Core.Path.{◌≡◌, refl}
use mathlib.Core.Logic.{◌⊎◌, inl, inr}
use mathlib.Core.Bool.{Bool, true, false, cond, ◌&&◌, false≢true}
use mathlib.Core.List.{List, [], ◌∷◌}
use borrow.Author.Tests.{ltb-true, leb-true, eqb-true}
use lib.Dec.{ltb, leb, eqb}
use native.Mathlib.Omega.{arith}
use Rattle.format.specs.Datatype.{Leaf, fixed_point, floating_point, time, string, bit_field, opaque, reference, Datatype, leaf, compound, enumeration, variable_length, array, Members, no_members, member, EnumMember}
use Rattle.format.specs.Message.{all, no_nul, fit, storable_enum, storable_variable, storable_leaf, storable, storable_members, carried, carried_members, offset_width}
use Rattle.format.specs.Table.{all_below}
use Rattle.format.proofs.Booleans.{and_both, or_either}
use Rattle.format.proofs.Facts.{Fit, NoNul, AllBelow, StorableLeaf, Storable, StorableMembers, StorableEnum, StorableVariable}

unfoldable pub Facts : List Bool → Type 0
Facts [] = Unit {0}
Facts (b ∷ bs) = (b ≡ true) × Facts bs

pub all_facts : (bs : List Bool) → all bs ≡ true → Facts bs
unfolding all Facts
all_facts [] h = tt
all_facts (b ∷ bs) h = let e = and_both b (all bs) h in (e.0, all_facts bs e.1)

pub no_nul_fact : (b : List ℕ) → no_nul b ≡ true → NoNul b
unfolding no_nul NoNul
no_nul_fact [] h = tt
no_nul_fact (b ∷ s) h = let e = and_both (ltb 0 b) (no_nul s) h in (ltb-true 0 b e.0, no_nul_fact s e.1)

fit_fact : (ws ns : List ℕ) → fit ws ns ≡ true → Fit ws ns
unfolding fit Fit
fit_fact [] [] h = tt
fit_fact [] (n ∷ ns) h = absurd (false≢true h)
fit_fact (w ∷ ws) [] h = absurd (false≢true h)
fit_fact (w ∷ ws) (n ∷ ns) h = let e = and_both (ltb n (256 ^ w)) (fit ws ns) h in (ltb-true n (256 ^ w) e.0, fit_fact ws ns e.1)

pub below_fact : (k : ℕ) (ds : List ℕ) → all_below k ds ≡ true → AllBelow k ds
unfolding all_below AllBelow
below_fact k [] h = tt
below_fact k (d ∷ ds) h = let e = and_both (ltb d k) (all_below k ds) h in (ltb-true d k e.0, below_fact k ds e.1)

enum_fact : (n : ℕ) (ms : List EnumMember) → storable_enum n ms ≡ true → StorableEnum n ms
unfolding storable_enum StorableEnum Facts
enum_fact n [] h = tt
enum_fact n (m ∷ ms) h = let f = all_facts _ h in (no_nul_fact m.name f.0, f.1.0, eqb-true _ _ f.1.1.0, enum_fact n ms f.1.1.1.0)

pred_of : (a k : ℕ) → 0 < a → a < suc k → (x : ℕ) × (a ≡ suc x) × (x < k)
pred_of zero k h l = absurd (omega arith)
pred_of (suc x) k h l = (x, refl, omega arith)

variable_string : (i a c : ℕ) → (eqb i 1 && ((ltb 0 a && ltb a 4) && (ltb 0 c && ltb c 3))) ≡ true → StorableVariable i a c
unfolding StorableVariable
variable_string i a c h =
    let e = and_both (eqb i 1) _ h in
    let f = and_both (ltb 0 a && ltb a 4) _ e.1 in
    let g = and_both (ltb 0 a) _ f.0 in
    let k = and_both (ltb 0 c) _ f.1 in
    let x = pred_of a 3 (ltb-true 0 a g.0) (ltb-true a 4 g.1) in
    let y = pred_of c 2 (ltb-true 0 c k.0) (ltb-true c 3 k.1) in
    inr (x.0, y.0, eqb-true i 1 e.0, x.1, y.1, x.2, y.2)

variable_sequence : (i a c : ℕ) → (eqb i 0 && (eqb a 0 && eqb c 0)) ≡ true → StorableVariable i a c
unfolding StorableVariable
variable_sequence i a c h =
    let e = and_both (eqb i 0) _ h in
    let f = and_both (eqb a 0) _ e.1 in
    inl (eqb-true i 0 e.0, eqb-true a 0 f.0, eqb-true c 0 f.1)

variable_fact : (i a c : ℕ) → storable_variable i a c ≡ true → StorableVariable i a c
unfolding storable_variable
variable_fact i a c h = either (or_either _ _ h)
  where
    either : ((eqb i 0 && (eqb a 0 && eqb c 0)) ≡ true) ⊎ ((eqb i 1 && ((ltb 0 a && ltb a 4) && (ltb 0 c && ltb c 3))) ≡ true) → StorableVariable i a c
    either (inl k) = variable_sequence i a c k
    either (inr k) = variable_string i a c k

ruleset facts = (ltb-true, leb-true, fit_fact, below_fact, enum_fact, no_nul_fact, variable_fact)

-- an offset that fits its width fits in every edition
offset_fact : (e n o : ℕ) → o < 256 ^ offset_width 3 n → o < 256 ^ offset_width e n
unfolding offset_width
offset_fact e n o = go (ltb e 3) (leb n 255) (leb n 65535)
  where
    go : (a b c : Bool) → o < 256 ^ cond b 1 (cond c 2 4) → o < 256 ^ cond a 4 (cond b 1 (cond c 2 4))
    go true true c h = omega arith
    go true false true h = omega arith
    go true false false h = h
    go false b c h = h

leaf_fact : (n : ℕ) (x : Leaf) → storable_leaf n x ≡ true → StorableLeaf n x
unfolding storable_leaf StorableLeaf Facts
leaf_fact n (fixed_point o s f q) h = let x = all_facts _ h in search facts
leaf_fact n (floating_point o y) h = let x = all_facts _ h in search facts
leaf_fact n (time o q) h = let x = all_facts _ h in search facts
leaf_fact n (string a c) h = let x = all_facts _ h in search facts
leaf_fact n (bit_field o f q) h = let x = all_facts _ h in search facts
leaf_fact n (opaque g) h = ltb-true _ _ h
leaf_fact n (reference k) h = ltb-true _ _ h

mutual
  unfolding storable Storable Facts carried

  pub storable_fact : (e : ℕ) (t : Datatype) → storable t ≡ true → carried e t ≡ true → Storable e t
  storable_fact e (leaf n x) h k = let f = all_facts _ h in (ltb-true 0 n f.0, ltb-true n (2 ^ 32) f.1.0, leaf_fact n x f.1.1.0)
  storable_fact e (compound n ms) h k =
      let x = all_facts _ h in
      let y : storable_members n ms ≡ true → StorableMembers e n ms = λ q. storable-members e n ms q k in
      search (facts, y)
  storable_fact e (enumeration n t ms) h k =
      let x = all_facts _ h in
      let y : storable t ≡ true → Storable e t = λ q. storable_fact e t q k in
      search (facts, y)
  storable_fact e (variable_length i a c t) h k =
      let x = all_facts _ h in
      let y : storable t ≡ true → Storable e t = λ q. storable_fact e t q k in
      search (facts, y)
  storable_fact e (array ds t) h k =
      let x = all_facts _ h in
      let z = and_both (ltb 1 e) (carried e t) k in
      let y : storable t ≡ true → Storable e t = λ q. storable_fact e t q z.1 in
      search (facts, y)

  pub storable-members : (e n : ℕ) (ms : Members) → storable_members n ms ≡ true → carried_members e ms ≡ true → StorableMembers e n ms
  storable-members e n no_members h k = tt
  storable-members e n (member b o t ms) h k =
      let x = all_facts _ h in
      let w = and_both (carried e t) (carried_members e ms) k in
      let y : storable t ≡ true → Storable e t = λ q. storable_fact e t q w.0 in
      let z : storable_members n ms ≡ true → StorableMembers e n ms = λ q. storable-members e n ms q w.1 in
      let o-fits = offset_fact e n o in
      search (facts, o-fits, y, z)
