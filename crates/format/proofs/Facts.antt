-- What can be stored, as facts. proofs/Storable.antt gets them from the computed test.
use Prim.Native.Nat.{ℕ, suc, ◌^◌, ◌<◌, ◌≤◌}
use mathlib.Core.Path.{◌≡◌}
use mathlib.Core.Logic.{◌⊎◌}
use mathlib.Core.Bool.{true}
use mathlib.Core.List.{List, [], ◌∷◌}
use lib.ListN.{length}
use Rattle.format.specs.Utf8.{well_formed}
use Rattle.format.specs.Datatype.{float_numbers, Leaf, fixed_point, floating_point, time, string, bit_field, opaque, reference, Datatype, leaf, compound, enumeration, variable_length, array, Members, no_members, member, EnumMember, type_size_of, member_count_of}
use Rattle.format.specs.Message.{bit_widths, float_widths, time_widths, offset_width}

-- each number fits its width
unfoldable pub Fit : (widths numbers : List ℕ) → Type 0
Fit [] [] = Unit {0}
Fit [] (n ∷ ns) = ⊥
Fit (w ∷ ws) [] = ⊥
Fit (w ∷ ws) (n ∷ ns) = (n < 256 ^ w) × Fit ws ns

unfoldable pub NoNul : List ℕ → Type 0
NoNul [] = Unit {0}
NoNul (b ∷ s) = (0 < b) × NoNul s

unfoldable pub AllBelow : ℕ → List ℕ → Type 0
AllBelow k [] = Unit {0}
AllBelow k (d ∷ ds) = (d < k) × AllBelow k ds

-- names valid and without NUL, values of n bytes
unfoldable pub StorableEnum : ℕ → List EnumMember → Type 0
StorableEnum n [] = Unit {0}
StorableEnum n (m ∷ ms) = NoNul m.name × (well_formed m.name ≡ true) × (length m.value ≡ n) × StorableEnum n ms

-- a sequence without padding and charset, or a string with both
unfoldable pub StorableVariable : (is_string_of padding charset : ℕ) → Type 0
StorableVariable i a c = ((i ≡ 0) × (a ≡ 0) × (c ≡ 0)) ⊎ ((x : ℕ) × (y : ℕ) × (i ≡ 1) × (a ≡ suc x) × (c ≡ suc y) × (x < 3) × (y < 2))

unfoldable pub StorableLeaf : (size : ℕ) → Leaf → Type 0
StorableLeaf n (fixed_point o s f q) = (o < 2) × (s < 2) × Fit bit_widths (f ∷ q ∷ [])
StorableLeaf n (floating_point o y) = (n ≤ 536870911) × (o < 3) × Fit float_widths (float_numbers y)
StorableLeaf n (time o q) = (o < 2) × Fit time_widths (q ∷ [])
StorableLeaf n (string a c) = (a < 3) × (c < 2)
StorableLeaf n (bit_field o f q) = (o < 2) × Fit bit_widths (f ∷ q ∷ [])
StorableLeaf n (opaque g) = length g < 256
StorableLeaf n (reference k) = k < 2

unfoldable mutual
  -- storable, and carried by an edition
  pub Storable : (edition : ℕ) → Datatype → Type 0
  Storable e (leaf n x) = (0 < n) × (n < 2 ^ 32) × StorableLeaf n x
  Storable e (compound n ms) = (0 < n) × (n < 2 ^ 32) × (member_count_of ms < 2 ^ 16) × StorableMembers e n ms
  Storable e (enumeration n t ms) = (0 < n) × (n < 2 ^ 32) × (length ms < 2 ^ 16) × StorableEnum (type_size_of t) ms × Storable e t
  Storable e (variable_length i a c t) = StorableVariable i a c × Storable e t
  Storable e (array ds t) = (1 < e) × (length ds < 256) × (0 < type_size_of (array ds t)) × AllBelow (2 ^ 32) ds × Storable e t

  pub StorableMembers : (edition size : ℕ) → Members → Type 0
  StorableMembers e n no_members = Unit {0}
  StorableMembers e n (member b o t ms) = NoNul b × (well_formed b ≡ true) × (o < 256 ^ offset_width e n) × Storable e t × StorableMembers e n ms
