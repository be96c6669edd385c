-- Laws of the slots outside a record, of products that stop, of 8-byte numbers and of the references' stores.
use Rattle.std.specs.Prelude.{Ok, Err}
use Rattle.std.specs.Int.{from_le_bytes}
use Prim.Native.Nat.{ℕ, zero, suc, ◌+◌, ◌-◌, ◌*◌, ◌/◌, ◌<◌, ◌≤◌, min}
use mathlib.Core.Path.{◌≡◌, refl, sym, ap, ◌∙◌}
use mathlib.Core.Bool.{Bool, true, false, ◌||◌}
use mathlib.Core.List.{List, [], ◌∷◌, ◌++◌, append-nil, append_assoc}
use native.Mathlib.Nat.{add-zero, suc-mul, mul-le-mul_right}
use native.Mathlib.Numerals.{add-one}
use native.Mathlib.Omega.{arith}
use lib.ListN.{length, get_or, take, drop, set, length-take, length-drop}
use lib.Seq.{sets, take_all}
use native.Mathlib.Decide.{dec_le}
use lib.Dec.{leb, ltb}
use Rattle.std.specs.List.{list_any}
use mir.Syntax.{w64}
use borrow.Author.Tests.{lt-ltb, le-ltb, le-leb, lt-leb}
use Rattle.refusal.specs.declared.Refusal.{Refusal}
use Rattle.refusal.specs.declared.Refusal.TheVariants.{SlotOutside, NoRoom}
use Rattle.format.specs.Bytes.{number_from}
use Rattle.format.specs.Outcome.{gives, refuses, unless, needed}
use Rattle.format.specs.Slots.{References, shifted, entries, some_outside_of, record_size_of, record_count_of, values_at, reference_places, referencing}
use Rattle.format.proofs.Outcomes.{answers-given, answers-refused}
use Rattle.format.proofs.Slots.{length-shifted, length-entries, length-places, length-values, value-at, get_d_shifted, slot-inside}
use Rattle.format.proofs.Lists.{sets_more, sets-front, sets-take}
use Rattle.references.specs.References.{references_values, ReferencesAre, places_after, values_after}

-- ---- a slot outside a record

outside_test : (n v : ℕ) → (ltb n 8 || ltb (n - 8) v) ≡ ltb n (v + 8)
outside_test n v = go (dec_le 8 n) (dec_le (v + 8) n)
  where
    go : Dec (8 ≤ n) → Dec (v + 8 ≤ n) → (ltb n 8 || ltb (n - 8) v) ≡ ltb n (v + 8)
    go (yes k) (yes h) = rw (le-ltb n 8 k, le-ltb (n - 8) v (omega (arith, h)), le-ltb n (v + 8) h)
    go (yes k) (no h) = rw (le-ltb n 8 k, lt-ltb (n - 8) v (omega (arith, h, k)), lt-ltb n (v + 8) (omega (arith, h)))
    go (no k) h = rw (lt-ltb n 8 (omega (arith, k)), lt-ltb n (v + 8) (omega (arith, k)))

pub outside-any : (n : ℕ) (ss : List ℕ) → list_any (λ v. ltb n 8 || ltb (n - 8) v) ss ≡ some_outside_of n ss
unfolding some_outside_of
outside-any n [] = refl
outside-any n (s ∷ ss) = rw (outside_test n s, outside-any n ss) refl

-- ---- numbers of 8 bytes

-- std's number of eight bytes is the definitions'
eight : (s : List ℕ) → length s ≡ 8 → from_le_bytes w64 s ≡ number_from s
unfolding number_from
eight (a ∷ b ∷ c ∷ d ∷ e ∷ f ∷ g ∷ h ∷ []) l = omega arith
eight [] l = absurd (omega arith)
eight (a ∷ []) l = absurd (omega arith)
eight (a ∷ b ∷ []) l = absurd (omega arith)
eight (a ∷ b ∷ c ∷ []) l = absurd (omega arith)
eight (a ∷ b ∷ c ∷ d ∷ []) l = absurd (omega arith)
eight (a ∷ b ∷ c ∷ d ∷ e ∷ []) l = absurd (omega arith)
eight (a ∷ b ∷ c ∷ d ∷ e ∷ f ∷ []) l = absurd (omega arith)
eight (a ∷ b ∷ c ∷ d ∷ e ∷ f ∷ g ∷ []) l = absurd (omega arith)
eight (a ∷ b ∷ c ∷ d ∷ e ∷ f ∷ g ∷ h ∷ x ∷ xs) l = absurd (omega arith)

-- that of the eight at a place, copied
pub eight-at : (s block : List ℕ) (place r : ℕ) → r ≡ from_le_bytes w64 s → s ≡ take (place + 8 - place) (drop place block) → place + 8 ≤ length block → r ≡ number_from (take 8 (drop place block))
eight-at s block place r q e h =
    let k : place + 8 - place ≡ 8 = omega arith in
    q ∙ rw (e, k) (eight (take 8 (drop place block)) (omega (arith, length-take 8 (drop place block), length-drop place block)))

-- ---- the references of one record

-- a slot of the record lies in the block, and its place does not wrap
module _ (start : ℕ) (ss : List ℕ) (m i : ℕ) (inside : (j : ℕ) → j < length ss → start + get_or ss j 0 + 8 ≤ m) (h : i < length ss) where
  pub slot_lies : start + get_or ss i 0 + 8 ≤ m
  slot_lies = inside i h

module _ (l l₁ : List ℕ) (at start : ℕ) (ss : List ℕ) (i : ℕ) (h : i < length ss) where
  pub place-more : l₁ ≡ sets l at (take i (shifted start ss)) → set l₁ (at + i) (start + get_or ss i 0) ≡ sets l at (take (i + 1) (shifted start ss))
  place-more e =
      ap (λ (x : List ℕ). set x (at + i) (start + get_or ss i 0)) e
      ∙ ap (λ (x : ℕ). set (sets l at (take i (shifted start ss))) (at + i) x) (sym (get_d_shifted start ss i h))
      ∙ sets-take (shifted start ss) l at i (omega (arith, length-shifted start ss))

  pub value-more : (block : List ℕ) (v : ℕ) → v ≡ number_from (take 8 (drop (start + get_or ss i 0) block))
      → l₁ ≡ sets l at (take i (values_at block (shifted start ss))) → set l₁ (at + i) v ≡ sets l at (take (i + 1) (values_at block (shifted start ss)))
  value-more block v g e =
      let k : i < length (shifted start ss) = omega (arith, length-shifted start ss) in
      let w : get_or (values_at block (shifted start ss)) i 0 ≡ v = value-at block (shifted start ss) i k ∙ ap (λ (x : ℕ). number_from (take 8 (drop x block))) (get_d_shifted start ss i h) ∙ sym g in
      ap (λ (x : List ℕ). set x (at + i) v) e
      ∙ ap (λ (x : ℕ). set (sets l at (take i (values_at block (shifted start ss)))) (at + i) x) (sym w)
      ∙ sets-take (values_at block (shifted start ss)) l at i (omega (arith, length-values block (shifted start ss)))

-- all of them
pub all-stored : (l l₁ m m₁ : List ℕ) (at start : ℕ) (ss block : List ℕ) (i : ℕ) → length ss ≤ i → l₁ ≡ sets l at (take i (shifted start ss))
    → m₁ ≡ sets m at (take i (values_at block (shifted start ss))) → (l₁ ≡ sets l at (shifted start ss)) × (m₁ ≡ sets m at (values_at block (shifted start ss)))
all-stored l l₁ m m₁ at start ss block i h e g = (
  e ∙ ap (sets l at) (take_all i (shifted start ss) (omega (arith, length-shifted start ss))),
  g ∙ ap (sets m at) (take_all i (values_at block (shifted start ss)) (omega (arith, length-values block (shifted start ss), length-shifted start ss))),
)

-- ---- the references of one record more

entries_snoc : (stride : ℕ) (ss : List ℕ) (k n : ℕ) → entries stride ss k (suc n) ≡ entries stride ss k n ++ shifted ((k + n) * stride) ss
unfolding entries
entries_snoc stride ss k zero = append-nil (shifted (k * stride) ss) ∙ rw add-zero
entries_snoc stride ss k (suc n) =
    let e : suc k + n ≡ k + suc n = omega arith in
    ap (λ (x : List ℕ). shifted (k * stride) ss ++ x) (entries_snoc stride ss (suc k) n ∙ ap (λ (x : ℕ). entries stride ss (suc k) n ++ shifted (x * stride) ss) e)
    ∙ sym (append_assoc (shifted (k * stride) ss) (entries stride ss (suc k) n) (shifted ((k + suc n) * stride) ss))

one_more : (stride : ℕ) (ss : List ℕ) (r : ℕ) → entries stride ss 0 r ++ shifted (r * stride) ss ≡ entries stride ss 0 (r + 1)
one_more stride ss r =
    let e : 0 + r ≡ r = omega arith in
    sym (rw add-one (entries_snoc stride ss 0 r ∙ ap (λ (x : ℕ). entries stride ss 0 r ++ shifted (x * stride) ss) e))

values_append : (block ps qs : List ℕ) → values_at block (ps ++ qs) ≡ values_at block ps ++ values_at block qs
unfolding values_at
values_append block [] qs = refl
values_append block (p ∷ ps) qs = ap (λ (x : List ℕ). number_from (take 8 (drop p block)) ∷ x) (values_append block ps qs)

module _ (l l₁ l₂ : List ℕ) (size : ℕ) (ss : List ℕ) (r : ℕ) where
  pub places-more : l₁ ≡ sets l 0 (entries size ss 0 r) → l₂ ≡ sets l₁ (r * length ss) (shifted (r * size) ss) → l₂ ≡ sets l 0 (entries size ss 0 (r + 1))
  places-more e g =
      sets_more l (entries size ss 0 r) (shifted (r * size) ss) 0 (r * length ss) e g (omega (arith, length-entries size ss 0 r))
      ∙ ap (sets l 0) (one_more size ss r)

  pub values-more : (block : List ℕ) → l₁ ≡ sets l 0 (values_at block (entries size ss 0 r)) → l₂ ≡ sets l₁ (r * length ss) (values_at block (shifted (r * size) ss))
      → l₂ ≡ sets l 0 (values_at block (entries size ss 0 (r + 1)))
  values-more block e g =
      sets_more l (values_at block (entries size ss 0 r)) (values_at block (shifted (r * size) ss)) 0 (r * length ss) e g (omega (arith, length-values block (entries size ss 0 r), length-entries size ss 0 r))
      ∙ ap (sets l 0) (sym (values_append block (entries size ss 0 r) (shifted (r * size) ss)) ∙ ap (values_at block) (one_more size ss r))

pub none-stored : (l m block ss : List ℕ) (size : ℕ) → (l ≡ sets l 0 (entries size ss 0 0)) × (m ≡ sets m 0 (values_at block (entries size ss 0 0)))
unfolding entries values_at
none-stored l m block ss size = (refl, refl)

pub all-records : (l l₁ m m₁ : List ℕ) (size : ℕ) (ss block : List ℕ) (r n : ℕ) → r ≡ n → l₁ ≡ sets l 0 (entries size ss 0 r)
    → m₁ ≡ sets m 0 (values_at block (entries size ss 0 r)) → (l₁ ≡ sets l 0 (entries size ss 0 n)) × (m₁ ≡ sets m 0 (values_at block (entries size ss 0 n)))
all-records l l₁ m m₁ size ss block r n h e g =
    (e ∙ ap (λ (x : ℕ). sets l 0 (entries size ss 0 x)) h, g ∙ ap (λ (x : ℕ). sets m 0 (values_at block (entries size ss 0 x))) h)

-- a record of several, and what it takes, within the whole
pub record_within : (r n s m : ℕ) → r < n → n * s ≤ m → r * s + s ≤ m
record_within r n s m h g = let p : suc r * s ≤ n * s = mul-le-mul_right s h in omega (arith, suc-mul r s)

-- the same of a slice whose length has not changed
pub record_room : (r n s m m' : ℕ) → r < n → n * s ≤ m → m' ≡ m → r * s + s ≤ m'
record_room r n s m m' h g e = omega (arith, record_within r n s m h g)

-- each slot of a record that lies in the block
pub slot_in_block : (r n size m : ℕ) (ss : List ℕ) → r < n → n * size ≤ m → some_outside_of size ss ≡ false → (i : ℕ) → i < length ss → r * size + get_or ss i 0 + 8 ≤ m
slot_in_block r n size m ss h g o i k = omega (arith, record_within r n size m h g, slot-inside size ss o i k)

-- ---- the ways out of `stored_object_references`

refused : (block ss p v : List ℕ) (n : ℕ) (e : Refusal) → referencing block n ss (min (length p) (length v)) ≡ refuses e → ReferencesAre block n ss (Err e) p p v v
unfolding places_after values_after
refused block ss p v n e h = record { answers = answers-refused (λ (x : References). length x.places) references_values _ e (Err e) h refl; places-are = rw h; values-are = rw h }

module _ (block ss p v : List ℕ) (n size : ℕ) (flag : Bool) (z : size ≡ record_size_of n) (o : flag ≡ some_outside_of size ss) where
  refuses-outside : flag ≡ true → referencing block n ss (min (length p) (length v)) ≡ refuses SlotOutside
  unfolding referencing unless
  refuses-outside f = let q : some_outside_of (record_size_of n) ss ≡ true = rw (← z) (sym o ∙ f) in rw q

  pub is-outside : flag ≡ true → ReferencesAre block n ss (Err SlotOutside) p p v v
  is-outside f = refused block ss p v n SlotOutside (refuses-outside f)

  module _ (f : flag ≡ false) (records wanted room : ℕ) (c : records ≡ length block / size) (w : wanted ≡ min (records * length ss) 18446744073709551615) (m : room ≡ min (length p) (length v)) where
    inside : some_outside_of (record_size_of n) ss ≡ false
    inside = rw (← z) (sym o ∙ f)

    counted : records ≡ record_count_of block n
    unfolding record_count_of
    counted = c ∙ rw z

    refuses-no_room : room < wanted → referencing block n ss (min (length p) (length v)) ≡ refuses (NoRoom wanted)
    unfolding referencing unless needed
    refuses-no_room g =
        let q : leb (record_count_of block n * length ss) (min (length p) (length v)) ≡ false = rw (← counted) (lt-leb (records * length ss) (min (length p) (length v)) (omega arith)) in
        rw (inside, q, w, counted)

    pub is_no_room : room < wanted → ReferencesAre block n ss (Err (NoRoom wanted)) p p v v
    is_no_room g = refused block ss p v n (NoRoom wanted) (refuses-no_room g)

    module _ (r : length p * 8 < 9223372036854775808) (g : wanted ≤ room) where
      enough : records * length ss ≤ room
      enough = omega arith

      found : References
      found = record { places = reference_places block n ss; values = values_at block (reference_places block n ss) }

      gives-found : referencing block n ss (min (length p) (length v)) ≡ gives found
      unfolding referencing unless found
      gives-found =
          let q : leb (record_count_of block n * length ss) (min (length p) (length v)) ≡ true = rw (← counted) (le-leb (records * length ss) (min (length p) (length v)) (omega (arith, enough))) in
          rw (inside, q)

      pub is_found : (p' v' : List ℕ) → p' ≡ sets p 0 (entries size ss 0 records) → v' ≡ sets v 0 (values_at block (entries size ss 0 records))
          → ReferencesAre block n ss (Ok wanted) p p' v v'
      unfolding places_after values_after found
      is_found p' v' e d =
          let ps : entries size ss 0 records ≡ reference_places block n ss = unfold reference_places in rw (z, counted) in
          let k : length (reference_places block n ss) ≡ records * length ss = length-places block n ss ∙ rw (← counted) in
          let vk : length (values_at block (reference_places block n ss)) ≡ records * length ss = length-values block (reference_places block n ss) ∙ k in
          let s : wanted ≡ length (reference_places block n ss) = omega (arith, enough) in
          record {
            answers = answers-given (λ (x : References). length x.places) references_values _ found (Ok wanted) gives-found (ap Ok s);
            places-are = rw gives-found (rw (← ps) e ∙ sets-front (reference_places block n ss) p (omega (arith, enough)));
            values-are = rw gives-found (rw (← ps) d ∙ sets-front (values_at block (reference_places block n ss)) v (omega (arith, enough)));
          }
