-- Slots: their number, their greatest end, the four grounds of refusal 19, and the references of a block.
use Prim.Native.Nat.{ℕ, zero, suc, ◌+◌, ◌*◌, ◌/◌, ◌<◌, ◌≤◌, min, max}
use mathlib.Core.Path.{◌≡◌, refl, sym, ap, ◌∙◌}
use mathlib.Core.Logic.{◌⊎◌, inl, inr, ⊎_elim}
use mathlib.Core.Bool.{Bool, true, false, cond, not, ◌&&◌, ◌||◌, or-true}
use mathlib.Core.List.Memᴰ
use mathlib.Core.List.{List, [], ◌∷◌, ◌++◌, Memᴰ}
use mathlib.Core.Option.{Option, none, some}
use native.Mathlib.Nat.{add-mul, suc-mul, zero-mul, mul-zero, div-mul-le_self}
use native.Mathlib.Omega.{arith}
use lib.ListN.{length, take, drop, get_or, length-append, get_or-append}
use lib.Seq.{get_or-append-add}
use lib.Dec.{ltb}
use borrow.Author.Tests.{ltb-true, ltb-false, lt-ltb, le-ltb}
use Rattle.format.specs.Bytes.{number_from}
use Rattle.format.specs.Datatype.{Leaf, fixed_point, floating_point, time, string, bit_field, opaque, reference, refers, Datatype, leaf, compound, enumeration, variable_length, array, Members, no_members, member, type_size_of, product}
use Rattle.format.specs.Sizes.{holds_object_address, member_holds_object_address}
use Rattle.format.specs.Slots.{is_slot, shifted, entries, slots, member_slots, slot_count, member_slot_count, last_end, moved_end_of, slot_end_of, member_slot_end, holds_other_reference, member_holds_other_reference, holds_hidden_reference, member_holds_hidden_reference, some_outside_of, unmapped, or_else, zero_class, first_zero, member_first_zero, record_size_of, record_count_of, values_at, reference_places}
use Rattle.format.proofs.Booleans.{or_either, or_neither, or_second, same_test}

pub length-shifted : (o : ℕ) (ss : List ℕ) → length (shifted o ss) ≡ length ss
unfolding shifted
length-shifted o [] = refl
length-shifted o (s ∷ ss) = ap suc (length-shifted o ss)

pub length-entries : (stride : ℕ) (ss : List ℕ) (k n : ℕ) → length (entries stride ss k n) ≡ n * length ss
unfolding entries
length-entries stride ss k zero = sym (zero-mul (length ss))
length-entries stride ss k (suc n) =
    rw (length-append, length-shifted, length-entries stride ss (suc k) n, suc-mul) (omega arith)

one_or_none : (b : Bool) → length {A = ℕ} (cond b (0 ∷ []) []) ≡ cond b 1 0
one_or_none true = refl
one_or_none false = refl

-- the slots are as many as the count says
mutual
  unfolding slots slot_count

  pub length-slots : (t : Datatype) → length (slots t) ≡ slot_count t
  length-slots (leaf n x) = one_or_none (refers (is_slot n) x)
  length-slots (compound n ms) = length-member-slots ms
  length-slots (enumeration n t ms) = refl
  length-slots (variable_length i a c t) = refl
  length-slots (array ds t) = length-entries (type_size_of t) (slots t) 0 (product ds) ∙ rw (length-slots t)

  pub length-member-slots : (ms : Members) → length (member_slots ms) ≡ member_slot_count ms
  length-member-slots no_members = refl
  length-member-slots (member b o t ms) = rw (length-append, length-shifted, length-slots t, length-member-slots ms)

-- the greatest slot + 8 of a list; 0 where there is none
unfoldable pub end_of : List ℕ → ℕ
end_of [] = 0
end_of (s ∷ ss) = max (s + 8) (end_of ss)

below-max : (n a b : ℕ) → (ltb n a || ltb n b) ≡ ltb n (max a b)
below-max n a b =
    same_test _ _
    (λ h. ⊎_elim (λ p. lt-ltb n (max a b) (omega (arith, ltb-true n a p))) (λ p. lt-ltb n (max a b) (omega (arith, ltb-true n b p))) (or_either (ltb n a) (ltb n b) h))
    (λ h. either (ltb n a) refl (ltb-true n (max a b) h))
  where
    either : (x : Bool) → ltb n a ≡ x → n < max a b → (x || ltb n b) ≡ true
    either true e h = refl
    either false e h = lt-ltb n b (omega (arith, ltb-false n a e))

pub outside_end : (n : ℕ) (ss : List ℕ) → some_outside_of n ss ≡ ltb n (end_of ss)
unfolding some_outside_of end_of
outside_end n [] = sym (le-ltb n 0 (omega arith))
outside_end n (s ∷ ss) = rw (outside_end n ss) (below-max n (s + 8) (end_of ss))

end_append : (ss us : List ℕ) → end_of (ss ++ us) ≡ max (end_of ss) (end_of us)
unfolding end_of
end_append [] us = omega arith
end_append (s ∷ ss) us = omega (arith, end_append ss us)

pub moved_end : (o e : ℕ) → 0 < e → moved_end_of o e ≡ o + e
unfolding moved_end_of
moved_end o zero h = omega arith
moved_end o (suc e) h = refl

moved-further : (o s e : ℕ) → max (o + s + 8) (moved_end_of o e) ≡ moved_end_of o (max (s + 8) e)
unfolding moved_end_of
moved-further o s zero = omega (arith, moved_end o (max (s + 8) 0) (omega arith))
moved-further o s (suc e) = omega (arith, moved_end o (max (s + 8) (suc e)) (omega arith))

end_shifted : (o : ℕ) (ss : List ℕ) → end_of (shifted o ss) ≡ moved_end_of o (end_of ss)
unfolding shifted end_of moved_end_of
end_shifted o [] = refl
end_shifted o (s ∷ ss) = rw (end_shifted o ss) (moved-further o s (end_of ss))

-- entries of a list that is not empty end where the last of them ends
module _ (stride e : ℕ) (ss : List ℕ) (h : end_of ss ≡ suc e) where
  first_end : (k : ℕ) → end_of (shifted (k * stride) ss) ≡ k * stride + suc e
  first_end k = end_shifted (k * stride) ss ∙ rw h (moved_end (k * stride) (suc e) (omega arith))

  end_entries : (k n : ℕ) → end_of (entries stride ss k (suc n)) ≡ (k + n) * stride + suc e
  unfolding entries end_of
  end_entries k zero = omega (arith, end_append (shifted (k * stride) ss) [], first_end k, add-mul k 0 stride, zero-mul stride)
  end_entries k (suc n) =
      omega
      (arith, end_append (shifted (k * stride) ss) (entries stride ss (suc k) (suc n)), first_end k, end_entries (suc k) n, add-mul k (suc n) stride, add-mul (suc k) n stride, suc-mul k stride, suc-mul n stride)

end_no_entries : (stride : ℕ) (ss : List ℕ) → end_of ss ≡ 0 → (k n : ℕ) → end_of (entries stride ss k n) ≡ 0
unfolding entries end_of moved_end_of
end_no_entries stride ss h k zero = refl
end_no_entries stride ss h k (suc n) =
    end_append (shifted (k * stride) ss) (entries stride ss (suc k) n) ∙ rw (end_shifted, h, end_no_entries stride ss h (suc k) n)

entries_end : (stride : ℕ) (ss : List ℕ) (n : ℕ) → end_of (entries stride ss 0 n) ≡ last_end stride (end_of ss) n
unfolding last_end
entries_end stride ss n = go (end_of ss) refl n
  where
    go : (e : ℕ) → end_of ss ≡ e → (n : ℕ) → end_of (entries stride ss 0 n) ≡ last_end stride e n
    go zero h n = end_no_entries stride ss h 0 n
    go (suc e) h zero = unfold entries end_of in refl
    go (suc e) h (suc n) = end_entries stride e ss h 0 n ∙ omega (arith, add-mul 0 n stride, zero-mul stride)

one_end : (b : Bool) → cond b 8 0 ≡ end_of (cond b (0 ∷ []) [])
unfolding end_of
one_end true = refl
one_end false = refl

-- the end that is reckoned without listing the slots is the greatest slot + 8
mutual
  unfolding slots slot_end_of end_of

  pub slot_end : (t : Datatype) → slot_end_of t ≡ end_of (slots t)
  slot_end (leaf n x) = one_end (refers (is_slot n) x)
  slot_end (compound n ms) = member-slot_end ms
  slot_end (enumeration n t ms) = refl
  slot_end (variable_length i a c t) = refl
  slot_end (array ds t) = rw (slot_end t) (sym (entries_end (type_size_of t) (slots t) (product ds)))

  pub member-slot_end : (ms : Members) → member_slot_end ms ≡ end_of (member_slots ms)
  member-slot_end no_members = refl
  member-slot_end (member b o t ms) = rw (end_append, end_shifted, slot_end t, member-slot_end ms)

pub slots-outside : (t : Datatype) (n : ℕ) → some_outside_of n (slots t) ≡ ltb n (slot_end_of t)
slots-outside t n = rw (slot_end t) (outside_end n (slots t))

-- the four grounds of refusal 19, the last two without listing the slots
pub unmapped-counted : (t : Datatype)
    → unmapped t ≡ (holds_other_reference t || (holds_hidden_reference t || (ltb (type_size_of t / 8) (slot_count t) || ltb (type_size_of t) (slot_end_of t))))
unfolding unmapped
unmapped-counted t = rw (length-slots, slots-outside)

-- a slot of a list, with what holds of it
pub record SlotPast (size : ℕ) (ss : List ℕ) : Type 0 where
  pub slot : ℕ
  pub listed : Memᴰ slot ss
  pub past : size < slot + 8

pub outside-slot : (n : ℕ) (ss : List ℕ) → some_outside_of n ss ≡ true → SlotPast n ss
unfolding some_outside_of
outside-slot n [] h = let z : ◌≡◌ {A = ℕ} 0 1 = cc in absurd (omega arith)
outside-slot n (s ∷ ss) h =
    ⊎_elim
    (λ p. record { slot = s; listed = Memᴰ.head refl; past = ltb-true n (s + 8) p })
    (λ p. let q = outside-slot n ss p in record { slot = q.slot; listed = Memᴰ.tail q.listed; past = q.past })
    (or_either (ltb n (s + 8)) (some_outside_of n ss) h)

pub slot-outside : (n s : ℕ) (ss : List ℕ) → Memᴰ s ss → n < s + 8 → some_outside_of n ss ≡ true
unfolding some_outside_of
slot-outside n s [] m h = absurd (Memᴰ.not-nil m)
slot-outside n s (u ∷ ss) m h =
    ⊎_elim
    (λ e. rw (lt-ltb n (u + 8) (omega arith)))
    (λ q. or_second (ltb n (u + 8)) (some_outside_of n ss) (slot-outside n s ss q h))
    (Memᴰ.cases_cons m)

-- "the type holds a reference that isn't an 8-byte object reference, or holds one below an enumeration or variable length; or it has
-- more slots than its size / 8 rounded down; or a slot + 8 exceeds its size"
abbrev pub Unmappable : Datatype → Type 0
Unmappable t =
    (holds_other_reference t ≡ true) ⊎ ((holds_hidden_reference t ≡ true) ⊎ ((type_size_of t / 8 < length (slots t)) ⊎ SlotPast (type_size_of t) (slots t)))

pub unmapped-then : (t : Datatype) → unmapped t ≡ true → Unmappable t
unfolding unmapped
unmapped-then t h =
    ⊎_elim inl (λ h2. inr (⊎_elim inl (λ h3. inr (⊎_elim (λ p. inl (ltb-true _ _ p)) (λ p. inr (outside-slot _ _ p)) (or_either _ _ h3))) (or_either _ _ h2)))
    (or_either _ _ h)

pub unmapped_if : (t : Datatype) → Unmappable t → unmapped t ≡ true
unfolding unmapped
unmapped_if t (inl h) = rw h
unmapped_if t (inr (inl h)) = rw (h, or-true)
unmapped_if t (inr (inr (inl h))) = simp (lt-ltb (type_size_of t / 8) (length (slots t)) h, or-true)
unmapped_if t (inr (inr (inr p))) = simp (slot-outside (type_size_of t) p.slot (slots t) p.listed p.past, or-true)

-- the places of a block: as many for each whole record as there are slots
pub length-places : (block : List ℕ) (n : ℕ) (ss : List ℕ) → length (reference_places block n ss) ≡ record_count_of block n * length ss
unfolding reference_places
length-places block n ss = length-entries (record_size_of n) ss 0 (record_count_of block n)

pub length-values : (block ps : List ℕ) → length (values_at block ps) ≡ length ps
unfolding values_at
length-values block [] = refl
length-values block (p ∷ ps) = ap suc (length-values block ps)

pub value-at : (block ps : List ℕ) (i : ℕ) → i < length ps → get_or (values_at block ps) i 0 ≡ number_from (take 8 (drop (get_or ps i 0) block))
unfolding values_at
value-at block [] i h = omega arith
value-at block (p ∷ ps) zero h = refl
value-at block (p ∷ ps) (suc i) h = value-at block ps i (omega arith)

last_end_below : (stride e n m : ℕ) → e ≤ stride → n * stride ≤ m → last_end stride e n ≤ m
unfolding last_end
last_end_below stride zero n m h l = omega arith
last_end_below stride (suc e) zero m h l = omega arith
last_end_below stride (suc e) (suc n) m h l = omega (arith, suc-mul n stride)

-- where no slot exceeds the record size, the eight bytes at each place lie in the block
pub places-inside : (block : List ℕ) (n : ℕ) (ss : List ℕ) → some_outside_of (record_size_of n) ss ≡ false → some_outside_of (length block) (reference_places block n ss) ≡ false
unfolding reference_places record_count_of
places-inside block n ss h =
    let e : end_of ss ≤ record_size_of n = ltb-false (record_size_of n) (end_of ss) (sym (outside_end (record_size_of n) ss) ∙ h) in
    outside_end (length block) (entries (record_size_of n) ss 0 (length block / record_size_of n))
    ∙ le-ltb (length block) (end_of (entries (record_size_of n) ss 0 (length block / record_size_of n))) (rw entries_end (last_end_below (record_size_of n) (end_of ss) (length block / record_size_of n) (length block) e (div-mul-le_self (length block) (record_size_of n))))

pub slot-inside : (n : ℕ) (ss : List ℕ) → some_outside_of n ss ≡ false → (i : ℕ) → i < length ss → get_or ss i 0 + 8 ≤ n
unfolding some_outside_of
slot-inside n [] h i l = omega arith
slot-inside n (s ∷ ss) h zero l = ltb-false n (s + 8) (or_neither _ _ h).0
slot-inside n (s ∷ ss) h (suc i) l = slot-inside n ss (or_neither (ltb n (s + 8)) (some_outside_of n ss) h).1 i (omega arith)

pub get_d_shifted : (o : ℕ) (ss : List ℕ) (i : ℕ) → i < length ss → get_or (shifted o ss) i 0 ≡ o + get_or ss i 0
unfolding shifted
get_d_shifted o [] i h = omega arith
get_d_shifted o (s ∷ ss) zero h = refl
get_d_shifted o (s ∷ ss) (suc i) h = get_d_shifted o ss i (omega arith)

-- slot i of entry j
pub get_d_entries : (stride : ℕ) (ss : List ℕ) (k n j i : ℕ) → j < n → i < length ss
    → get_or (entries stride ss k n) (j * length ss + i) 0 ≡ (k + j) * stride + get_or ss i 0
unfolding entries
get_d_entries stride ss k zero j i g h = omega arith
get_d_entries stride ss k (suc n) zero i g h =
    ap (λ (x : ℕ). get_or (entries stride ss k (suc n)) x 0) (omega (arith, zero-mul (length ss)))
    ∙ get_or-append (shifted (k * stride) ss) (entries stride ss (suc k) n) 0 i (omega (arith, length-shifted (k * stride) ss))
    ∙ get_d_shifted (k * stride) ss i h ∙ omega (arith, add-mul k 0 stride, zero-mul stride)
get_d_entries stride ss k (suc n) (suc j) i g h =
    ap (λ (x : ℕ). get_or (entries stride ss k (suc n)) x 0) (omega (arith, length-shifted (k * stride) ss, suc-mul j (length ss)))
    ∙ get_or-append-add (shifted (k * stride) ss) (entries stride ss (suc k) n) (j * length ss + i) 0
    ∙ get_d_entries stride ss (suc k) n j i (omega arith) h ∙ omega (arith, add-mul (suc k) j stride, add-mul k (suc j) stride, suc-mul k stride, suc-mul j stride)

some_size : (c n : ℕ) → zero_class c n ≡ none → 0 < n
unfolding zero_class
some_size c zero h = let z : ◌≡◌ {A = ℕ} 0 1 = cc in absurd (omega arith)
some_size c (suc n) h = omega arith

pub or_else_none : (x y : Option ℕ) → or_else x y ≡ none → (x ≡ none) × (y ≡ none)
unfolding or_else
or_else_none none y h = (refl, h)
or_else_none (some c) y h = (h, cc)

pub first-zero-size : (t : Datatype) → first_zero t ≡ none → 0 < type_size_of t
unfolding first_zero type_size_of
first-zero-size (leaf n x) h = some_size _ n h
first-zero-size (compound n ms) h = some_size _ n (or_else_none _ _ h).0
first-zero-size (enumeration n t ms) h = some_size _ n (or_else_none _ _ h).0
first-zero-size (variable_length i a c t) h = omega arith
first-zero-size (array ds t) h = some_size _ _ (or_else_none _ _ h).0

no_entry : (n s p : ℕ) → 0 < min (s * p) 4294967295 → p * n ≡ 0 → n ≡ 0
no_entry n s zero h e = omega (arith, mul-zero s)
no_entry zero s (suc p) h e = refl
no_entry (suc n) s (suc p) h e = omega (arith, suc-mul p (suc n))

slot_or_other : (b : Bool) → not b ≡ false → ◌≡◌ {A = ℕ} (cond b 1 0) 0 → true ≡ false
slot_or_other true h e = let z : ◌≡◌ {A = ℕ} 0 1 = sym e in absurd (omega arith)
slot_or_other false h e = h

-- only a reference refers
pub refers-within : (f : ℕ → Bool) (v : Leaf) → refers f v ≡ (refers (λ k. true) v && refers f v)
unfolding refers
refers-within f (fixed_point o s g q) = refl
refers-within f (floating_point o y) = refl
refers-within f (time o q) = refl
refers-within f (string a c) = refl
refers-within f (bit_field o g q) = refl
refers-within f (opaque g) = refl
refers-within f (reference k) = refl

slot_or_none : (n : ℕ) (v : Leaf) → refers (λ k. not (is_slot n k)) v ≡ false → ◌≡◌ {A = ℕ} (cond (refers (is_slot n) v) 1 0) 0 → refers (λ k. true) v ≡ false
unfolding refers
slot_or_none n (fixed_point o s f q) h e = refl
slot_or_none n (floating_point o y) h e = refl
slot_or_none n (time o q) h e = refl
slot_or_none n (string a c) h e = refl
slot_or_none n (bit_field o f q) h e = refl
slot_or_none n (opaque g) h e = refl
slot_or_none n (reference k) h e = slot_or_other (is_slot n k) h e

-- a type that neither of the first two grounds meets, with no slot and no size 0 in it, holds no reference
mutual
  unfolding holds_other_reference holds_hidden_reference holds_object_address slot_count first_zero type_size_of

  pub no_slot_no_reference : (t : Datatype) → first_zero t ≡ none → holds_other_reference t ≡ false → holds_hidden_reference t ≡ false → slot_count t ≡ 0
      → holds_object_address t ≡ false
  no_slot_no_reference (leaf n v) z x y c = slot_or_none n v x c
  no_slot_no_reference (compound n ms) z x y c = no_member-slot ms (or_else_none _ _ z).1 x y c
  no_slot_no_reference (enumeration n t ms) z x y c = y
  no_slot_no_reference (variable_length i a d t) z x y c = y
  no_slot_no_reference (array ds t) z x y c =
      let w = or_else_none _ _ z in
      no_slot_no_reference t w.1 x y (no_entry (slot_count t) (type_size_of t) (product ds) (some_size 10 (type_size_of (array ds t)) w.0) c)

  pub no_member-slot : (ms : Members) → member_first_zero ms ≡ none → member_holds_other_reference ms ≡ false → member_holds_hidden_reference ms ≡ false
      → member_slot_count ms ≡ 0 → member_holds_object_address ms ≡ false
  no_member-slot no_members z x y c = refl
  no_member-slot (member b o t ms) z x y c =
      let w = or_else_none _ _ z in
      let u = or_neither _ _ x in
      let v = or_neither _ _ y in
      rw (no_slot_no_reference t w.0 u.0 v.0 (omega arith)) (no_member-slot ms w.1 u.1 v.1 (omega arith))
