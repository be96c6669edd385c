-- Ranges of two records that are equal, and what is answered of a field's.
use Rattle.std.specs.Prelude.{Ok, Err}
use Prim.Native.Nat.{ℕ, zero, suc, ◌+◌, ◌-◌, ◌*◌, ◌/◌, ◌<◌, ◌≤◌}
use mathlib.Core.Path.{◌≡◌, refl, sym, ap, ◌∙◌}
use mathlib.Core.Logic.{⊎_elim}
use mathlib.Core.Bool.{Bool, true, false, not, ◌&&◌, ◌||◌, false≢true, and_assoc, and-true}
use mathlib.Core.List.{List, [], ◌∷◌}
use native.Mathlib.Omega.{arith}
use native.Mathlib.Numerals.{add-one}
use native.Mathlib.Nat.{suc-mul, mul-le-mul_right, eq-or-lt_of_le}
use lib.Bits.{bit_or, bit_xor}
use lib.ListN.{length, get_or, take, drop}
use lib.Seq.{drop-cons}
use lib.Pointwise.{pointwise}
use lib.Dec.{ltb, eqb}
use borrow.Author.Tests.{ne_eqb, eq-eqb, eqb-true, eqb-false, ltb-true, ltb-false, le-ltb, not-true, not-false}
use Rattle.rows.proofs.Zeros.{or_is-zero, xor_is-zero}
use Rattle.format.specs.Image.{Field, move_field, move_fields, field_entries, no_nul_between, counted_in, FieldsAgree, FieldsDiffer}
use Rattle.format.proofs.Image.{no_nul_if, counted_if, owned_if}
use Rattle.format.proofs.Walking.{agree-none, agree_both, entry_walked, entry-differs, counted-one, field-equal, field-ended, field_apart}
use Rattle.format.proofs.Booleans.{and_both, and_either, true_or_false}
use Rattle.compare.specs.Agreeing.{Agreed, equal_range_of, Equal, Common, field_at, AnswersFields, AgreesField, AgreesStrings, AgreesFields, StringSame}
use Rattle.compare.specs.declared.Base.{Base}
use Rattle.compare.specs.declared.Disagreement.TheVariants.{Apart}

module _ (a b : List ℕ) where
  range_split : (at m n : ℕ) → equal_range_of a b at (m + n) ≡ (equal_range_of a b at m && equal_range_of a b (at + m) n)
  unfolding equal_range_of
  range_split at zero n =
      let e : at + 0 ≡ at = omega arith in
      let f : 0 + n ≡ n = omega arith in
      rw (e, f)
  range_split at (suc m) n =
      let e : at + suc m ≡ suc at + m = omega arith in
      let f : suc m + n ≡ suc (m + n) = omega arith in
      rw (e, f, range_split (suc at) m n) (sym (and_assoc (eqb (get_or a at 0) (get_or b at 0)) (equal_range_of a b (suc at) m) (equal_range_of a b (suc at + m) n)))

  one-is : (at : ℕ) → eqb (get_or a at 0) (get_or b at 0) ≡ equal_range_of a b at 1
  unfolding equal_range_of
  one-is at = sym (and-true (eqb (get_or a at 0) (get_or b at 0)))

  range_next : (at i : ℕ) → equal_range_of a b at (i + 1) ≡ (equal_range_of a b at i && eqb (get_or a (at + i) 0) (get_or b (at + i) 0))
  range_next at i = rw (one-is (at + i)) (range_split at i 1)

  -- the bits in which i bytes from `at` on differ, put together, with those of one byte more
  pub bits_next : (at i all : ℕ) → eqb all 0 ≡ equal_range_of a b at i → eqb (bit_or all (bit_xor (get_or a (at + i) 0) (get_or b (at + i) 0))) 0 ≡ equal_range_of a b at (i + 1)
  bits_next at i all e =
      or_is-zero all (bit_xor (get_or a (at + i) 0) (get_or b (at + i) 0)) ∙ rw (e, xor_is-zero (get_or a (at + i) 0) (get_or b (at + i) 0)) (sym (range_next at i))

  pub range_says : (at n : ℕ) → equal_range_of a b at n ≡ true → (i : ℕ) → i < n → get_or a (at + i) 0 ≡ get_or b (at + i) 0
  unfolding equal_range_of
  range_says at zero h i l = absurd (omega arith)
  range_says at (suc n) h zero l = let e : at + 0 ≡ at = omega arith in rw e (eqb-true _ _ (and_both _ _ h).0)
  range_says at (suc n) h (suc i) l =
      let e : at + suc i ≡ suc at + i = omega arith in
      rw e (range_says (suc at) n (and_both (eqb (get_or a at 0) (get_or b at 0)) (equal_range_of a b (suc at) n) h).1 i (omega arith))

  range_differs : (at n : ℕ) → equal_range_of a b at n ≡ false → (i : ℕ) × (i < n) × (get_or a (at + i) 0 ≡ get_or b (at + i) 0 → ⊥)
  unfolding equal_range_of
  range_differs at zero h = absurd (false≢true (sym h))
  range_differs at (suc n) h =
      ⊎_elim
      (λ p. let e : at + 0 ≡ at = omega arith in
      (0, omega arith, rw e (eqb-false _ _ p)))
      (λ p. let d = range_differs (suc at) n p in
      let e : at + suc d.0 ≡ suc at + d.0 = omega arith in
      (suc d.0, omega (arith, d.1), rw e d.2))
      (and_either (eqb (get_or a at 0) (get_or b at 0)) (equal_range_of a b (suc at) n) h)

-- the slices of n bytes from a place on, by their equality
slices : (a b : List ℕ) (at n : ℕ) → at + n ≤ length a → at + n ≤ length b → pointwise eqb (take n (drop at a)) (take n (drop at b)) ≡ equal_range_of a b at n
unfolding equal_range_of
slices a b at zero h k = refl
slices a b at (suc n) h k =
    rw (drop-cons a at 0 (omega arith), drop-cons b at 0 (omega arith))
    (ap (λ (x : Bool). eqb (get_or a at 0) (get_or b at 0) && x) (slices a b (suc at) n (omega arith) (omega arith)))

pub range-slices : (a b : List ℕ) (at n : ℕ) {x : Bool} → x ≡ pointwise eqb (take (at + n - at) (drop at a)) (take (at + n - at) (drop at b)) → at + n ≤ length a → at + n ≤ length b → x ≡ equal_range_of a b at n
range-slices a b at n e h k = let j : at + n - at ≡ n = omega arith in e ∙ rw j (slices a b at n h k)

-- n bytes, of which k blocks are equal: what is left decides
module _ (a b : List ℕ) (at n k : ℕ) (inv : equal_range_of a b (at + k * 128) (n - k * 128) ≡ equal_range_of a b at n) where
  module _ {x : Bool} (e : x ≡ equal_range_of a b (at + k * 128) 128) (h : k < n / 128) where
    block-cut : (x && equal_range_of a b (at + (k + 1) * 128) (n - (k + 1) * 128)) ≡ equal_range_of a b at n
    block-cut =
        let l : 128 + (n - (k + 1) * 128) ≡ n - k * 128 = omega arith in
        let m : at + (k + 1) * 128 ≡ at + k * 128 + 128 = omega arith in
        rw (e, m) (sym (range_split a b (at + k * 128) 128 (n - (k + 1) * 128)) ∙ rw l inv)

    pub block-next : x ≡ true → equal_range_of a b (at + (k + 1) * 128) (n - (k + 1) * 128) ≡ equal_range_of a b at n
    block-next t = rw t at block-cut

    pub block-stops : x ≡ false → false ≡ equal_range_of a b at n
    block-stops f = rw f at block-cut

  pub blocks-rest : k ≡ n / 128 → {x : Bool} → x ≡ pointwise eqb (take (at + n - (at + n / 128 * 128)) (drop (at + n / 128 * 128) a)) (take (at + n - (at + n / 128 * 128)) (drop (at + n / 128 * 128) b)) → at + n ≤ length a → at + n ≤ length b
      → x ≡ equal_range_of a b at n
  blocks-rest z e h l =
      let m : at + n / 128 * 128 ≡ at + k * 128 = omega arith in
      let r : at + n ≡ at + k * 128 + (n - k * 128) = omega arith in
      range-slices a b (at + k * 128) (n - k * 128) (rw (m, r) at e) (omega arith) (omega arith) ∙ inv

-- a place in a field that counts whole at which they differ
whole-differs : (a b : List ℕ) (at n i : ℕ) → at ≤ i → i < at + n → (get_or a i 0 ≡ get_or b i 0 → ⊥) → FieldsDiffer (field_at at n false ∷ []) a b
whole-differs a b at n i l m z =
    let c : (r : List ℕ) → counted_in (field_at at n false ∷ []) r i ≡ true =
    λ r. counted-one (field_at at n false) r i ∙ counted_if (field_at at n false) r i (owned_if (field_at at n false) i l m) (λ g. absurd (false≢true g)) in
    record { place = i; first = c a; second = c b; differs = z }

-- ---- answers

module _ {fs : List Field} {a b : List ℕ} where
  pub answers-together : {next : ℕ} → FieldsAgree fs a b → AnswersFields fs a b next (Ok next)
  answers-together h =
      record {
        together = λ s e. (h, cc);
        apart = λ e. let z : ◌≡◌ {A = ℕ} 0 1 = cc in absurd (omega arith);
        kept = λ e. let z : ◌≡◌ {A = ℕ} 0 1 = cc in omega arith;
      }

  pub answers-apart : {next : ℕ} → FieldsDiffer fs a b → AnswersFields fs a b next (Err Apart)
  answers-apart d =
      record {
        together = λ s e. let z : ◌≡◌ {A = ℕ} 0 1 = cc in absurd (omega arith);
        apart = λ e. d;
        kept = λ e. let z : ◌≡◌ {A = ℕ} 0 1 = cc in omega arith;
      }

  -- of fields that count the same places
  pub answers_as : {gs : List Field} {next : ℕ} {x : Agreed} → ((r : List ℕ) (i : ℕ) → counted_in gs r i ≡ counted_in fs r i) → AnswersFields fs a b next x → AnswersFields gs a b next x
  answers_as e h =
      record {
        together = λ s q. let w = h.together s q in (record { equal = λ i o. w.0.equal i (sym (e a i) ∙ o) }, w.1);
        apart = λ q. let d = h.apart q in record { place = d.place; first = e a d.place ∙ d.first; second = e b d.place ∙ d.second; differs = d.differs };
        kept = h.kept;
      }

-- ---- how many bytes are equal

module _ (a b : List ℕ) (at n : ℕ) where
  pub equal-none : Equal a b at n 0
  equal-none = record { within = omega arith; equal = λ j l m. absurd (omega arith) }

  module _ (i : ℕ) (w : Equal a b at n i) where
    equal-more : (k : ℕ) → i + k ≤ n → ((j : ℕ) → j < k → get_or a (at + i + j) 0 ≡ get_or b (at + i + j) 0) → Equal a b at n (i + k)
    equal-more k h e =
        record {
          within = h;
          equal = λ j l m.
              ⊎_elim
              (λ q. w.equal j l (ltb-true j (at + i) q))
              (λ q.
              let g : at + i + (j - (at + i)) ≡ j = omega (arith, ltb-false j (at + i) q) in
              rw g at (e (j - (at + i)) (omega (arith, ltb-false j (at + i) q))))
              (true_or_false (ltb j (at + i)));
        }

    pub equal_byte_more : get_or a (at + i) 0 ≡ get_or b (at + i) 0 → i < n → Equal a b at n (i + 1)
    equal_byte_more e h = equal-more 1 (omega arith) (λ j l. let z : at + i + j ≡ at + i = omega arith in rw z e)

    pub common_stop : (get_or a (at + i) 0 ≡ get_or b (at + i) 0 → ⊥) → Common a b at n i
    common_stop e = record { so_far = w; differs = λ l. e }

    pub common_all : n ≤ i → Common a b at n n
    common_all h = let e : i ≡ n = omega (arith, w.within) in record { so_far = rw e at w; differs = λ l. absurd (omega arith) }

  -- k blocks of 128 bytes, and one more
  module _ (k : ℕ) (w : Equal a b at n (k * 128)) where
    pub blocks-more : {x : Bool} → x ≡ equal_range_of a b (at + k * 128) 128 → x ≡ true → k < n / 128 → Equal a b at n ((k + 1) * 128)
    blocks-more e x h =
        let j : (k + 1) * 128 ≡ k * 128 + 128 = omega arith in
        rw j (equal-more (k * 128) w 128 (omega arith) (range_says a b (at + k * 128) 128 (sym e ∙ x)))

    pub blocks_end : n / 128 ≤ k → k ≤ n / 128 → Equal a b at n (n / 128 * 128)
    blocks_end h l = let j : k ≡ n / 128 = omega arith in rw j at w

-- ---- a NUL among bytes, from their end

module _ (s : List ℕ) (at n : ℕ) where
  -- what is left decides
  pub record Left (i : ℕ) : Type 0 where
    pub from : at ≤ i
    pub below : i ≤ at + n
    pub decides : no_nul_between s at (at + n) ≡ no_nul_between s at i

  pub nul-start : Left (at + n)
  nul-start = record { from = omega arith; below = omega arith; decides = refl }

  module _ (i : ℕ) (w : Left i) (some_left : at < i) where
    one_less : no_nul_between s at i ≡ ((ltb (i - 1) at || not (eqb (get_or s (i - 1) 0) 0)) && no_nul_between s at (i - 1))
    one_less = let e : i ≡ suc (i - 1) = omega arith in ap (no_nul_between s at) e ∙ unfold no_nul_between in refl

    pub nul-here : get_or s (i - 1) 0 ≡ 0 → true ≡ not (no_nul_between s at (at + n))
    nul-here z =
        let q : ltb (i - 1) at ≡ false = le-ltb (i - 1) at (omega arith) in
        rw (w.decides, one_less, q, z)

    pub nul-next : (get_or s (i - 1) 0 ≡ 0 → ⊥) → Left (i - 1)
    nul-next z =
        let q : ltb (i - 1) at ≡ false = le-ltb (i - 1) at (omega arith) in
        record { from = omega arith; below = omega (arith, w.below); decides = w.decides ∙ one_less ∙ rw (q, ne_eqb (get_or s (i - 1) 0) 0 z) }

  pub nul-none : (i : ℕ) → Left i → i ≤ at → false ≡ not (no_nul_between s at (at + n))
  nul-none i w h =
      let e : i ≡ at = omega (arith, w.from) in
      rw (w.decides, e, no_nul_if s at at (λ j l m. absurd (omega arith)))

-- ---- a field's bytes

module _ (n : ℕ) (a b : List ℕ) (at next : ℕ) where
  pub field_past : (e : Bool) (x : Agreed) → length a - at < n → AgreesField n e a b at next x
  unfolding AgreesField
  field_past e x h l = absurd (omega arith)

  module _ {r : Bool} (q : r ≡ equal_range_of a b at n) where
    pub field-same : r ≡ true → AgreesField n false a b at next (Ok next)
    unfolding AgreesField
    field-same h l =
        answers-together (field-equal (field_at at n false) a b n
        (λ j g m. let k : at + (j - at) ≡ j = omega arith in rw k at (range_says a b at n (sym q ∙ h) (j - at) (omega arith)))
        (omega arith))

    pub field-differs : r ≡ false → AgreesField n false a b at next (Err Apart)
    unfolding AgreesField
    field-differs h l =
        let d = range_differs a b at n (sym q ∙ h) in
        answers-apart (whole-differs a b at n (at + d.0) (omega arith) (omega (arith, d.1)) d.2)

-- what is told of a field by how many of its bytes are equal, and whether a NUL is among them
module _ (n : ℕ) (a b : List ℕ) (at k : ℕ) (w : Common a b at n k) where
  all-equal : (e : Bool) → k ≡ n → FieldsAgree (field_at at n e ∷ []) a b
  all-equal e h = field-equal (field_at at n e) a b k w.so_far.equal (omega arith)

  not-all : (k ≡ n → ⊥) → k < n
  not-all h = ⊎_elim (λ q. absurd (h q)) (λ q. q) (eq-or-lt_of_le w.so_far.within)

  module _ {r : Bool} (v : r ≡ not (no_nul_between a at (at + k))) where
    nul-equal : r ≡ true → FieldsAgree (field_at at n true ∷ []) a b
    nul-equal h = field-ended (field_at at n true) a b k w.so_far.equal refl (not-true (no_nul_between a at (at + k)) (sym v ∙ h))

    no_nul-apart : (k ≡ n → ⊥) → r ≡ false → FieldsDiffer (field_at at n true ∷ []) a b
    no_nul-apart z h = field_apart (field_at at n true) a b k w.so_far.equal (not-all z) (w.differs (not-all z)) (λ g. not-false (no_nul_between a at (at + k)) (sym v ∙ h))

    -- a string
    pub string_by_nul : (k ≡ n → ⊥) → StringSame a b at n r
    string_by_nul z = record { same = nul-equal; differs = no_nul-apart z }

    -- a leaf that is one
    module _ (next : ℕ) {ended t : Bool} (u : t ≡ ended) (y : t ≡ true) where
      pub leaf-ended : r ≡ true → AgreesField n ended a b at next (Ok next)
      leaf-ended h = rw (← u, y) (unfold AgreesField in λ l. answers-together (nul-equal h))

      pub leaf-not-ended : (k ≡ n → ⊥) → r ≡ false → AgreesField n ended a b at next (Err Apart)
      leaf-not-ended z h = rw (← u, y) (unfold AgreesField in λ l. answers-apart (no_nul-apart z h))

  pub string-equal : k ≡ n → StringSame a b at n (eqb k n)
  string-equal h = rw (eq-eqb k n h) (record { same = λ e. all-equal true h; differs = λ e. absurd (false≢true (sym e)) })

  pub leaf-equal : (next : ℕ) (e : Bool) → k ≡ n → AgreesField n e a b at next (Ok next)
  unfolding AgreesField
  leaf-equal next e h l = answers-together (all-equal e h)

  pub leaf_apart : (next : ℕ) {ended t : Bool} → t ≡ ended → t ≡ false → (k ≡ n → ⊥) → AgreesField n ended a b at next (Err Apart)
  leaf_apart next u y z =
      rw (← u, y) (unfold AgreesField in λ l. answers-apart (field_apart (field_at at n false) a b k w.so_far.equal (not-all z) (w.differs (not-all z)) (λ g. absurd (false≢true g))))

-- ---- strings one behind the other

-- k of so many are the same, and the next begins at `start`
pub record SameTo (n count : ℕ) (a b : List ℕ) (at k start : ℕ) : Type 0 where
  pub within : k ≤ count
  pub here : start ≡ at + k * n
  pub begins : start ≤ length a
  pub same : FieldsAgree (move_fields at (field_entries n (field_at 0 n true ∷ []) 0 k)) a b

module _ (n count : ℕ) (a b : List ℕ) (at : ℕ) where
  pub strings_start : at ≤ length a → SameTo n count a b at 0 at
  strings_start h = record { within = omega arith; here = omega arith; begins = h; same = unfold field_entries move_fields in agree-none }

  module _ (k start : ℕ) (w : SameTo n count a b at k start) where
    pub strings_end : (next : ℕ) → count ≤ k → AgreesStrings n count a b at next (Ok next)
    unfolding AgreesStrings
    strings_end next h l = let e : k ≡ count = omega (arith, w.within) in answers-together (rw e at w.same)

    -- the string at hand, moved there
    here-moved : move_fields (at + k * n) (field_at 0 n true ∷ []) ≡ field_at start n true ∷ []
    unfolding move_fields move_field
    here-moved = let e : at + k * n + 0 ≡ start = omega (arith, w.here) in rw e

    module _ (some_left : k < count) where
      pub strings_past : (next : ℕ) (x : Agreed) → length a - start < n → AgreesStrings n count a b at next x
      unfolding AgreesStrings
      strings_past next x h l = absurd (omega (arith, w.here, mul-le-mul_right n some_left, suc-mul k n))

      module _ {r : Bool} (s : StringSame a b start n r) where
        pub strings_apart : (next : ℕ) → r ≡ false → AgreesStrings n count a b at next (Err Apart)
        unfolding AgreesStrings
        strings_apart next h l = answers-apart (entry-differs a b at n (field_at 0 n true ∷ []) k count some_left (rw here-moved (s.differs h)))

        pub strings_next : (k' start' : ℕ) → k' ≡ k + 1 → start' ≡ start + n → r ≡ true → n ≤ length a - start → SameTo n count a b at k' start'
        strings_next k' start' i j h l =
            rw (i, j)
            (record {
              within = omega arith;
              here = rw (add-one k) (omega (arith, w.here, suc-mul k n));
              begins = omega (arith, w.begins);
              same = rw (add-one k, entry_walked at n (field_at 0 n true ∷ []) k) (agree_both _ _ w.same (rw here-moved (s.same h)));
            })

-- ---- an array of a field

module _ (v : Base) (a b : List ℕ) (at next : ℕ) (x : Agreed) {string c : Bool} (e : c ≡ string) where
  pub fields_strings : c ≡ true → AgreesStrings v.stride v.count a b at next x → AgreesFields string v a b at next x
  fields_strings t h = rw (← e, t) (unfold AgreesFields in h)

  pub fields_range : c ≡ false → AgreesField v.bytes false a b at next x → AgreesFields string v a b at next x
  fields_range f h = rw (← e, f) (unfold AgreesFields in h)
