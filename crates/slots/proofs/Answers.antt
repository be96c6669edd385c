-- The answers of `embedded_reference_slots`.
use Rattle.std.proofs.Common.{◌≡◌, ℕ, ◌+◌, ◌/◌, ◌<◌, ◌≤◌, min, Bool, true, false, ◌||◌, ltb, List, [], ◌∷◌, length, sym, refl, ap, ◌∙◌, div-mul-le_self, arith, ltb-false, le-ltb, lt-ltb, le-leb}
use mathlib.Core.Bool.{or-true}
use mathlib.Core.Option as maybe
use Rattle.std.specs.Prelude.{Option, Some, None, Result, Ok, Err}
use Rattle.std.specs.Option.{ok_or}
use borrow.Author.Tests.{lt-leb}
use Rattle.refusal.specs.declared.Refusal.{Refusal}
use Rattle.refusal.specs.declared.Refusal.TheVariants.{BadTable, ZeroSize, Unmapped, NoRoom}
use Rattle.format.specs.Datatype.{type_size_of}
use Rattle.format.specs.Outcome.{gives, refuses, when_given, unless, needed, output_after}
use Rattle.format.proofs.Outcomes.{answers-given, answers-refused}
use Rattle.format.specs.Slots.{slots, slot_count, slot_end_of, shifted, holds_other_reference, holds_hidden_reference, some_outside_of, unmapped, first_zero, unless_zero, slotting, finding_slots}
use Rattle.format.proofs.Booleans.{or_neither}
use Rattle.format.proofs.Lists.{sets-front}
use Rattle.format.proofs.Slots.{length-slots, slots-outside, unmapped-counted}
use Rattle.table.specs.Survey.{survey_of, as_option, Sets, Checks}
use Rattle.table.specs.declared.Survey.{Survey}
use Rattle.table.proofs.Answers.{bad-table, bad-answer}
use Rattle.table.proofs.Surveys.{zero_none, zero_some}
use Rattle.slots.specs.Slots.{Counted, CountedAs, TallyAt, AllBelow, Fits, Listed, PutAs, PutAt, SlotsAre}
use Rattle.slots.specs.declared.Tally.{Tally}
use Rattle.slots.specs.declared.Put.{Put}
use Rattle.slots.proofs.Shifting.{shifted-zero}

-- ---- the answers

all-low : (size : ℕ) (ss : List ℕ) → size < 4294967296 → some_outside_of size ss ≡ false → AllBelow 4294967296 ss
unfolding some_outside_of AllBelow
all-low size [] h k = tt
all-low size (s ∷ ss) h k =
    let u = or_neither (ltb size (s + 8)) (some_outside_of size ss) k in
    (omega (arith, ltb-false size (s + 8) u.0), all-low size ss h u.1)

refused : (table pool out : List ℕ) (e : Refusal) → finding_slots table pool (length out) ≡ refuses e → SlotsAre table pool (Err e) out out
unfolding output_after
refused table pool out e h = record { answers = answers-refused _ _ _ e _ h refl; out-is = rw h }

pub slots-bad : (table pool out : List ℕ) {k : Option Survey} {o : Result Survey Refusal} {a : Result ℕ Refusal} {e y : Refusal} → Checks table pool k → o ≡ ok_or k BadTable → o ≡ Err e → a ≡ Err y → y ≡ e → SlotsAre table pool a out out
unfolding finding_slots when_given
slots-bad table pool out h w i d f = rw (bad-answer table pool h w i d f) (refused table pool out BadTable (rw (bad-table table pool h w i)))

-- of a type that the check has surveyed
module _ (table pool : List ℕ) {s : Survey} (given : Sets table pool s) where
  zeroed : s.zero ≡ as_option (first_zero given.type)
  unfolding survey_of
  zeroed = let g = given.says in cc

module _ (table pool out : List ℕ) {s : Survey} (given : Sets table pool s) where
  sized : s.size ≡ type_size_of given.type
  unfolding survey_of
  sized = let g = given.says in cc

  finding : finding_slots table pool (length out) ≡ slotting (length out) given.type
  unfolding finding_slots when_given
  finding = rw given.is

  pub slots-zero : {class : ℕ} → s.zero ≡ Some class → SlotsAre table pool (Err (ZeroSize class)) out out
  unfolding slotting unless_zero
  slots-zero {class = class} z = refused table pool out _ (finding ∙ rw (zero_some (first_zero given.type) class (sym (zeroed table pool given) ∙ z)))

  module _ (z : s.zero ≡ None) (t : Tally) (g : TallyAt 32 table pool 0 t) where
    none-zero : first_zero given.type ≡ maybe.none
    none-zero = zero_none _ (sym (zeroed table pool given) ∙ z)

    counted : Counted (holds_other_reference given.type || holds_hidden_reference given.type) (slot_count given.type) (slot_end_of given.type) t
    unfolding CountedAs
    counted = rw given.stands at (g.counts 0) none-zero

    refused-unmapped : unmapped given.type ≡ true → SlotsAre table pool (Err Unmapped) out out
    unfolding slotting unless_zero unless
    refused-unmapped u = refused table pool out Unmapped (finding ∙ rw (none-zero, u))

    pub slots_other : t.unmapped ≡ true → SlotsAre table pool (Err Unmapped) out out
    slots_other u =
        refused-unmapped (unmapped-counted given.type ∙ go (holds_other_reference given.type) (holds_hidden_reference given.type) _ (sym counted.unmapped-is ∙ u))
      where
        go : (a b c : Bool) → (a || b) ≡ true → (a || (b || c)) ≡ true
        go true b c h = refl
        go false b c h = rw h

    pub slots-many : s.size / 8 < t.count → SlotsAre table pool (Err Unmapped) out out
    slots-many l =
        let w : type_size_of given.type / 8 < slot_count given.type = omega (arith, counted.count-is, ap (λ (n : ℕ). n / 8) sized) in
        refused-unmapped (unmapped-counted given.type ∙ rw (lt-ltb (type_size_of given.type / 8) (slot_count given.type) w, or-true, or-true))

    pub slots_far : s.size < t.end → SlotsAre table pool (Err Unmapped) out out
    slots_far l =
        let w : type_size_of given.type < slot_end_of given.type = omega (arith, counted.end_is, sized) in
        refused-unmapped (unmapped-counted given.type ∙ rw (lt-ltb (type_size_of given.type) (slot_end_of given.type) w, or-true, or-true, or-true))

    module _ (u : t.unmapped ≡ false) (m : t.count ≤ s.size / 8) (n : t.end ≤ s.size) (low : s.size < 4294967296) where
      all-counted : slot_count given.type ≡ t.count
      all-counted = omega (arith, counted.count-is, div-mul-le_self s.size 8)

      all-ends : slot_end_of given.type ≤ type_size_of given.type
      all-ends = omega (arith, counted.end_is, sized)

      neither : (holds_other_reference given.type || holds_hidden_reference given.type) ≡ false
      neither = sym counted.unmapped-is ∙ u

      mapped : unmapped given.type ≡ false
      mapped =
          let w = or_neither (holds_other_reference given.type) (holds_hidden_reference given.type) neither in
          let q : slot_count given.type ≤ type_size_of given.type / 8 = omega (arith, all-counted, ap (λ (n : ℕ). n / 8) sized) in
          unmapped-counted given.type ∙ rw (w.0, w.1, le-ltb (type_size_of given.type / 8) (slot_count given.type) q, le-ltb (type_size_of given.type) (slot_end_of given.type) all-ends)

      long : length (slots given.type) ≡ t.count
      long = length-slots given.type ∙ all-counted

      pub slots-room : length out < t.count → SlotsAre table pool (Err (NoRoom t.count)) out out
      unfolding slotting unless_zero unless needed
      slots-room l =
          let e : min t.count 18446744073709551615 ≡ t.count = omega (arith, div-mul-le_self s.size 8) in
          refused table pool out (NoRoom t.count) (finding ∙ rw (none-zero, mapped, long, lt-leb t.count (length out) l, e))

      pub slots-found : (x : Put) (out' : List ℕ) → t.count ≤ length out → PutAt 32 table pool 0 0 out 0 x out' → SlotsAre table pool (Ok t.count) out out'
      unfolding PutAs slotting unless_zero unless output_after
      slots-found x out' r v =
          let w = rw given.stands at (v.lists 0) in
          let q : shifted 0 (slots given.type) ≡ slots given.type = shifted-zero (slots given.type) in
          let o : some_outside_of (type_size_of given.type) (slots given.type) ≡ false =
          slots-outside given.type (type_size_of given.type) ∙ le-ltb (type_size_of given.type) (slot_end_of given.type) all-ends in
          let p : Fits (slots given.type) out 0 = record { room = omega (arith, long); low = all-low (type_size_of given.type) (slots given.type) (omega (arith, sized)) o } in
          let l : Listed (slots given.type) out 0 x.next out' = rw q at (w (record { sized = none-zero; mapped = neither }) (rw q p)) in
          let d : finding_slots table pool (length out) ≡ gives (slots given.type) = finding ∙ rw (none-zero, mapped, long, le-leb t.count (length out) r) in
          record { answers = answers-given length _ _ (slots given.type) _ d (rw long); out-is = l.out-is ∙ rw d (sets-front (slots given.type) out (omega (arith, long))) }
