-- The answers of `list_fields` and `list_refusal`, and what they leave in `out`.
use Prim.Native.Nat.{ℕ, ◌+◌, ◌*◌, ◌<◌, ◌≤◌, min}
use mathlib.Core.Path.{◌≡◌, refl, sym, ap, ◌∙◌}
use mathlib.Core.List.{List, [], ◌∷◌, ◌++◌}
use native.Mathlib.Omega.{arith}
use lib.ListN.{length, drop}
use Rattle.std.specs.Prelude.{Option, None, Result, Ok, Err}
use Rattle.std.specs.Option.{ok_or}
use borrow.Author.Tests.{le-leb, lt-leb}
use Rattle.refusal.specs.declared.Refusal.{Refusal}
use Rattle.refusal.specs.declared.Refusal.TheVariants.{BadTable, NoRoom}
use Rattle.format.specs.Datatype.{Datatype}
use Rattle.format.specs.Outcome.{Outcome, gives, refuses, when_given, unless, output_after, needed}
use Rattle.format.proofs.Outcomes.{answers-given, answers-refused}
use Rattle.format.specs.Table.{Found, type_at, type_of}
use Rattle.format.proofs.Lists.{sets-front}
use Rattle.format.proofs.Table.{type-found}
use Rattle.table.specs.Survey.{Checks}
use Rattle.table.specs.declared.Survey.{Survey}
use Rattle.listing.specs.Text.{heading, fields_text, fitting, fields_listing}
use Rattle.listing.specs.Puts.{Puts, name_of, PutsType}
use Rattle.listing.specs.Answers.{Answers, PutsFields}
use Rattle.table.proofs.Answers.{ok-some, bad-table, bad-answer}
use Rattle.listing.proofs.Pieces.{then-put}

-- ---- an outcome's answer

module _ {o : Outcome (List ℕ)} {out : List ℕ} where
  refused : {e : Refusal} → o ≡ refuses e → Answers o (Err e) out out
  unfolding output_after
  refused {e = e} h = record { answers = answers-refused _ _ o e _ h refl; out-is = sym (ap (output_after out) h) }

  given : {s out' : List ℕ} {n : ℕ} → o ≡ gives s → n ≡ length s → out' ≡ s ++ drop (length s) out → Answers o (Ok n) out out'
  unfolding output_after
  given {s = s} h e w = record { answers = answers-given length _ o s _ h (ap Ok e); out-is = w ∙ sym (ap (output_after out) h) }

-- ---- a text, measured without room

module _ (s : List ℕ) {n : ℕ} {none none' : List ℕ} (m : Puts s 0 n none none') (out : List ℕ) where
  long : n ≡ min (0 + length s) 18446744073709551615
  long = m.behind (omega arith)

  fitting-not : length out < n → fitting (length out) s ≡ refuses (NoRoom n)
  unfolding fitting unless needed
  fitting-not h =
      let k : min (length s) 18446744073709551615 ≡ n = omega (arith, long) in
      rw (lt-leb (length s) (length out) (omega (arith, long)), k)

  fitting-there : length s ≤ length out → fitting (length out) s ≡ gives s
  unfolding fitting unless
  fitting-there h = rw (le-leb (length s) (length out) h)

  pub no_room : length out < n → Answers (fitting (length out) s) (Err (NoRoom n)) out out
  no_room h = refused (fitting-not h)

  pub room : length out * 1 < 9223372036854775808 → n ≤ length out → {k : ℕ} {out' : List ℕ} → Puts s 0 k out out' → Answers (fitting (length out) s) (Ok n) out out'
  room small h x =
      let l : n ≡ length s = omega (arith, long) in
      given (fitting-there (omega arith)) l (x.written (omega arith) (omega arith) ∙ sets-front s out (omega arith))

-- ---- the lines of the type that a table and pool set out

pub fields-put : {y : Found Datatype} (pool : List ℕ) {a r : ℕ} {out out₁ out₂ : List ℕ}
    → Puts (108 ∷ 101 ∷ 118 ∷ 101 ∷ 108 ∷ 32 ∷ 99 ∷ 108 ∷ 97 ∷ 115 ∷ 115 ∷ 32 ∷ 111 ∷ 102 ∷ 102 ∷ 115 ∷ 101 ∷ 116 ∷ 32 ∷ 115 ∷ 105 ∷ 122 ∷ 101 ∷ 32 ∷ 110 ∷ 97 ∷ 109 ∷ 101 ∷ 10 ∷ []) 0 a out out₁
    → PutsType 1 0 (name_of None) a y r out₁ out₂ → PutsFields y r out out₂
unfolding fields_text heading name_of
fields-put pool x m = record { puts = λ t r p f. then-put x (m.puts t r p f) }

pub fields-said : (table pool : List ℕ) (t : Datatype) → type_of table pool ≡ gives t → {k : ℕ} {o o' : List ℕ} → PutsFields (type_at 32 table pool 0 0) k o o' → Puts (fields_text t) 0 k o o'
fields-said table pool t h x = let f = type-found table pool t h in x.puts t f.row f.place f.is

-- ---- a table that is checked

module _ (table pool out : List ℕ) {x : Option Survey} (k : Checks table pool x) {o : Result Survey Refusal} (w : o ≡ ok_or x BadTable) where
  pub list-bad : {a : Result ℕ Refusal} {e y : Refusal} → o ≡ Err e → a ≡ Err y → y ≡ e → Answers (fields_listing table pool (length out)) a out out
  unfolding fields_listing when_given
  list-bad i d f = rw (bad-answer table pool k w i d f) (refused (rw (bad-table table pool k w i)))

  pub list-good : {s : Survey} {r : Result ℕ Refusal} {out' : List ℕ} → o ≡ Ok s → ((t : Datatype) → type_of table pool ≡ gives t → Answers (fitting (length out) (fields_text t)) r out out') → Answers (fields_listing table pool (length out)) r out out'
  unfolding fields_listing when_given
  list-good {s = s} i j = let v = k.good s (ok-some w i) in rw v.is (j v.type v.is)
