-- Answers by an outcome.
use Rattle.std.specs.Prelude.{◌≡◌, refl, ℕ, List, Result, Ok, Err}
use Rattle.std.proofs.Common.{ap, ◌∙◌, sym}
use Rattle.refusal.specs.Refusal.{answer_number, answer_values}
use Rattle.refusal.specs.declared.Refusal.{Refusal}
use Rattle.format.specs.Outcome.{Outcome, gives, refuses, outcome_number, outcome_values, answer_of, Answers}

-- the answer alone decides its number and values
pub answers : {A B : Type 0} (f : A → B) (shown : B → List ℕ) (o : Outcome A) (r : Result B Refusal) → r ≡ answer_of f o → Answers f shown o r
unfolding answer_of answer_number answer_values outcome_number outcome_values
answers f shown (gives x) r e = record { answer = e; number = ap answer_number e; values = ap (answer_values shown) e }
answers f shown (refuses x) r e = record { answer = e; number = ap answer_number e; values = ap (answer_values shown) e }

-- a result and a refusal, by what the outcome is
pub answers-given : {A B : Type 0} (f : A → B) (shown : B → List ℕ) (o : Outcome A) (x : A) (r : Result B Refusal) → o ≡ gives x → r ≡ Ok (f x) → Answers f shown o r
unfolding answer_of
answers-given f shown o x r e q = answers f shown o r (q ∙ sym (ap (answer_of f) e))

pub answers-refused : {A B : Type 0} (f : A → B) (shown : B → List ℕ) (o : Outcome A) (e : Refusal) (r : Result B Refusal) → o ≡ refuses e → r ≡ Err e → Answers f shown o r
unfolding answer_of
answers-refused f shown o x r e q = answers f shown o r (q ∙ sym (ap (answer_of f) e))

-- what the outcome is, by an answer
pub answer-gives : {A B : Type 0} (f : A → B) (o : Outcome A) (x : B) → Ok x ≡ answer_of f o → (g : A) × (o ≡ gives g) × (x ≡ f g)
unfolding answer_of
answer-gives f (gives g) x e = (g, refl, cc)
answer-gives f (refuses u) x e = absurd cc

pub answer-refuses : {A B : Type 0} (f : A → B) (o : Outcome A) (e : Refusal) → Err e ≡ answer_of f o → o ≡ refuses e
unfolding answer_of
answer-refuses f (gives g) e h = absurd cc
answer-refuses f (refuses u) e h = let k : u ≡ e = cc in ap refuses k
