-- The answers of `list_fields` and `list_refusal`, and what they leave in `out`.
use Rattle.std.specs.Borrow.{MutBor}
use Rattle.std.specs.Fn.{Shared}
use Rattle.std.specs.Prelude.{ℕ, ◌≡◌, List, [], ◌∷◌, length, Result}
use Rattle.refusal.specs.declared.Refusal.{Refusal}
use Rattle.format.specs.Datatype.{Datatype}
use Rattle.format.specs.Outcome.{Outcome, output_after, Answers as AnsweredBy}
use Rattle.format.specs.Table.{Found, found}
use Rattle.listing.specs.Text.{fields_text, fitting, fields_listing, refusal_listing}
use Rattle.listing.specs.Puts.{Puts}

-- the values of an answer: the length of the text
unfoldable pub listing_values : ℕ → List ℕ
listing_values n = n ∷ []

-- an answer, and every byte of `out`, by the definition's outcome
pub record Answers (o : Outcome (List ℕ)) (r : Result ℕ Refusal) (out out' : List ℕ) : Type 0 where
  pub answers : AnsweredBy length listing_values o r
  pub out-is : out' ≡ output_after out o

-- of the type that is found
pub record PutsFields (y : Found Datatype) (x : ℕ) (out out' : List ℕ) : Type 0 where
  pub puts : (t : Datatype) (r p : ℕ) → y ≡ found t r p → Puts (fields_text t) 0 x out out'

-- of the text that every call of a closure puts from the start of its buffer
pub record ListsText {F : Type 0} (g : Shared F (MutBor (List ℕ) × Unit {0}) (ℕ × (MutBor (List ℕ) × Unit {0}))) (put : F) (r : Result ℕ Refusal) (out out' : List ℕ) : Type 0 where
  pub lists : (text : List ℕ) → ((p q : MutBor (List ℕ)) (n : ℕ) → g.post put (p, tt) (n, (q, tt)) → Puts text 0 n p.now q.now) → Answers (fitting (length out) text) r out out'

-- `list_fields` and `list_refusal`: success writes the text and nothing past it, a refusal leaves `out` as it was
abbrev pub ListsFields : (table pool : List ℕ) → Result ℕ Refusal → (out out' : List ℕ) → Type 0
ListsFields table pool r out out' = Answers (fields_listing table pool (length out)) r out out'

abbrev pub ListsRefusal : Refusal → Result ℕ Refusal → (out out' : List ℕ) → Type 0
ListsRefusal e r out out' = Answers (refusal_listing e (length out)) r out out'
