-- What `stored_object_references` promises.
use Rattle.std.specs.Prelude.{ℕ, min, ◌≡◌, List, [], ◌∷◌, ◌++◌, length, drop, Result}
use Rattle.refusal.specs.declared.Refusal.{Refusal}
use Rattle.format.specs.Outcome.{Outcome, gives, refuses, Answers}
use Rattle.format.specs.Slots.{References, referencing}

-- the values of a result: the count
unfoldable pub references_values : ℕ → List ℕ
references_values n = n ∷ []

-- the lent places and values afterwards: the result and nothing past it, or untouched
unfoldable pub places_after : List ℕ → Outcome References → List ℕ
places_after out (gives x) = x.places ++ drop (length x.places) out
places_after out (refuses e) = out

unfoldable pub values_after : List ℕ → Outcome References → List ℕ
values_after out (gives x) = x.values ++ drop (length x.values) out
values_after out (refuses e) = out

-- The answer, with Document 01's number and values: 0 and the count, or the refusal's. The room is the shorter of the two lent slices.
pub record ReferencesAre (block : List ℕ) (size : ℕ) (slots : List ℕ) (r : Result ℕ Refusal) (places places' values values' : List ℕ) : Type 0 where
  pub answers : Answers (λ (x : References). length x.places) references_values (referencing block size slots (min (length places) (length values))) r
  pub places-are : places' ≡ places_after places (referencing block size slots (min (length places) (length values)))
  pub values-are : values' ≡ values_after values (referencing block size slots (min (length places) (length values)))
