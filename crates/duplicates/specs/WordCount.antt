-- How long a workspace is with which `duplicates` is near-linear.
use Rattle.std.specs.Prelude.{ℕ, ◌+◌, ◌*◌, List, [], ◌∷◌, length, Result}
use Rattle.refusal.specs.declared.Refusal.{Refusal}
use Rattle.format.specs.Image.{fields_of}
use Rattle.format.specs.Outcome.{Outcome, gives, when_given, needed, Answers}
use Rattle.format.specs.Ownership.{admitting}
use Rattle.format.specs.Table.{type_of}
use Rattle.groups.specs.Runs.{runs_of}

-- 3 words a record and 2 a run
unfoldable pub most_words_of : (records runs : ℕ) → ℕ
most_words_of n k = needed (3 * n + 2 * k)

-- refusals 1, 12, 16 and 17, in this order, then the words
unfoldable pub words_needed : (table pool : List ℕ) (records : ℕ) → Outcome ℕ
words_needed table pool n = when_given (type_of table pool) (λ t. admitting t (gives (most_words_of n (length (runs_of (fields_of t))))))

-- the one value of a result
abbrev pub one_value : ℕ → List ℕ
one_value n = n ∷ []

abbrev pub WordsAre : Outcome ℕ → Result ℕ Refusal → Type 0
WordsAre o r = Answers (λ (n : ℕ). n) one_value o r
