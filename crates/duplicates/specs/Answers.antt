-- What `duplicates` promises.
use Rattle.std.specs.Prelude.{ℕ, ◌≡◌, cond, List, [], ◌∷◌, ◌++◌, length, drop, ltb, Result, Ok, Err}
use Rattle.refusal.specs.declared.Refusal.{Refusal}
use Rattle.refusal.specs.declared.Refusal.TheVariants.{NoRoom}
use Rattle.format.specs.Bytes.{zeros}
use Rattle.format.specs.Outcome.{Outcome, gives, when_given, output_after, answer_of, Answers}
use Rattle.groups.specs.Groups.{firsts_to, sizes_to}
use Rattle.groups.specs.Duplicates.{Groups as GroupLists}
use Rattle.duplicates.specs.declared.Groups.{Groups}

-- "how many distinct registrations there are": as many as groups
unfoldable pub groups_told : GroupLists → Groups
groups_told g = record { records = length g.numbers; distinct = length g.sizes }

-- Document 01's values of a result
unfoldable pub groups_values : Groups → List ℕ
groups_values g = g.records ∷ g.distinct ∷ []

-- one of the lists, as an outcome
unfoldable pub numbers_given : Outcome GroupLists → Outcome (List ℕ)
numbers_given o = when_given o (λ g. gives g.numbers)

unfoldable pub sizes_given : Outcome GroupLists → Outcome (List ℕ)
sizes_given o = when_given o (λ g. gives g.sizes)

-- n records, d of them distinct, with room for so many groups
unfoldable pub fitting_answer : (n d places : ℕ) → Result Groups Refusal
fitting_answer n d places = cond (ltb places d) (Err (NoRoom d)) (Ok (record { records = n; distinct = d }))

-- a lent list afterwards: the result and nothing past it, or untouched
unfoldable pub written : Result Groups Refusal → (result old : List ℕ) → List ℕ
written (Ok g) result old = result ++ drop (length result) old
written (Err e) result old = old

-- where the records can be listed: ns names the first of each
pub record Listed (ns : List ℕ) (r : Result Groups Refusal) (numbers numbers' sizes sizes' : List ℕ) : Type 0 where
  pub answer : r ≡ fitting_answer (length ns) (length (firsts_to ns (length ns))) (length sizes)
  pub numbers-are : numbers' ≡ written r ns numbers
  pub sizes-are : sizes' ≡ written r (sizes_to ns (length ns)) sizes

-- the call without its workspace: the answer by the definition's outcome, and each entry of both lists afterwards
pub record Answered (o : Outcome GroupLists) (r : Result Groups Refusal) (numbers numbers' sizes sizes' : List ℕ) : Type 0 where
  pub answer : r ≡ answer_of groups_told o
  pub numbers-are : numbers' ≡ output_after numbers (numbers_given o)
  pub sizes-are : sizes' ≡ output_after sizes (sizes_given o)

-- `duplicates`: number and values, both lists and the workspace afterwards
pub record DuplicatesAre (o : Outcome GroupLists) (r : Result Groups Refusal) (numbers numbers' sizes sizes' work work' : List ℕ) : Type 0 where
  pub answers : Answers groups_told groups_values o r
  pub numbers-are : numbers' ≡ output_after numbers (numbers_given o)
  pub sizes-are : sizes' ≡ output_after sizes (sizes_given o)
  pub work_is : work' ≡ zeros (length work)
