-- What the writing functions ensure of a type that is found and can be stored; and what `write` promises.
use Rattle.std.specs.Prelude.{ℕ, ◌≡◌, true, List, [], ◌∷◌, length, Option, Result}
use Rattle.refusal.specs.declared.Refusal.{Refusal}
use Rattle.format.specs.Datatype.{Datatype, Members}
use Rattle.format.specs.Message.{message, member_bytes, storable, storable_members, carried, carried_members, writing}
use Rattle.format.specs.Outcome.{output_after, Answers}
use Rattle.format.specs.Table.{Found, found, bad}
use Rattle.writer_parts.specs.Places.{Stands}
use Rattle.writer_parts.specs.declared.Written.{Written}

-- nothing is said where no type is found, or one that cannot be stored
unfoldable pub PutsFound : (edition at : ℕ) → Found Datatype → Option Written → (out out' : List ℕ) → Type 0
PutsFound e at (found t r p) x out out' = storable t ≡ true → carried e t ≡ true → Stands (message e t) r p at x out out'
PutsFound e at bad x out out' = Unit {0}

pub record PutsType (e at : ℕ) (y : Found Datatype) (x : Option Written) (out out' : List ℕ) : Type 0 where
  pub puts : PutsFound e at y x out out'

unfoldable pub PutsFoundMembers : (edition size at : ℕ) → Found Members → Option Written → (out out' : List ℕ) → Type 0
PutsFoundMembers e n at (found ms r p) x out out' = storable_members n ms ≡ true → carried_members e ms ≡ true → Stands (member_bytes e n ms) r p at x out out'
PutsFoundMembers e n at bad x out out' = Unit {0}

pub record PutsMembers (e n at : ℕ) (y : Found Members) (x : Option Written) (out out' : List ℕ) : Type 0 where
  pub puts : PutsFoundMembers e n at y x out out'

-- `write`: the length of the message or why it is refused, and every byte of `out`. "Success writes the result and nothing past it", a refusal
-- leaves `out` as it was
pub record Writes (table pool : List ℕ) (edition : ℕ) (r : Result ℕ Refusal) (out out' : List ℕ) : Type 0 where
  pub answers : Answers length (λ n. n ∷ []) (writing table pool edition (length out)) r
  pub out-is : out' ≡ output_after out (writing table pool edition (length out))
