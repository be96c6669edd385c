-- What is answered of runs that are compared, and of one that is hashed.
use Rattle.std.specs.Prelude.{ℕ, ◌/◌, ◌%◌, ◌≡◌, Bool, true, false, List, eqb}
use Rattle.format.specs.Bytes.{number_from, AllBytes}
use Rattle.format.specs.Image.{Field, FieldsAgree, FieldsDiffer}

-- the run that two words say
abbrev pub run_at : (place code : ℕ) → Field
run_at p c = record { place = p; size = c / 2; ended = eqb (c % 2) 1 }

-- of a list of runs
pub record SameIn (fs : List Field) (a b : List ℕ) (r : Bool) : Type 0 where
  pub same : r ≡ true → FieldsAgree fs a b
  pub differs : r ≡ false → FieldsDiffer fs a b

-- the number that at most 4 bytes stand for; being bytes, they are told by it
pub record Word (s : List ℕ) (r : ℕ) : Type 0 where
  pub is : r ≡ number_from s
  pub bytes : AllBytes s
