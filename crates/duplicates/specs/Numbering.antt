-- The numbers of the records' firsts, as stored.
use Rattle.std.specs.Prelude.{ℕ, ◌≡◌, List}
use Rattle.firsts.specs.Found.{Standing, numbers_in}
use Rattle.firsts.specs.declared.found.Found.{Found}

-- the firsts found, and the number of each
pub record Numbered (f : Found) (ns : List ℕ) : Type 0 where
  pub standing : Standing f
  pub numbers : ns ≡ numbers_in f
