-- What the functions ensure that store a piece of a message: where it fits, it stands at its place and the place behind it is answered.
-- Nothing is said where it does not fit.
use Rattle.std.specs.Prelude.{Option, Some}
use Rattle.writer_parts.specs.declared.Written.{Written}
use Rattle.std.specs.Prelude.{ℕ, ◌+◌, ◌≤◌, max, ◌≡◌, List, length}
use Rattle.std.proofs.lemmas.List.Edits.{sets}

pub record Places (bytes : List ℕ) (at : ℕ) (x : Option ℕ) (out out' : List ℕ) : Type 0 where
  pub answer : at + length bytes ≤ length out → x ≡ Some (at + length bytes)
  pub written : at + length bytes ≤ length out → out' ≡ sets out at bytes

-- n bytes of the pool from p on lie in it; none do anywhere
abbrev pub Inside : (pool : List ℕ) (p n : ℕ) → Type 0
Inside pool p n = p + n ≤ max (length pool) p

-- bytes that are made from n bytes of the pool from p on; an answer other than None says that these lie in it
pub record PlacesFrom (pool : List ℕ) (p n : ℕ) (bytes : List ℕ) (at : ℕ) (x : Option ℕ) (out out' : List ℕ) : Type 0 where
  pub places : Inside pool p n → Places bytes at x out out'
  pub inside : (b : ℕ) → x ≡ Some b → Inside pool p n

-- the same with the next row and pool place
pub record Stands (bytes : List ℕ) (r p at : ℕ) (x : Option Written) (out out' : List ℕ) : Type 0 where
  pub answer : at + length bytes ≤ length out → x ≡ Some (record { row = r; place = p; at = at + length bytes })
  pub written : at + length bytes ≤ length out → out' ≡ sets out at bytes
