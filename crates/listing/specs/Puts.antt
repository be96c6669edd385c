-- What the functions ensure that put a piece of a text at a place of `out`.
use Rattle.std.specs.Prelude.{ℕ, ◌+◌, ◌*◌, ◌≤◌, min, ◌≡◌, List, length}
use Rattle.std.specs.Prelude.{Option, Some, None}
use Rattle.std.proofs.Math.Option as maybe
use Rattle.std.proofs.lemmas.List.Edits.{sets}
use Rattle.format.specs.Datatype.{Datatype, Members}
use Rattle.format.specs.Table.{Found, found}
use Rattle.rows.specs.declared.Entry.{Entry}
use Rattle.rows.specs.declared.Entry.TheVariants.{Leaf, Compound, Enumeration, VariableLength, Array}
use Rattle.listing.specs.Text.{line, lines, member_lines}
use Rattle.std.specs.Borrow.{Bor}
use Rattle.listing.specs.declared.Inside.{Inside}
use Rattle.listing.specs.declared.Inside.TheVariants.{Nothing, Members as InsideMembers, Base}

-- the greatest place
abbrev pub last : ℕ
last = 18446744073709551615

-- the bytes stand in `out` as far as it goes, and the place behind them is answered, at most `last`
pub record Puts (bytes : List ℕ) (at r : ℕ) (out out' : List ℕ) : Type 0 where
  pub behind : at ≤ last → r ≡ min (at + length bytes) last
  pub written : at ≤ last → length out ≤ last → out' ≡ sets out at bytes

-- the name that a line shows
unfoldable pub name_of : Option (Bor (List ℕ)) → maybe.Option (List ℕ)
name_of None = maybe.none
name_of (Some x) = maybe.some x.now

-- the class of a row, and what is inside its type, whose pool bytes begin at p
unfoldable pub class_in : Option Entry → Option ℕ
class_in (Some (Leaf c n l x)) = Some c
class_in (Some (Compound n k)) = Some 6
class_in (Some (Enumeration n k)) = Some 8
class_in (Some (VariableLength i a c)) = Some 9
class_in (Some (Array k)) = Some 10
class_in None = None

unfoldable pub inside_of : (p : ℕ) → Option Entry → Inside
inside_of p (Some (Leaf c n l x)) = Nothing
inside_of p (Some (Compound n k)) = InsideMembers k
inside_of p (Some (Enumeration n k)) = Base p
inside_of p (Some (VariableLength i a c)) = Base p
inside_of p (Some (Array k)) = Base (p + k * 4)
inside_of p None = Nothing

-- a row with something inside lies in the table
unfoldable pub RowInside : Inside → (words r : ℕ) → Type 0
RowInside Nothing words r = Unit {0}
RowInside (InsideMembers k) words r = r * 16 + 16 ≤ words
RowInside (Base p) words r = r * 16 + 16 ≤ words

pub record InsideAt (e : Option Entry) (words r p : ℕ) (y : Inside) : Type 0 where
  pub is : y ≡ inside_of p e
  pub row_inside : RowInside y words r

-- of the type that is found; nothing is said where none is
pub record PutsLine (l o : ℕ) (b : maybe.Option (List ℕ)) (at : ℕ) (y : Found Datatype) (x : ℕ) (out out' : List ℕ) : Type 0 where
  pub puts : (t : Datatype) (r p : ℕ) → y ≡ found t r p → Puts (line l o b t) at x out out'

pub record PutsType (l o : ℕ) (b : maybe.Option (List ℕ)) (at : ℕ) (y : Found Datatype) (x : ℕ) (out out' : List ℕ) : Type 0 where
  pub puts : (t : Datatype) (r p : ℕ) → y ≡ found t r p → Puts (lines l o b t) at x out out'

-- of the members that are found
pub record PutsMembers (l at : ℕ) (y : Found Members) (x : ℕ) (out out' : List ℕ) : Type 0 where
  pub puts : (ms : Members) (r p : ℕ) → y ≡ found ms r p → Puts (member_lines l ms) at x out out'
