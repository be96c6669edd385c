use borrow.Author.Rules.{rules}
use Rattle.listing.proofs.Pieces.{name_empty, name-some}
use Rattle.listing.proofs.put_piece.Goals as goal

pub returns-then-is_empty : goal.returns-then-is_empty
returns-then-is_empty c = search (name_empty, rules)

pub returns : goal.returns
returns c = search (name-some, rules)
