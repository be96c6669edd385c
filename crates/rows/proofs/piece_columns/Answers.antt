use Rattle.rows.specs.Columns.{piece_columns_of}
use borrow.Author.Tests.{eq-eqb, ne_eqb}
use Rattle.rows.proofs.piece_columns.Goals as goal

pub returns-then-words-place : goal.returns-then-words-place
unfolding piece_columns_of
returns-then-words-place c = rw (ne_eqb _ _ c.if-words-place.true)

pub returns : goal.returns
unfolding piece_columns_of
returns c = rw (eq-eqb _ _ c.if-words-place.false) (cc)
