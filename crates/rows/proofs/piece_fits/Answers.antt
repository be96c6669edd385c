use Rattle.rows.proofs.Known.{fits-past, fits-behind}
use Rattle.rows.proofs.piece_fits.Goals as goal

pub returns-then-lent-place : goal.returns-then-lent-place
returns-then-lent-place c = search fits-past

pub returns : goal.returns
returns c = search fits-behind
