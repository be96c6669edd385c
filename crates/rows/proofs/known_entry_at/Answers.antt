use Rattle.rows.proofs.Known.{none-again, known-again}
use Rattle.rows.proofs.known_entry_at.Goals as goal

pub returns-in_err-entry : goal.returns-in_err-entry
returns-in_err-entry c = let both = none-again _ _ _ _ c.row_entry.ensures c.in_err-entry.was c.from_residual.ensures in record { is = both.0; inside = both.1 }

pub returns : goal.returns
returns c = let both = known-again _ _ _ _ c.row_entry.ensures c.in_ok-entry.was c.then_some.ensures c.entry_fits.ensures in record { is = both.0; inside = both.1 }
