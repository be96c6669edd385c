use mathlib.Core.Path.{◌∙◌}
use Rattle.rows.proofs.Columns.{answered, short-entry}
use Rattle.rows.proofs.Known.{none-answered, entry-tested}
use Rattle.rows.proofs.Words.{row-past, row-is, same-entry}
use Rattle.rows.proofs.entry_at.Goals as goal

pub returns-in_err-words : goal.returns-in_err-words
returns-in_err-words c = let both = answered _ _ _ _ (c.from_residual.ensures ∙ short-entry _ _ _ _ (row-past _ _ _ c.row_words.ensures c.in_err-words.was)) in record { is = both.0; inside = both.1 }

pub returns-in_err-entry : goal.returns-in_err-entry
returns-in_err-entry c =
    let first = none-answered _ c.args.pool.now _ c.args.place c.words_entry.ensures c.in_err-entry.was c.from_residual-in_err-entry.ensures in
    let both = answered _ _ _ _ (first.0 ∙ same-entry (row-is _ _ _ c.row_words.ensures c.in_ok-words.was) _ _) in
    record { is = both.0; inside = both.1 }

pub returns : goal.returns
returns c =
    let first = entry-tested _ _ _ _ c.words_entry.ensures c.in_ok-entry.was c.then_some.ensures c.row_known.ensures in
    let both = answered _ _ _ _ (first.0 ∙ same-entry (row-is _ _ _ c.row_words.ensures c.in_ok-words.was) _ _) in
    record { is = both.0; inside = both.1 }
