use Rattle.rows.proofs.Known.{says-short}
use Rattle.rows.proofs.Words.{row-past, row-is, says-moved}
use Rattle.rows.proofs.row_entry.Goals as goal

pub returns-in_err-row_words : goal.returns-in_err-row_words
returns-in_err-row_words c = rw c.from_residual.ensures (says-short _ _ (row-past _ _ _ c.row_words.ensures c.in_err-row_words.was))

pub returns : goal.returns
returns c = says-moved (row-is _ _ _ c.row_words.ensures c.in_ok-row_words.was) c.words_entry.ensures
