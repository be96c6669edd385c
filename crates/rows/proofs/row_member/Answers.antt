use Rattle.rows.proofs.Known.{names-short, names-columns}
use Rattle.rows.proofs.Words.{row-past, row-is}
use Rattle.rows.proofs.row_member.Goals as goal

pub returns-in_err-row_words : goal.returns-in_err-row_words
returns-in_err-row_words c = rw c.from_residual.ensures (names-short _ _ (row-past _ _ _ c.row_words.ensures c.in_err-row_words.was))

pub returns : goal.returns
returns c = names-columns (row-is _ _ _ c.row_words.ensures c.in_ok-row_words.was) c.member_columns.ensures
