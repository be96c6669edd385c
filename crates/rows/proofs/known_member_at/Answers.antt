use Rattle.rows.proofs.Known.{unnamed-again, named-again}
use Rattle.rows.proofs.Words.{row-past, row-is}
use Rattle.rows.proofs.known_member_at.Goals as goal

pub returns-in_err-row_words : goal.returns-in_err-row_words
returns-in_err-row_words c = let both = unnamed-again _ _ _ _ (row-past _ _ _ c.row_words.ensures c.in_err-row_words.was) c.from_residual.ensures in record { is = both.0; inside = both.1 }

pub returns : goal.returns
returns c = let both = named-again _ _ _ _ (row-is _ _ _ c.row_words.ensures c.in_ok-row_words.was) c.named_at.ensures c.member_columns.ensures in record { is = both.0; inside = both.1 }
