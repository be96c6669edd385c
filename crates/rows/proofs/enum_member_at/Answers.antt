use Rattle.rows.proofs.Known.{enum_member_none, enum_member_tested}
use Rattle.rows.proofs.Words.{row-past, row-is}
use Rattle.rows.proofs.enum_member_at.Goals as goal

pub returns-in_err-words : goal.returns-in_err-words
returns-in_err-words c = let both = enum_member_none _ _ _ _ (row-past _ _ _ c.row_words.ensures c.in_err-words.was) c.from_residual.ensures in record { is = both.0; inside = both.1 }

pub returns : goal.returns
returns c = let both = enum_member_tested _ _ _ _ (row-is _ _ _ c.row_words.ensures c.in_ok-words.was) c.then_some.ensures c.member_columns.ensures (cc) in record { is = both.0; inside = both.1 }
