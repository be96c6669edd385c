use Rattle.rows.specs.Columns.{group_columns_of}
use Rattle.rows.proofs.group_columns.Goals as goal

pub returns : goal.returns
unfolding group_columns_of
returns c = cc
