use Rattle.rows.specs.Columns.{leaf_columns_of}
use Rattle.rows.proofs.leaf_columns.Goals as goal

pub returns : goal.returns
unfolding leaf_columns_of
returns c = cc
