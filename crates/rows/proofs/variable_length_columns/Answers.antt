use Rattle.rows.specs.Columns.{variable_length_columns_of}
use Rattle.rows.proofs.variable_length_columns.Goals as goal

pub returns : goal.returns
unfolding variable_length_columns_of
returns c = cc
