use mathlib.Core.Path.{◌∙◌}
use native.Mathlib.Nat.{zero-add}
use Rattle.rows.specs.Columns.{clear_columns_of}
use Rattle.rows.proofs.clear_columns.Goals as goal

pub returns : goal.returns
unfolding clear_columns_of
returns c = c.clear_word_block.ensures ∙ rw zero-add
