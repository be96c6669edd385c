use Rattle.reader_behind.proofs.Ending.{string_stored, sequence_stored}
use Rattle.reader_behind.proofs.put_variable_row.Goals.{then-low4-eq1, else-low4-eq1}
use Rattle.reader_behind.proofs.put_variable_row.Goals as goal

pub returns : goal.returns
returns c = elim c.if-low4-eq1.branch [ then-low4-eq1 w ↦ search (string_stored, w.string-is) | else-low4-eq1 w ↦ search (sequence_stored, w.string-is) ]
