use Rattle.writer_parts.proofs.Placing.{number-full, number-stored, number-of_width}
use Rattle.writer_parts.proofs.put_number.Goals as goal

pub returns-then-saturating_sub-width : goal.returns-then-saturating_sub-width
returns-then-saturating_sub-width c = search number-full

pub returns-in-1 : goal.returns-in-1
returns-in-1 c = search number-of_width

pub returns-in-2 : goal.returns-in-2
returns-in-2 c = search number-of_width

pub returns-in_default : goal.returns-in_default
returns-in_default c = search number-stored
