use borrow.Author.Rules.{rules}
use Rattle.writer_parts.proofs.Leaves.{width_two, width_one, width_four}
use Rattle.writer_parts.proofs.column_width.Goals as goal

pub returns-in-0-to-8 : goal.returns-in-0-to-8
returns-in-0-to-8 c = search (rules, width_two, width_one, width_four)

pub returns-in-9-to-12 : goal.returns-in-9-to-12
returns-in-9-to-12 c = search (rules, width_two, width_one, width_four)

pub returns-in_default : goal.returns-in_default
returns-in_default c = search (rules, width_two, width_one, width_four)
