use Rattle.format.specs.Table.{row}
use Rattle.reader_behind.proofs.put_member_row.Goals as goal

pub returns : goal.returns
unfolding row
returns c = search
