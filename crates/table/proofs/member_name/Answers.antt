use Rattle.table.proofs.Naming.{name-taken}
use Rattle.table.proofs.member_name.Goals as goal

pub returns : goal.returns
returns c = let both = name-taken _ c.name_part-part.ensures in record { is = both.0; begins = both.1 }
