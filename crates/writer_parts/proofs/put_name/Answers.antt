use Rattle.writer_parts.proofs.Placing.{name-placed}
use Rattle.writer_parts.proofs.put_name.Goals as goal

pub returns : goal.returns
returns c = search name-placed
