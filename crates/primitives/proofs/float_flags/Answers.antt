use Rattle.primitives.proofs.Laws.{float_flags_made}
use Rattle.primitives.proofs.float_flags.Goals as goal

pub returns : goal.returns
returns c = float_flags_made _ c.requires
