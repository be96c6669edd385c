use Rattle.std.proofs.Common.{◌∙◌}
use Rattle.command.proofs.Starts.{start-is}
use Rattle.command.proofs.is_hdf5_file.Goals as goal

pub returns : goal.returns
returns c = c.starts_with.ensures.value ∙ start-is _
