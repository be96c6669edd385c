use Rattle.format.proofs.Bytes.{byte_below}
use Rattle.measure.proofs.Made.{array-below}
use Rattle.measure.proofs.array_measure.Goals as goal

pub returns-clause-below : goal.returns-clause-below
returns-clause-below c = search (array-below, byte_below)
