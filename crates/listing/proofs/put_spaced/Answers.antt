use Rattle.listing.proofs.Pieces.{spaced-begun, spaced-next, spaced-ended}
use Rattle.listing.proofs.put_spaced.Goals as goal

pub loop-number-init : goal.loop-number-init
loop-number-init c = search spaced-begun

pub loop-number-preserved : goal.loop-number-preserved
loop-number-preserved c = search spaced-next

pub returns : goal.returns
returns c = search spaced-ended
