use Rattle.listing.proofs.Pieces.{text-begun, text-next, text-ended}
use Rattle.listing.proofs.put_text.Goals as goal

pub loop-byte-init : goal.loop-byte-init
loop-byte-init c = search text-begun

pub loop-byte-preserved : goal.loop-byte-preserved
loop-byte-preserved c = search text-next

pub returns : goal.returns
returns c = search text-ended
