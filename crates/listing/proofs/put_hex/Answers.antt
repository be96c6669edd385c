use Rattle.listing.proofs.Pieces.{hex_begun, hex_next, hex_ended}
use Rattle.listing.proofs.put_hex.Goals as goal

pub loop-byte-init : goal.loop-byte-init
loop-byte-init c = search hex_begun

pub loop-byte-preserved : goal.loop-byte-preserved
loop-byte-preserved c = search hex_next

pub returns : goal.returns
returns c = search hex_ended
