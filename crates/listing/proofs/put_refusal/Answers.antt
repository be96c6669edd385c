use Rattle.listing.proofs.Pieces.{refusal_put}
use Rattle.listing.proofs.put_refusal.Goals as goal

pub returns : goal.returns
returns c = search refusal_put
