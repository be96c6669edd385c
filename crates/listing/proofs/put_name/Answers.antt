use Rattle.listing.proofs.Pieces.{nameless-put, name-put}
use Rattle.listing.proofs.put_name.Goals as goal

pub returns-in-None : goal.returns-in-None
returns-in-None c = search nameless-put

pub returns-in-Some : goal.returns-in-Some
returns-in-Some c = search name-put
