use Rattle.listing.proofs.Answering.{fields-put}
use Rattle.listing.proofs.put_fields.Goals as goal

pub returns : goal.returns
returns c = search fields-put
