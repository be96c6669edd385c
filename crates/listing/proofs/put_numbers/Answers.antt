use Rattle.listing.proofs.Pieces.{put_as, numbers-put}
use Rattle.listing.proofs.put_numbers.Goals as goal

pub returns : goal.returns
returns c = put_as (cc) (numbers-put _ _ c.put_digits-behind.ensures c.put_spaced.ensures)
