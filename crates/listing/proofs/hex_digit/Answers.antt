use Rattle.listing.proofs.Pieces.{hex_low, hex_high}
use Rattle.listing.proofs.hex_digit.Goals as goal

pub returns-then-digit-lt10 : goal.returns-then-digit-lt10
returns-then-digit-lt10 c = search hex_low

pub returns : goal.returns
returns c = search hex_high
