use Rattle.listing.proofs.Pieces.{digits_none, digits_one, digits_more}
use Rattle.listing.proofs.+put_digits.Goals as goal

pub returns-then-digits-eq0 : goal.returns-then-digits-eq0
returns-then-digits-eq0 t c = search digits_none

pub returns-then-n-lt10 : goal.returns-then-n-lt10
returns-then-n-lt10 t c = search digits_one

pub returns : goal.returns
returns t c = search digits_more
