use Rattle.listing.specs.Text.{spaced}
use Rattle.listing.proofs.Pieces.{PutFirst}
use Rattle.listing.proofs.put_spaced.Given as goal

abbrev pub invariant-loop-number : goal.invariant-loop-number
invariant-loop-number l = PutFirst spaced l.numbers l.at l.initial.out l.number-index l.a l.out
