use Rattle.listing.proofs.Pieces.{PutFirst, Same}
use Rattle.listing.proofs.put_text.Given as goal

abbrev pub invariant-loop-byte : goal.invariant-loop-byte
invariant-loop-byte l = PutFirst Same l.text l.at l.initial.out l.byte-index l.a l.out
