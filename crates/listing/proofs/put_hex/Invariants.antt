use Rattle.listing.specs.Text.{hexadecimal}
use Rattle.listing.proofs.Pieces.{PutFirst}
use Rattle.listing.proofs.put_hex.Given as goal

abbrev pub invariant-loop-byte : goal.invariant-loop-byte
invariant-loop-byte l = PutFirst hexadecimal l.bytes l.at l.initial.out l.byte-index l.a l.out
