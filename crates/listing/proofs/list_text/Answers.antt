use native.Mathlib.Omega.{arith}
use borrow.Author.Rules.{rules}
use Rattle.listing.proofs.Answering.{no_room, room}
use Rattle.listing.proofs.list_text.Goals as goal

pub returns-then-out-length : goal.returns-then-out-length
returns-then-out-length g c = record { lists = λ s h. no_room s (h _ _ _ c.put-length.ensures) _ (omega arith) }

pub returns : goal.returns
returns g c = record { lists = λ s h. room s (h _ _ _ c.put-length.ensures) _ (search rules) (omega arith) (h _ _ _ c.put.ensures) }
