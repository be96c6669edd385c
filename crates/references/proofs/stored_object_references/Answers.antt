use native.Mathlib.Omega.{arith}
use Rattle.references.proofs.Laws.{is-outside, is_no_room, is_found}
use Rattle.references.proofs.stored_object_references.Goals as goal

pub returns-then-some_outside : goal.returns-then-some_outside
returns-then-some_outside c = search is-outside

pub returns-then-room-needed : goal.returns-then-room-needed
returns-then-room-needed c = search (is_no_room, arith)

pub returns : goal.returns
returns c = search is_found
