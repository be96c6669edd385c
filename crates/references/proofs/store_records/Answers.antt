use native.Mathlib.Omega.{arith}
use Rattle.references.proofs.Laws.{record_room, slot_in_block, places-more, values-more, none-stored, all-records}
use borrow.Author.Rules.{rules}
use Rattle.references.proofs.store_records.Goals as goal

pub loop-i-init : goal.loop-i-init
loop-i-init c = search (none-stored, rules)

pub store_record-requires : goal.store_record-requires
store_record-requires c = search (slot_in_block, record_room)

pub loop-i-preserved : goal.loop-i-preserved
loop-i-preserved c = search (places-more, values-more, rules)

pub returns : goal.returns
returns c = let l = c.loop-i in
    all-records _ l.places _ l.values _ _ _ l.i _ (omega arith) l.invariant.0 l.invariant.1
