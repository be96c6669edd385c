use Rattle.join.proofs.Copying.{copied_none, copied_to, copied_more, copied_room}
use borrow.Author.Rules.{rules}
use Rattle.join.proofs.put_records.Goals as goal

pub loop-k-init : goal.loop-k-init
loop-k-init c = copied_none _ _

pub put_record-to-requires : goal.put_record-to-requires
put_record-to-requires c = (search rules, search rules, search (copied_room, rules))

pub loop-k-preserved : goal.loop-k-preserved
loop-k-preserved c = let l = c.loop-k in
    let p = c.put_record-to.ensures in
    (copied_to _ l.k l.to _ _ _ p l.invariant.0, copied_more _ l.k l.to _ _ _ p l.invariant.0 _ l.invariant.1)
