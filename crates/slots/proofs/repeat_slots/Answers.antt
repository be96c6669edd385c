use Rattle.std.proofs.Common.{rules}
use Rattle.slots.proofs.Repeating.{repeat_none, repeat_short, repeat_full, doubling_start, doubling_end, doubling_room, doubling_next}
use Rattle.slots.proofs.repeat_slots.Goals as goal

pub returns-then-next-at : goal.returns-then-next-at
returns-then-next-at c = search repeat_none

pub returns-then-out-next : goal.returns-then-out-next
returns-then-out-next c = search repeat_short

pub returns-then-out-at : goal.returns-then-out-at
returns-then-out-at c = search repeat_full

pub loop-done-init : goal.loop-done-init
loop-done-init c = search doubling_start

pub move_on-requires : goal.move_on-requires
move_on-requires c = search (doubling_room, rules)

pub loop-done-preserved : goal.loop-done-preserved
loop-done-preserved c = search doubling_next

pub returns : goal.returns
returns c = search doubling_end
