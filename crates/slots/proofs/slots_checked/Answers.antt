use Rattle.std.proofs.Common.{rules}
use Rattle.slots.proofs.Answers.{slots-zero, slots_other, slots-many, slots_far, slots-room, slots-found}
use Rattle.slots.proofs.slots_checked.Goals as goal
use Rattle.slots.proofs.slots_checked.Goals.{then-t-via-then-t, then-t-via-else-t+then-size-t, then-t-via-else-t+else-size-t+then-size-t-2}

pub returns-in-Some : goal.returns-in-Some
returns-in-Some c = search slots-zero

pub returns-then-t : goal.returns-then-t
returns-then-t c =
    let t = rw (c.outermost-path.ensures.1, c.outermost-path.ensures.0) at c.tally_type-t.ensures in
    elim c.then-t.branch [
      | then-t-via-then-t w ↦ slots_other _ _ _ c.requires c.in_default.is _ t w.if-t.true
      | then-t-via-else-t+then-size-t w ↦ slots-many _ _ _ c.requires c.in_default.is _ t (rw c.from-size.ensures at w.if-size-t.true)
      | then-t-via-else-t+else-size-t+then-size-t-2 w ↦ slots_far _ _ _ c.requires c.in_default.is _ t (rw c.from-size.ensures at w.if-size-t-2.true)
    ]

pub returns-then-out-count : goal.returns-then-out-count
returns-then-out-count c =
    let t = rw (c.outermost-path.ensures.1, c.outermost-path.ensures.0) at c.tally_type-t.ensures in
    slots-room _ _ _ c.requires c.in_default.is _ t c.if-t.false (rw c.from-size.ensures at c.if-size-t.false) (rw c.from-size.ensures at c.if-size-t-2.false) (search rules) c.if-out-count.true

pub returns : goal.returns
returns c =
    let t = rw (c.outermost-path.ensures.1, c.outermost-path.ensures.0) at c.tally_type-t.ensures in
    let p = rw (c.outermost-path.ensures.1, c.outermost-path.ensures.0) at c.put_type.ensures in
    slots-found _ _ _ c.requires c.in_default.is _ t c.if-t.false (rw c.from-size.ensures at c.if-size-t.false) (rw c.from-size.ensures at c.if-size-t-2.false) (search rules) _ _ c.if-out-count.false p
