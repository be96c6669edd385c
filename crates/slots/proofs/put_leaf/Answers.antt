use Rattle.slots.proofs.Listing.{leaf_other, leaf-full, leaf-stored}
use Rattle.slots.proofs.put_leaf.Goals as goal
use Rattle.slots.proofs.put_leaf.Goals.{then-class-ne7-via-then-class-ne7, then-class-ne7-via-else-class-ne7+then-out-at}

pub returns-then-class-ne7 : goal.returns-then-class-ne7
returns-then-class-ne7 c =
    elim c.then-class-ne7.branch [
      | then-class-ne7-via-then-class-ne7 w ↦ leaf_other _ _ _ _ _ w.if-class-ne7.true
      | then-class-ne7-via-else-class-ne7+then-out-at w ↦ leaf-full _ _ _ _ _ w.if-class-ne7.false w.if-out-at.true
    ]

pub returns : goal.returns
returns c = rw c.from.ensures (search leaf-stored)
