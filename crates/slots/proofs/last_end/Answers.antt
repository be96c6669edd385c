use Rattle.std.proofs.Common.{◌∙◌}
use Rattle.slots.proofs.Numbers.{last-zero, last_none, last-is}
use Rattle.slots.proofs.last_end.Goals as goal
use Rattle.slots.proofs.last_end.Goals.{then-end-eq0-via-then-end-eq0, then-end-eq0-via-else-end-eq0+then-n-eq0}

pub returns-then-end-eq0 : goal.returns-then-end-eq0
returns-then-end-eq0 c =
    elim c.then-end-eq0.branch [
      | then-end-eq0-via-then-end-eq0 w ↦ last-zero _ _ _ w.if-end-eq0.true
      | then-end-eq0-via-else-end-eq0+then-n-eq0 w ↦ last_none _ _ _ w.if-n-eq0.true
    ]

pub returns : goal.returns
returns c = c.min.ensures ∙ rw (c.saturating_add.ensures, c.saturating_mul-last.ensures, c.from.ensures) (last-is _ _ _ c.if-end-eq0.false c.if-n-eq0.false)
