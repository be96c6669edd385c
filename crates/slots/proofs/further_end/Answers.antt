use Rattle.std.proofs.Common.{◌∙◌}
use Rattle.slots.proofs.Numbers.{further-none, further-moved}
use Rattle.slots.proofs.further_end.Goals as goal

pub returns-then-end-eq0 : goal.returns-then-end-eq0
returns-then-end-eq0 c = c.min.ensures ∙ further-none _ _ _ c.if-end-eq0.true

pub returns : goal.returns
returns c = c.min-2.ensures ∙ rw (c.max.ensures, c.saturating_add-moved.ensures, c.from.ensures) (further-moved _ _ _ c.if-end-eq0.false)
