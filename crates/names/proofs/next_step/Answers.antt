use Rattle.names.proofs.Stepping.{steps_idle, steps_low, steps_high, steps_on}
use Rattle.names.proofs.next_step.Goals as goal

pub returns-then-st-eq0 : goal.returns-then-st-eq0
returns-then-st-eq0 c = search steps_idle

pub returns-then-b-st : goal.returns-then-b-st
returns-then-b-st c = search steps_low

pub returns-then-st-b : goal.returns-then-st-b
returns-then-st-b c = search steps_high

pub returns : goal.returns
returns c = search steps_on
