use Rattle.names.proofs.Validity.{plain-start, valid-nul, valid-next, valid-ill, valid_single, valid-ended-ill, valid-unfinished}
use Rattle.names.specs.Pass.{Sized}
use Rattle.names.proofs.valid_name.Goals.{in-Ill, in_default}
use mathlib.Core.Path.{sym, ◌∙◌}
use mathlib.Core.Bool.{false≢true}
use Rattle.names.proofs.valid_name.Goals as goal

pub loop-b-init : goal.loop-b-init
unfolding Sized
loop-b-init c = (tt, plain-start _ _ c.plain_end.ensures.inside c.plain_end.ensures.before)

pub returns-then-b-eq0 : goal.returns-then-b-eq0
returns-then-b-eq0 c = search valid-nul

pub loop-b-preserved : goal.loop-b-preserved
loop-b-preserved c = search valid-next

pub returns-then-matches : goal.returns-then-matches
returns-then-matches c =
    elim c.match-matches.branch [
      | in-Ill w ↦ valid-ill _ _ _ c.loop-b.invariant.1 c.loop-b-test.true _ c.loop-b.invariant.0 c.if-b-eq0.false c.follow-next.ensures w.in-Ill.is
      | in_default w ↦ absurd (false≢true (sym w.matches-is ∙ c.if-matches.true))
    ]

pub returns-in-Single : goal.returns-in-Single
returns-in-Single c = search valid_single

pub returns-in-Ill-next : goal.returns-in-Ill-next
returns-in-Ill-next c = search valid-ended-ill

pub returns-in-More : goal.returns-in-More
returns-in-More c = search valid-unfinished
