use Rattle.std.proofs.lemmas.Result.{err_from_is_err_and}
use Rattle.slots.proofs.Answers.{slots-bad}
use Rattle.slots.proofs.embedded_reference_slots.Goals as goal

pub returns-in_err-s : goal.returns-in_err-s
returns-in_err-s c = let p = err_from_is_err_and c.from_residual.result c.from_residual.ensures.1 in slots-bad _ _ _ c.check.ensures c.ok_or.ensures.value c.in_err-s.was p.1 p.2
