use Rattle.std.proofs.lemmas.Result.{err_from_is_err_and}
use Rattle.compare.proofs.Comparing.{admit_bad}
use Rattle.compare.proofs.admit.Goals as goal

pub returns-in_err-s : goal.returns-in_err-s
returns-in_err-s c = let p = err_from_is_err_and c.from_residual.result c.from_residual.ensures.1 in admit_bad _ _ c.check.ensures c.ok_or.ensures.value c.in_err-s.was p.1 p.2
