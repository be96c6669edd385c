use Rattle.std.proofs.lemmas.Result.{err_from_is_err_and}
use Rattle.table.proofs.Answers.{ok-some, file_bad, file_good}
use Rattle.table.proofs.datatype_holds_file_address.Goals as goal

pub returns-in_err-s : goal.returns-in_err-s
returns-in_err-s c = let p = err_from_is_err_and c.from_residual.result c.from_residual.ensures.1 in file_bad _ _ c.check.ensures c.ok_or.ensures.value c.in_err-s.was p.1 p.2

pub returns : goal.returns
returns c = file_good _ _ c.check.ensures (ok-some c.ok_or.ensures.value c.in_ok-s.was)
