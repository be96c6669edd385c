use Rattle.std.proofs.lemmas.Result.{err_from_is_err_and}
use Rattle.format.proofs.Bytes.{byte_below}
use Rattle.table.proofs.Answers.{ok-some}
use Rattle.table.proofs.Extents.{extent_bad, extent_good}
use Rattle.table.proofs.extent.Goals as goal

pub returns-in_err-s : goal.returns-in_err-s
returns-in_err-s c = let p = err_from_is_err_and c.from_residual.result c.from_residual.ensures.1 in extent_bad _ _ c.check.ensures c.ok_or.ensures.value c.in_err-s.was p.1 p.2

pub returns : goal.returns
returns c = let g = ok-some c.ok_or.ensures.value c.in_ok-s.was in search (extent_good, byte_below)
