use Rattle.std.proofs.lemmas.Result.{err_from_is_err_and}
use Rattle.format.proofs.Bytes.{byte_below}
use Rattle.table.proofs.Answers.{ok-some, element_bad, element_good, element_zero, outermost-small, outermost-some, outermost-there}
use Rattle.table.proofs.element_size.Goals as goal

pub returns-in_err-s : goal.returns-in_err-s
returns-in_err-s c = let p = err_from_is_err_and c.from_residual.result c.from_residual.ensures.1 in element_bad _ _ c.check.ensures c.ok_or.ensures.value c.in_err-s.was p.1 p.2

pub bounds-table-0 : goal.bounds-table-0
bounds-table-0 c = let g = ok-some c.ok_or.ensures.value c.in_ok-s.was in search (outermost-there, byte_below)

pub class_of-requires : goal.class_of-requires
class_of-requires c = let g = ok-some c.ok_or.ensures.value c.in_ok-s.was in search (outermost-some, outermost-small, byte_below)

pub returns-then-s-eq0 : goal.returns-then-s-eq0
returns-then-s-eq0 c = let g = ok-some c.ok_or.ensures.value c.in_ok-s.was in search (element_zero, byte_below)

pub returns : goal.returns
returns c = let g = ok-some c.ok_or.ensures.value c.in_ok-s.was in search element_good
