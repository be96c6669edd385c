use Rattle.compare.proofs.Comparing.{same-refused, admitted-size}
use Rattle.std.proofs.lemmas.Result.{err_from_is_err_and}
use Rattle.compare.proofs.same.Goals as goal

pub same_sized-requires : goal.same_sized-requires
same_sized-requires c = search (admitted-size, c.in_ok-size.was)

pub returns-in_err-size : goal.returns-in_err-size
returns-in_err-size c = let p = err_from_is_err_and c.from_residual.result c.from_residual.ensures.1 in rw (p.1, p.2) (search (same-refused, c.in_err-size.was))
