use Rattle.std.proofs.lemmas.Result.{err_from_is_err_and}
use Rattle.compare.proofs.Comparing.{admitted-size}
use Rattle.duplicates.proofs.Calls.{answer-refused}
use Rattle.duplicates.proofs.answer.Goals as goal

pub sized-requires : goal.sized-requires
sized-requires c = search (admitted-size, c.in_ok-size.was)

pub returns-in_err-size : goal.returns-in_err-size
returns-in_err-size c = let p = err_from_is_err_and c.from_residual.result c.from_residual.ensures.1 in rw (p.1, p.2) (search (answer-refused, c.in_err-size.was))
