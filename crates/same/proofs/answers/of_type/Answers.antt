use Rattle.std.proofs.lemmas.Result.{err_from_is_err_and}
use Rattle.same.proofs.Answering.{not-sized, is-sized}
use Rattle.same.proofs.answers.of_type.Goals as goal

pub returns-in_err-size : goal.returns-in_err-size
returns-in_err-size c =
    let p = err_from_is_err_and c.from_residual.result c.from_residual.ensures.1 in
    rw (p.1, p.2) (not-sized _ _ _ _ _ _ c.element_size.ensures c.in_err-size.was)

pub returns : goal.returns
returns c = is-sized _ _ _ _ _ _ c.element_size.ensures c.in_ok-size.was (rw c.from.ensures at c.of_size.ensures)
