use Rattle.std.proofs.lemmas.Result.{err_from_is_err_and}
use Rattle.same.proofs.Answering.{not_read, is_read}
use Rattle.same.proofs.answers.of_message.Goals as goal

pub returns-in_err-read : goal.returns-in_err-read
returns-in_err-read c =
    let p = err_from_is_err_and c.from_residual.result c.from_residual.ensures.1 in
    rw (p.1, p.2) (not_read _ _ _ _ _ _ _ _ _ c.read.ensures c.in_err-read.was)

pub returns : goal.returns
returns c = is_read _ _ _ _ _ _ _ _ _ c.read.ensures c.in_ok-read.was c.of_type.ensures
