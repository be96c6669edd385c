use Rattle.std.proofs.lemmas.Result.{err_from_is_err_and}
use Rattle.format.proofs.Bytes.{byte_below}
use Rattle.round_trip.proofs.Returning.{not_written, answered_length, answered_refusal}
use Rattle.round_trip.proofs.write_and_read.Goals as goal

pub returns-in_err-write : goal.returns-in_err-write
returns-in_err-write c =
    let p = err_from_is_err_and c.from_residual.result c.from_residual.ensures.1 in
    rw (p.1, p.2) (search (not_written, c.in_err-write.was))

pub returns-in_err-length : goal.returns-in_err-length
returns-in_err-length c =
    let p = err_from_is_err_and c.from_residual-in_err-length.result c.from_residual-in_err-length.ensures.1 in
    rw (p.1, p.2) (search (answered_refusal, byte_below, c.in_ok-write.was, c.in_err-length.was))

pub returns : goal.returns
returns c = search (answered_length, byte_below, c.in_ok-write.was, c.in_ok-length.was)
