use native.Mathlib.Omega.{arith}
use Rattle.same.proofs.Answering.{records-within, remains, past_first, past-second, compared, not-compared}
use Rattle.std.proofs.lemmas.Result.{err_from_is_err_and}
use Rattle.same.proofs.answers.of_size.Goals as goal

pub overflow_mul-count : goal.overflow_mul-count
overflow_mul-count c = omega (arith, records-within _ _ _ c.record_count-count.ensures)

pub returns-then-count-size : goal.returns-then-count-size
returns-then-count-size c = search remains

pub returns-then-count-first : goal.returns-then-count-first
returns-then-count-first c = search past_first

pub returns-then-count-second : goal.returns-then-count-second
returns-then-count-second c = search past-second

pub returns-in_err-is_same : goal.returns-in_err-is_same
returns-in_err-is_same c =
    let p = err_from_is_err_and c.from_residual.result c.from_residual.ensures.1 in
    let g = c.in_err-is_same.was {u = tt} in
    rw (p.1, p.2) (search not-compared)

pub returns : goal.returns
returns c = let g = c.in_ok-is_same.was {u = tt} in search compared
