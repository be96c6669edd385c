use Rattle.std.proofs.lemmas.Result.{err_from_is_err_and}
use Rattle.writer.proofs.Answering.{some_in, none_in, ok_or-error, write_bad, write_none, write_past, tried_low, tried_high, untried}
use Rattle.writer.proofs.write.Goals as goal
use Rattle.writer.proofs.write.Goals.{in_default-via-in-Ok+then-try_from-lt1, in_default-via-in-Ok+else-try_from-lt1+else-this-lt4, in_default-via-in_default}

pub returns-in_err-ok_or-in_default : goal.returns-in_err-ok_or-in_default
returns-in_err-ok_or-in_default c =
    let p = err_from_is_err_and c.from_residual.result c.from_residual.ensures.1 in
    rw (p.1, p.2, ok_or-error _ c.ok_or.ensures.value c.in_err-ok_or-in_default.was) (write_bad _ _ _ _ c.check.ensures (none_in c.ok_or.ensures.ok_part c.in_err-ok_or-in_default.was))

pub returns-in_ok-ok_or-in_default : goal.returns-in_ok-ok_or-in_default
returns-in_ok-ok_or-in_default c =
    let g = some_in c.ok_or.ensures.ok_part c.in_ok-ok_or-in_default.was in
    elim c.in_default.branch [
      | in_default-via-in-Ok+then-try_from-lt1 w ↦ write_none _ _ _ _ c.check.ensures g (search (tried_low _ c.try_from.result c.try_from.ensures))
      | in_default-via-in-Ok+else-try_from-lt1+else-this-lt4 w ↦ write_past _ _ _ _ c.check.ensures g (search (tried_high _ c.try_from.result c.try_from.ensures))
      | in_default-via-in_default w ↦ write_past _ _ _ _ c.check.ensures g (untried _ c.try_from.result c.try_from.ensures w.in_default.is)
    ]
