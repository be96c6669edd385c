use Rattle.std.proofs.lemmas.Result.{err_from_is_err_and}
use Rattle.format.proofs.Bytes.{byte_below}
use Rattle.writer.proofs.Answering.{some_in, none_in, ok_or-error, write_lost, rows_fit, place-fits, write_behind, write_unstorable, write_not-carried, write_no_room, write_unput, write_written}
use Rattle.writer.proofs.write_edition.Goals as goal

pub ends_at-requires : goal.ends_at-requires
ends_at-requires c = search (rows_fit, place-fits, byte_below, some_in c.ok_or.ensures.ok_part c.in_ok-m.was)

pub returns-then-not-ends_at : goal.returns-then-not-ends_at
returns-then-not-ends_at c = search (write_behind, some_in c.ok_or.ensures.ok_part c.in_ok-m.was)

pub returns-then-not-m : goal.returns-then-not-m
returns-then-not-m c = search (write_unstorable, some_in c.ok_or.ensures.ok_part c.in_ok-m.was)

pub returns-then-not-m-2 : goal.returns-then-not-m-2
returns-then-not-m-2 c = search (write_not-carried, some_in c.ok_or.ensures.ok_part c.in_ok-m.was)

pub returns-then-out-length : goal.returns-then-out-length
returns-then-out-length c = search (write_no_room, byte_below, some_in c.ok_or.ensures.ok_part c.in_ok-m.was)

pub returns-in_err-m : goal.returns-in_err-m
returns-in_err-m c =
    let p = err_from_is_err_and c.from_residual.result c.from_residual.ensures.1 in
    rw (p.1, p.2, ok_or-error _ c.ok_or.ensures.value c.in_err-m.was) (search (write_lost, none_in c.ok_or.ensures.ok_part c.in_err-m.was))

pub returns-in_err-ok_or : goal.returns-in_err-ok_or
returns-in_err-ok_or c = search (write_unput, byte_below, some_in c.ok_or.ensures.ok_part c.in_ok-m.was, none_in c.ok_or-2.ensures.ok_part c.in_err-ok_or.was)

pub returns : goal.returns
returns c = search (write_written, byte_below, some_in c.ok_or.ensures.ok_part c.in_ok-m.was, some_in c.ok_or-2.ensures.ok_part c.in_ok-ok_or.was)
