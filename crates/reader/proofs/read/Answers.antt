use borrow.Author.Rules.{rules}
use Rattle.reading.proofs.Whole.{rows_fit, offset_fits, rows-held, pool-held, whole-done, whole-refused}
use Rattle.reader.proofs.read.Goals as goal

pub overflow_mul-s : goal.overflow_mul-s
overflow_mul-s c = search (rows_fit, rules)

pub offset_bounds-table-s : goal.offset_bounds-table-s
offset_bounds-table-s c = search (offset_fits, rules)

pub slice_bounds-fill-count : goal.slice_bounds-fill-count
slice_bounds-fill-count c = search (rows-held, rules)

pub slice_bounds-fill-start : goal.slice_bounds-fill-start
slice_bounds-fill-start c = search (rows-held, rules)

pub slice_bounds-fill-count-in-Ok : goal.slice_bounds-fill-count-in-Ok
slice_bounds-fill-count-in-Ok c = search (pool-held, rules)

pub slice_bounds-fill-start-in-Ok : goal.slice_bounds-fill-start-in-Ok
slice_bounds-fill-start-in-Ok c = search (pool-held, rules)

pub returns-in-Ok : goal.returns-in-Ok
returns-in-Ok c = search (whole-done, c.fill.ensures.after, c.fill-in-Ok.ensures.after)

pub returns-in-Err : goal.returns-in-Err
returns-in-Err c = search (whole-refused, c.fill-in-Err.ensures.after, c.fill-in-Err-2.ensures.after)
