use Rattle.runs.proofs.Storing.{longer-from, add_longer, add_new}
use Rattle.runs.proofs.add_run.Goals as goal

pub overflow_sub-size : goal.overflow_sub-size
overflow_sub-size c = search longer-from

pub returns-then-joins_run : goal.returns-then-joins_run
returns-then-joins_run c = search add_longer

pub returns : goal.returns
returns c = search add_new
