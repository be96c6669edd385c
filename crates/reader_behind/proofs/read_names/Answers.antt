use Rattle.reading.proofs.Contracts.{passed_on}
use Rattle.reader_behind.proofs.Progress.{names-begun, names-turned, names-stopped, names-ended}
use Rattle.reader_behind.proofs.read_names.Goals as goal

pub loop-init : goal.loop-init
loop-init c = search names-begun

pub returns-in_err-next : goal.returns-in_err-next
returns-in_err-next c = rw (passed_on c.from_residual.result c.from_residual.ensures) (search (names-stopped, c.in_err-next.was))

pub loop-preserved : goal.loop-preserved
loop-preserved c = search (names-turned, c.in_ok-next.was)

pub returns : goal.returns
returns c = search names-ended
