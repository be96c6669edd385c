use Rattle.reading.proofs.Contracts.{passed_on}
use Rattle.reader_behind.proofs.Ending.{enum_stops, enum_ends}
use Rattle.reader_behind.proofs.end_enumeration.Goals as goal

pub returns-in_err-end : goal.returns-in_err-end
returns-in_err-end c = rw (passed_on c.from_residual.result c.from_residual.ensures) (search (enum_stops, c.in_err-end.was))

pub returns : goal.returns
returns c = search (enum_ends, c.in_ok-end.was)
