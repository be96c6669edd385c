use Rattle.reading.proofs.Contracts.{passed_on}
use Rattle.reader_behind.proofs.Valuing.{names-refused, names-room, names-near, names-held, names-valued}
use Rattle.reader_behind.proofs.read_enum_members.Goals as goal

pub read_values-requires : goal.read_values-requires
read_values-requires c = search (names-room, names-near, names-held, c.in_ok-named.was)

pub returns-in_err-named : goal.returns-in_err-named
returns-in_err-named c = rw (passed_on c.from_residual.result c.from_residual.ensures) (search (names-refused, c.in_err-named.was))

pub returns : goal.returns
returns c = search (names-valued, c.in_ok-named.was)
