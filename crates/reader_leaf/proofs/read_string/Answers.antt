use Rattle.reading.proofs.Contracts.{passed_on}
use Rattle.reader_leaf.proofs.Leaves.{string_unknown, string-go}
use Rattle.reader_leaf.proofs.read_string.Goals as goal

pub returns-in_err-check_codes : goal.returns-in_err-check_codes
returns-in_err-check_codes c = rw (passed_on c.from_residual.result c.from_residual.ensures) (search (string_unknown, c.in_err-check_codes.was))

pub returns : goal.returns
returns c = search (string-go, c.in_ok-check_codes.was)
