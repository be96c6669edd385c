use Rattle.reading.proofs.Contracts.{passed_on}
use Rattle.reader_before.proofs.Opening.{variable_unknown, variable_string, variable_sequence}
use Rattle.reader_before.proofs.open_variable.Goals as goal

pub returns-in_err-check_codes : goal.returns-in_err-check_codes
returns-in_err-check_codes c = rw (passed_on c.from_residual.result c.from_residual.ensures) (search (variable_unknown, c.in_err-check_codes.was))

pub returns-in_ok-check_codes : goal.returns-in_ok-check_codes
returns-in_ok-check_codes c = search (variable_string, c.in_ok-check_codes.was)

pub returns-else-low4-eq1 : goal.returns-else-low4-eq1
returns-else-low4-eq1 c = search variable_sequence
