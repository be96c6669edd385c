use Rattle.rows.proofs.Known.{fits_no_tag, fits-tag, fits_dimensions, fits-compound, fits-enumeration, fits-variable_length}
use Rattle.rows.proofs.entry_fits.Goals as goal

pub returns-then-length-eq0 : goal.returns-then-length-eq0
returns-then-length-eq0 c = search fits_no_tag

pub returns-else-length-eq0 : goal.returns-else-length-eq0
returns-else-length-eq0 c = search fits-tag

pub returns-in-Array : goal.returns-in-Array
returns-in-Array c = search fits_dimensions

pub returns-in-Compound : goal.returns-in-Compound
returns-in-Compound c = search fits-compound

pub returns-in-Enumeration : goal.returns-in-Enumeration
returns-in-Enumeration c = search fits-enumeration

pub returns-in-VariableLength : goal.returns-in-VariableLength
returns-in-VariableLength c = search fits-variable_length
