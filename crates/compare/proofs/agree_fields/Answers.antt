use Rattle.compare.specs.Agreeing.{is_string_in}
use Rattle.compare.proofs.Ranges.{fields_strings, fields_range}
use Rattle.compare.proofs.agree_fields.Goals as goal

pub returns-then-is_string : goal.returns-then-is_string
unfolding is_string_in
returns-then-is_string c = search fields_strings

pub returns : goal.returns
unfolding is_string_in
returns c = search fields_range
