use Rattle.runs.proofs.Storing.{field_past, field-listed}
use Rattle.runs.proofs.walk.Walk.list_field.Goals as goal

pub returns-then-self-field : goal.returns-then-self-field
returns-then-self-field c = search field_past

pub returns : goal.returns
returns c = search field-listed
