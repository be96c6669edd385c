use Rattle.table.proofs.Passing.{names-passed, names-outside}
use Rattle.table.proofs.behind_enum_members.Goals as goal

pub returns-then-table-row : goal.returns-then-table-row
returns-then-table-row c = search names-outside

pub returns : goal.returns
returns c = names-passed _ _ _
