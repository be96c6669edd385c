use Rattle.format.proofs.Bytes.{byte_below}
use lib.Dec.{lit<}
use Rattle.table.proofs.Naming.{name-bad, name-behind, name-first, name-first-bytes, name-first-inside, name-none, name-some, name-word-bytes, name-word-inside}
use Rattle.table.proofs.name_part.Goals as goal

pub returns-then-s-row : goal.returns-then-s-row
returns-then-s-row c = search (name-behind, byte_below)

pub overflow_mul-at : goal.overflow_mul-at
overflow_mul-at c = search (name-first, byte_below)

pub offset_bounds-table-at : goal.offset_bounds-table-at
offset_bounds-table-at c = search (name-first-bytes, byte_below)

pub bounds-table-at : goal.bounds-table-at
bounds-table-at c = search (name-first-inside, byte_below)

pub returns-then-kind-lt12 : goal.returns-then-kind-lt12
returns-then-kind-lt12 c = search (name-none, byte_below)

pub offset_bounds-table-at-2 : goal.offset_bounds-table-at-2
offset_bounds-table-at-2 c = search (name-word-bytes, byte_below, lit<)

pub bounds-table-at-2 : goal.bounds-table-at-2
bounds-table-at-2 c = search (name-word-inside, byte_below, lit<)

pub offset_bounds-table-at-3 : goal.offset_bounds-table-at-3
offset_bounds-table-at-3 c = search (name-word-bytes, byte_below, lit<)

pub bounds-table-at-3 : goal.bounds-table-at-3
bounds-table-at-3 c = search (name-word-inside, byte_below, lit<)

pub returns-in_default : goal.returns-in_default
returns-in_default c = search name-bad

pub returns : goal.returns
returns c = search (name-some, byte_below)
