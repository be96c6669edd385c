use Rattle.runs.proofs.Storing.{grows_same}
use Rattle.runs.proofs.Types.{type-variable_length, type-leaf, type-enumeration, type-array, type-compound, array-deep, array-none, array-unknown, array-of-field, array-entries, member-entered, member_unknown}
use Rattle.runs.proofs.Inside.{members_end, members-stopped, members-deep, members_unnamed, members-past, members-next, entries-start, entries_end, entries-stopped, entries-past, entries_next}
use Rattle.runs.proofs.walk.Walk.+list.Goals as goal

pub list_array-returns-then-depth-ge32 : goal.list_array-returns-then-depth-ge32
list_array-returns-then-depth-ge32 t c = search (array-deep, grows_same)

pub list_array-returns-then-stride-eq0 : goal.list_array-returns-then-stride-eq0
list_array-returns-then-stride-eq0 t c = search (array-none, grows_same)

pub list_array-returns-then-is_whole : goal.list_array-returns-then-is_whole
list_array-returns-then-is_whole t c = search array-of-field

pub list_array-returns-in_default : goal.list_array-returns-in_default
list_array-returns-in_default t c = search (array-unknown, grows_same)

pub list_array-returns : goal.list_array-returns
list_array-returns t c = search array-entries

pub list_entries-loop-init : goal.list_entries-loop-init
list_entries-loop-init t c = search entries-start

pub list_entries-returns-then-state-self : goal.list_entries-returns-then-state-self
list_entries-returns-then-state-self t c = search entries-stopped

pub list_entries-returns-then-self-start : goal.list_entries-returns-then-self-start
list_entries-returns-then-self-start t c = search entries-past

pub list_entries-loop-preserved : goal.list_entries-loop-preserved
list_entries-loop-preserved t c = search entries_next

pub list_entries-returns : goal.list_entries-returns
list_entries-returns t c = search entries_end

pub list_member-returns-in_default : goal.list_member-returns-in_default
list_member-returns-in_default t c = search (member_unknown, grows_same)

pub list_member-returns : goal.list_member-returns
list_member-returns t c = search member-entered

pub list_members-returns-then-state-self : goal.list_members-returns-then-state-self
list_members-returns-then-state-self t c = search members-stopped

pub list_members-returns-then-depth-ge32 : goal.list_members-returns-then-depth-ge32
list_members-returns-then-depth-ge32 t c = search members-deep

pub list_members-returns-in_default : goal.list_members-returns-in_default
list_members-returns-in_default t c = search members_unnamed

pub list_members-returns-then-self-at : goal.list_members-returns-then-self-at
list_members-returns-then-self-at t c = search members-past

pub list_members-loop-preserved : goal.list_members-loop-preserved
list_members-loop-preserved t c = search members-next

pub list_members-returns : goal.list_members-returns
list_members-returns t c = search members_end

pub list_type-returns-in-VariableLength : goal.list_type-returns-in-VariableLength
list_type-returns-in-VariableLength t c = search (type-variable_length, grows_same)

pub list_type-returns-in-Leaf : goal.list_type-returns-in-Leaf
list_type-returns-in-Leaf t c = let v = rw c.top-row.ensures at c.list_field.ensures in search type-leaf

pub list_type-returns-in-Enumeration : goal.list_type-returns-in-Enumeration
list_type-returns-in-Enumeration t c = let p = rw c.top-row.ensures at c.next_row-next.ensures in let v = c.list_field-in-Enumeration.ensures in search type-enumeration

pub list_type-returns-in-Compound : goal.list_type-returns-in-Compound
list_type-returns-in-Compound t c = let v = rw c.top-row.ensures at c.list_members.ensures in search type-compound

pub list_type-returns-in-Array : goal.list_type-returns-in-Array
list_type-returns-in-Array t c = let v = rw c.top-row.ensures at c.list_array.ensures in search type-array
