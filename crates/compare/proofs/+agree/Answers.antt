use Rattle.compare.specs.Agreeing.{is_field_in}
use Rattle.std.proofs.lemmas.Result.{err_from_is_err_and}
use Rattle.compare.proofs.Types.{some_in, none_in, type-variable_length, type-leaf, type-enumeration, type-array, type-compound, array-deep, array-lost, array-unknown, array-of-field, array-entries, member-leaf, member-enumeration, member_unknown}
use Rattle.compare.proofs.Inside.{members_end, members-deep, members_unnamed, members-past, members-stop, members-next, entries_end, entries-start, entries-past, entries_stop, entries_next}
use Rattle.compare.proofs.+agree.Goals as goal

pub agree_array-returns-then-depth-ge32 : goal.agree_array-returns-then-depth-ge32
agree_array-returns-then-depth-ge32 t c = search array-deep

pub agree_array-returns-then-is_field : goal.agree_array-returns-then-is_field
unfolding is_field_in
agree_array-returns-then-is_field t c = let v = some_in c.ok_or.ensures.ok_part c.in_ok-base.was in let e = some_in c.ok_or-2.ensures.ok_part c.in_ok-entry.was in search array-of-field

pub agree_array-returns-in_err-base : goal.agree_array-returns-in_err-base
agree_array-returns-in_err-base t c = array-lost _ _ _ _ _ c.array_base.ensures _ _ _ _ (none_in c.ok_or.ensures.ok_part c.in_err-base.was)

pub agree_array-returns-in_err-entry : goal.agree_array-returns-in_err-entry
agree_array-returns-in_err-entry t c = array-unknown _ _ _ _ _ c.array_base.ensures (some_in c.ok_or.ensures.ok_part c.in_ok-base.was) _ _ _ _ c.row_entry.ensures (none_in c.ok_or-2.ensures.ok_part c.in_err-entry.was)

pub agree_array-returns : goal.agree_array-returns
agree_array-returns t c = let v = some_in c.ok_or.ensures.ok_part c.in_ok-base.was in search array-entries

pub agree_entries-loop-init : goal.agree_entries-loop-init
agree_entries-loop-init t c = search entries-start

pub agree_entries-returns-then-a-start : goal.agree_entries-returns-then-a-start
agree_entries-returns-then-a-start t c = search entries-past

pub agree_entries-returns-in_err-next : goal.agree_entries-returns-in_err-next
agree_entries-returns-in_err-next t c = let p = err_from_is_err_and c.from_residual.result c.from_residual.ensures.1 in rw (p.1, p.2) (search (entries_stop, c.in_err-next.was))

pub agree_entries-loop-preserved : goal.agree_entries-loop-preserved
agree_entries-loop-preserved t c = search (entries_next, c.in_ok-next.was)

pub agree_entries-returns : goal.agree_entries-returns
agree_entries-returns t c = search entries_end

pub agree_member-returns-in-Leaf : goal.agree_member-returns-in-Leaf
agree_member-returns-in-Leaf t c = let e = some_in c.ok_or.ensures.ok_part c.in_ok-entry.was in search member-leaf

pub agree_member-returns-in-Enumeration : goal.agree_member-returns-in-Enumeration
agree_member-returns-in-Enumeration t c = let e = some_in c.ok_or.ensures.ok_part c.in_ok-entry.was in search member-enumeration

pub agree_member-returns-in_err-entry : goal.agree_member-returns-in_err-entry
agree_member-returns-in_err-entry t c = member_unknown _ _ _ _ _ _ _ _ c.row_entry.ensures (none_in c.ok_or.ensures.ok_part c.in_err-entry.was)

pub agree_members-returns-then-depth-ge32 : goal.agree_members-returns-then-depth-ge32
agree_members-returns-then-depth-ge32 t c = search members-deep

pub agree_members-returns-in_err-member : goal.agree_members-returns-in_err-member
agree_members-returns-in_err-member t c = let n = none_in c.ok_or.ensures.ok_part c.in_err-member.was in search members_unnamed

pub agree_members-returns-then-a-at : goal.agree_members-returns-then-a-at
agree_members-returns-then-a-at t c = let m = some_in c.ok_or.ensures.ok_part c.in_ok-member.was in search members-past

pub agree_members-returns-in_err-r : goal.agree_members-returns-in_err-r
agree_members-returns-in_err-r t c = let m = some_in c.ok_or.ensures.ok_part c.in_ok-member.was in let p = err_from_is_err_and c.from_residual-in_err-r.result c.from_residual-in_err-r.ensures.1 in rw (p.1, p.2) (search (members-stop, c.in_err-r.was))

pub agree_members-loop-preserved : goal.agree_members-loop-preserved
agree_members-loop-preserved t c = let m = some_in c.ok_or.ensures.ok_part c.in_ok-member.was in search (members-next, c.in_ok-r.was)

pub agree_members-returns : goal.agree_members-returns
agree_members-returns t c = search members_end

pub agree_type-returns-in-VariableLength : goal.agree_type-returns-in-VariableLength
agree_type-returns-in-VariableLength t c = search type-variable_length

pub agree_type-returns-in-Leaf : goal.agree_type-returns-in-Leaf
agree_type-returns-in-Leaf t c = let v = rw c.top-row.ensures at c.agree_leaf.ensures in search type-leaf

pub agree_type-returns-in-Enumeration : goal.agree_type-returns-in-Enumeration
agree_type-returns-in-Enumeration t c = let v = rw c.top-row.ensures at c.agree_enumeration.ensures in search type-enumeration

pub agree_type-returns-in-Compound : goal.agree_type-returns-in-Compound
agree_type-returns-in-Compound t c = let v = rw c.top-row.ensures at c.agree_members.ensures in search type-compound

pub agree_type-returns-in-Array : goal.agree_type-returns-in-Array
agree_type-returns-in-Array t c = let v = rw c.top-row.ensures at c.agree_array.ensures in search type-array
