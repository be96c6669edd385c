use Rattle.std.proofs.Common.{◌≡◌, ◌-◌, arith}
use Rattle.slots.proofs.Tallying.{type_unknown, type-leaf, type-compound, type-enumeration, type-variable_length, type-array, inner-none, inner-leaf, members-start, members_end, members_unnamed, members-next}
use Rattle.slots.proofs.+tally.Goals as goal

pub tally_inner-returns-then-path-eq32 : goal.tally_inner-returns-then-path-eq32
tally_inner-returns-then-path-eq32 t c = search inner-none

pub tally_inner-returns-in-Some-Leaf : goal.tally_inner-returns-in-Some-Leaf
tally_inner-returns-in-Some-Leaf t c = search inner-leaf

pub tally_members-loop-init : goal.tally_members-loop-init
tally_members-loop-init t c = let e : c.args.count - 0 ≡ c.args.count = omega arith in rw e (members-start _ _ _ _ _)

pub tally_members-returns-in_default : goal.tally_members-returns-in_default
tally_members-returns-in_default t c = members_unnamed _ _ _ _ _ _ _ _ _ _ c.loop.invariant (omega arith) c.row_member.ensures _ c.in_default.is

pub tally_members-loop-preserved : goal.tally_members-loop-preserved
tally_members-loop-preserved t c = members-next _ _ _ _ _ _ _ _ _ _ c.loop.invariant (omega arith) c.row_member.ensures c.in-Some.is c.tally_inner-t.ensures c.sum_slots-slots.ensures c.further_end-end.ensures (omega arith)

pub tally_members-returns : goal.tally_members-returns
tally_members-returns t c = members_end _ _ _ _ _ _ _ _ _ _ c.loop.invariant (omega arith)

pub tally_type-returns-in_default : goal.tally_type-returns-in_default
tally_type-returns-in_default t c = rw (← c.top-row.ensures) (search type_unknown)

pub tally_type-returns-in-Leaf : goal.tally_type-returns-in-Leaf
tally_type-returns-in-Leaf t c = rw (← c.top-row.ensures) (search type-leaf)

pub tally_type-returns-in-Compound : goal.tally_type-returns-in-Compound
tally_type-returns-in-Compound t c = rw (← c.top-row.ensures) (search type-compound)

pub tally_type-returns-in-Enumeration : goal.tally_type-returns-in-Enumeration
tally_type-returns-in-Enumeration t c = rw (← c.top-row.ensures) (search type-enumeration)

pub tally_type-returns-in-VariableLength : goal.tally_type-returns-in-VariableLength
tally_type-returns-in-VariableLength t c = rw (← c.top-row.ensures) (search type-variable_length)

pub tally_type-returns-in-Array : goal.tally_type-returns-in-Array
tally_type-returns-in-Array t c = rw (← c.top-row.ensures) (search type-array)
