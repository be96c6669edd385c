use Rattle.std.proofs.Common.{◌-◌, rules, arith}
use Rattle.slots.proofs.Listing.{type_unknown, type-enumeration, type-variable_length, type-leaf, type-compound, type-array, inner_far, inner-none, inner-leaf}
use Rattle.slots.proofs.ListingInside.{members_unnamed, members-next, members_end}
use Rattle.slots.proofs.+put.Goals as goal

pub put_array-returns : goal.put_array-returns
put_array-returns t c = let v = rw c.from.ensures at c.put_inner-first.ensures in search type-array

pub put_inner-returns-then-depth-eq32 : goal.put_inner-returns-then-depth-eq32
put_inner-returns-then-depth-eq32 t c = search inner-none

pub put_inner-returns-in-Some-Leaf : goal.put_inner-returns-in-Some-Leaf
put_inner-returns-in-Some-Leaf t c = let v = rw c.in-Ok.ensures.1 at c.put_leaf.ensures in search inner-leaf

pub put_inner-returns-in_default : goal.put_inner-returns-in_default
put_inner-returns-in_default t c = inner_far _ _ _ _ _ _ _ c.pass.ensures (omega (arith, c.in_default.ensures))

pub put_members-returns-in_default : goal.put_members-returns-in_default
put_members-returns-in_default t c = members_unnamed _ _ _ _ _ _ _ _ c.loop.invariant (omega arith) c.row_member.ensures c.in_default.is

pub put_members-loop-preserved : goal.put_members-loop-preserved
put_members-loop-preserved t c = members-next _ _ _ _ _ _ _ _ c.loop.invariant (omega arith) c.row_member.ensures _ c.in-Some.is c.from-in-loop.ensures (rw c.from.ensures at c.put_inner-put.ensures) (search rules) (omega arith)

pub put_members-returns : goal.put_members-returns
put_members-returns t c = members_end _ _ _ _ _ _ _ _ c.loop.invariant (omega arith)

pub put_type-returns-in_default : goal.put_type-returns-in_default
put_type-returns-in_default t c = rw (← c.top-row.ensures) (search type_unknown)

pub put_type-returns-in-Enumeration : goal.put_type-returns-in-Enumeration
put_type-returns-in-Enumeration t c = rw (← c.top-row.ensures) (search type-enumeration)

pub put_type-returns-in-VariableLength : goal.put_type-returns-in-VariableLength
put_type-returns-in-VariableLength t c = rw (← c.top-row.ensures) (search type-variable_length)

pub put_type-returns-in-Leaf : goal.put_type-returns-in-Leaf
put_type-returns-in-Leaf t c = rw (← c.top-row.ensures) (search type-leaf)

pub put_type-returns-in-Compound : goal.put_type-returns-in-Compound
put_type-returns-in-Compound t c = rw (← c.top-row.ensures) (search type-compound)
