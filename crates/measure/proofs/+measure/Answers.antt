use native.Mathlib.Nat.{sub-zero}
use native.Mathlib.Omega.{arith}
use borrow.Author.Rules.{rules}
use lib.ListN.{length}
use Prim.Native.Nat.{◌<◌}
use Rattle.rows.proofs.Words.{indexed}
use Rattle.rows.proofs.Decode.{leaf-inside, row-inside, row-next, array-piece, array_behind, named-behind, named-next, named-piece}
use Rattle.measure.proofs.Measures.{type-none, type_unknown, type-leaf, type-compound-lost, type-compound, type-unbased, type-unlisted, type-listed, type-variable_length-lost, type-variable_length, type-array-lost, type-array, members-start, members_unnamed, members-lost, members-next, member-short, members_end}
use Rattle.measure.proofs.+measure.Goals as goal

pub measure_inner-returns-then-levels-eq0 : goal.measure_inner-returns-then-levels-eq0
measure_inner-returns-then-levels-eq0 t c = search type-none

pub measure_inner-offset_bounds-as_chunks-row : goal.measure_inner-offset_bounds-as_chunks-row
measure_inner-offset_bounds-as_chunks-row t c =
    let i = row-inside _ _ _ _ c.entry_at.ensures.inside c.in_ok-entry.was in
    let b : c.args.row < length c.as_chunks.result.0.now = omega (arith, i, c.as_chunks.ensures.front_len) in
    search rules

pub measure_inner-bounds-as_chunks-row : goal.measure_inner-bounds-as_chunks-row
measure_inner-bounds-as_chunks-row t c = let i = row-inside _ _ _ _ c.entry_at.ensures.inside c.in_ok-entry.was in omega (arith, i, c.as_chunks.ensures.front_len)

pub measure_inner-leaf_measure-requires : goal.measure_inner-leaf_measure-requires
measure_inner-leaf_measure-requires t c = let i = leaf-inside _ _ _ _ c.entry_at.ensures.inside c.in_ok-entry.was c.in-Leaf.is in (omega arith, omega arith)

pub measure_inner-returns-in-Leaf : goal.measure_inner-returns-in-Leaf
measure_inner-returns-in-Leaf t c =
    let s = indexed _ _ c.as_chunks.ensures.front (row-inside _ _ _ _ c.entry_at.ensures.inside c.in_ok-entry.was) in
    type-leaf _ _ _ _ _ _ c.if-levels-eq0.false c.entry_at.ensures.is c.in_ok-entry.was c.in-Leaf.is (s _) c.leaf_measure.ensures.is c.leaf_measure.ensures.below

pub measure_inner-returns-in_err-entry : goal.measure_inner-returns-in_err-entry
measure_inner-returns-in_err-entry t c = rw c.from_residual.ensures (search (type_unknown, c.in_err-entry.was))

pub measure_members-loop-init : goal.measure_members-loop-init
measure_members-loop-init t c = (omega arith, rw sub-zero (members-start _ _ _ _ _))

pub measure_members-returns-in_err-member : goal.measure_members-returns-in_err-member
measure_members-returns-in_err-member t c = rw c.from_residual.ensures (search (members_unnamed, c.in_err-member.was))

pub measure_members-overflow_add-sum : goal.measure_members-overflow_add-sum
measure_members-overflow_add-sum t c = search (named-next, c.in_ok-member.was, rules)

pub measure_members-overflow_add-from : goal.measure_members-overflow_add-from
measure_members-overflow_add-from t c = search (named-behind, c.in_ok-member.was, rules)

pub measure_members-returns-in_err-inner : goal.measure_members-returns-in_err-inner
measure_members-returns-in_err-inner t c = rw c.from_residual-in_err-inner.ensures (search (members-lost, c.in_ok-member.was, c.in_err-inner.was))

pub measure_members-with_named_member-sum-requires : goal.measure_members-with_named_member-sum-requires
measure_members-with_named_member-sum-requires t c = search (named-piece, c.in_ok-member.was)

pub measure_members-loop-preserved : goal.measure_members-loop-preserved
measure_members-loop-preserved t c = search (member-short, members-next, named-piece, c.in_ok-member.was, c.in_ok-inner.was)

pub measure_members-returns : goal.measure_members-returns
measure_members-returns t c = search members_end

pub measure_type-returns-then-levels-eq0 : goal.measure_type-returns-then-levels-eq0
measure_type-returns-then-levels-eq0 t c = search type-none

pub measure_type-overflow_add-row : goal.measure_type-overflow_add-row
measure_type-overflow_add-row t c = search (row-next, c.in_ok-entry.was, rules)

pub measure_type-overflow_add-row-in-VariableLength : goal.measure_type-overflow_add-row-in-VariableLength
measure_type-overflow_add-row-in-VariableLength t c = search (row-next, c.in_ok-entry.was, rules)

pub measure_type-overflow_add-row-in-Array : goal.measure_type-overflow_add-row-in-Array
measure_type-overflow_add-row-in-Array t c = search (row-next, c.in_ok-entry.was, rules)

pub measure_type-overflow_add-behind : goal.measure_type-overflow_add-behind
measure_type-overflow_add-behind t c = search (array_behind, c.in_ok-entry.was, rules)

pub measure_type-array_measure-requires : goal.measure_type-array_measure-requires
measure_type-array_measure-requires t c = search (array-piece, c.in_ok-entry.was)

pub measure_type-offset_bounds-as_chunks-row : goal.measure_type-offset_bounds-as_chunks-row
measure_type-offset_bounds-as_chunks-row t c =
    let i = row-inside _ _ _ _ c.entry_at.ensures.inside c.in_ok-entry.was in
    let b : c.args.row < length c.as_chunks.result.0.now = omega (arith, i, c.as_chunks.ensures.front_len) in
    search rules

pub measure_type-bounds-as_chunks-row : goal.measure_type-bounds-as_chunks-row
measure_type-bounds-as_chunks-row t c = let i = row-inside _ _ _ _ c.entry_at.ensures.inside c.in_ok-entry.was in omega (arith, i, c.as_chunks.ensures.front_len)

pub measure_type-leaf_measure-requires : goal.measure_type-leaf_measure-requires
measure_type-leaf_measure-requires t c = let i = leaf-inside _ _ _ _ c.entry_at.ensures.inside c.in_ok-entry.was c.in-Leaf.is in (omega arith, omega arith)

pub measure_type-returns-in-Leaf : goal.measure_type-returns-in-Leaf
measure_type-returns-in-Leaf t c =
    let s = indexed _ _ c.as_chunks.ensures.front (row-inside _ _ _ _ c.entry_at.ensures.inside c.in_ok-entry.was) in
    type-leaf _ _ _ _ _ _ c.if-levels-eq0.false c.entry_at.ensures.is c.in_ok-entry.was c.in-Leaf.is (s _) c.leaf_measure.ensures.is c.leaf_measure.ensures.below

pub measure_type-returns-in_err-entry : goal.measure_type-returns-in_err-entry
measure_type-returns-in_err-entry t c = rw c.from_residual.ensures (search (type_unknown, c.in_err-entry.was))

pub measure_type-returns-in_err-members-in-Compound : goal.measure_type-returns-in_err-members-in-Compound
measure_type-returns-in_err-members-in-Compound t c = rw c.from_residual-in_err-members-in-Compound.ensures (search (type-compound-lost, c.in_ok-entry.was, c.in_err-members-in-Compound.was))

pub measure_type-returns-in_ok-members-in-Compound : goal.measure_type-returns-in_ok-members-in-Compound
measure_type-returns-in_ok-members-in-Compound t c = search (type-compound, c.in_ok-entry.was, c.in_ok-members-in-Compound.was)

pub measure_type-overflow_add-row-in-Enumeration : goal.measure_type-overflow_add-row-in-Enumeration
measure_type-overflow_add-row-in-Enumeration t c = search (row-next, c.in_ok-entry.was, rules)

pub measure_type-returns-in_err-base-in-Enumeration : goal.measure_type-returns-in_err-base-in-Enumeration
measure_type-returns-in_err-base-in-Enumeration t c = rw c.from_residual-in_err-base-in-Enumeration.ensures (search (type-unbased, c.in_ok-entry.was, c.in_err-base-in-Enumeration.was))

pub measure_type-returns-in_err-members-in-Enumeration : goal.measure_type-returns-in_err-members-in-Enumeration
measure_type-returns-in_err-members-in-Enumeration t c = rw c.from_residual-in_err-members-in-Enumeration.ensures (search (type-unlisted, c.in_ok-entry.was, c.in_ok-base-in-Enumeration.was, c.in_err-members-in-Enumeration.was))

pub measure_type-returns-in_ok-members-in-Enumeration : goal.measure_type-returns-in_ok-members-in-Enumeration
measure_type-returns-in_ok-members-in-Enumeration t c = search (type-listed, c.in_ok-entry.was, c.in_ok-base-in-Enumeration.was, c.in_ok-members-in-Enumeration.was)

pub measure_type-returns-in_err-base-in-VariableLength : goal.measure_type-returns-in_err-base-in-VariableLength
measure_type-returns-in_err-base-in-VariableLength t c = rw c.from_residual-in_err-base-in-VariableLength.ensures (search (type-variable_length-lost, c.in_ok-entry.was, c.in_err-base-in-VariableLength.was))

pub measure_type-returns-in_ok-base-in-VariableLength : goal.measure_type-returns-in_ok-base-in-VariableLength
measure_type-returns-in_ok-base-in-VariableLength t c = search (type-variable_length, c.in_ok-entry.was, c.in_ok-base-in-VariableLength.was)

pub measure_type-returns-in_err-base-in-Array : goal.measure_type-returns-in_err-base-in-Array
measure_type-returns-in_err-base-in-Array t c = rw c.from_residual-in_err-base-in-Array.ensures (search (type-array-lost, c.in_ok-entry.was, c.in_err-base-in-Array.was))

pub measure_type-returns-in_ok-base-in-Array : goal.measure_type-returns-in_ok-base-in-Array
measure_type-returns-in_ok-base-in-Array t c = search (type-array, c.in_ok-entry.was, c.in_ok-base-in-Array.was)
