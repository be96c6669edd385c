use borrow.Author.Rules.{rules}
use Rattle.format.proofs.Bytes.{byte_below}
use Rattle.rows.proofs.Decode.{leaf-inside, row-next, array_behind, named-next}
use Rattle.writer.proofs.Compounds.{members-ended, members_unnamed, members-full, members-lost, members-next}
use Rattle.writer.proofs.Types.{type-shallow, type_unknown, type-leaf, type-compound-full, type-compound, type-enumeration, enumeration-full, enumeration-lost, enumeration-put, type_variable_full, type_variable, type-array-full, type-array}
use Rattle.writer.proofs.+put.Goals as goal

pub put_inner-returns-then-levels-eq0 : goal.put_inner-returns-then-levels-eq0
put_inner-returns-then-levels-eq0 t c = search type-shallow

pub put_inner-put_leaf-requires : goal.put_inner-put_leaf-requires
put_inner-put_leaf-requires t c = leaf-inside _ _ _ _ c.known_entry_at.ensures.inside c.in_ok-entry.was c.in-Leaf.is

pub put_inner-returns-in_err-entry : goal.put_inner-returns-in_err-entry
put_inner-returns-in_err-entry t c = rw c.from_residual.ensures (search (type_unknown, c.in_err-entry.was))

pub put_inner-returns-in-Leaf : goal.put_inner-returns-in-Leaf
put_inner-returns-in-Leaf t c = search (type-leaf, c.in_ok-entry.was)

pub put_members-returns-in_err-member : goal.put_members-returns-in_err-member
put_members-returns-in_err-member t c = rw c.from_residual.ensures (search (members_unnamed, c.in_err-member.was))

pub put_members-returns-in_err-behind : goal.put_members-returns-in_err-behind
put_members-returns-in_err-behind t c = rw c.from_residual-in_err-behind.ensures (search (members-full, c.in_ok-member.was, c.in_err-behind.was))

pub put_members-overflow_add-last : goal.put_members-overflow_add-last
put_members-overflow_add-last t c = search (named-next, c.in_ok-member.was, rules)

pub put_members-returns-in_err-last : goal.put_members-returns-in_err-last
put_members-returns-in_err-last t c = rw c.from_residual-in_err-last.ensures (search (members-lost, c.in_ok-member.was, c.in_ok-behind.was, c.in_err-last.was))

pub put_members-loop-preserved : goal.put_members-loop-preserved
put_members-loop-preserved t c = search (members-next, c.in_ok-member.was, c.in_ok-behind.was, c.in_ok-last.was)

pub put_members-returns : goal.put_members-returns
put_members-returns t c = search members-ended

pub put_type-returns-then-levels-eq0 : goal.put_type-returns-then-levels-eq0
put_type-returns-then-levels-eq0 t c = search type-shallow

pub put_type-put_leaf-requires : goal.put_type-put_leaf-requires
put_type-put_leaf-requires t c = leaf-inside _ _ _ _ c.known_entry_at.ensures.inside c.in_ok-entry.was c.in-Leaf.is

pub put_type-overflow_add-row : goal.put_type-overflow_add-row
put_type-overflow_add-row t c = search (row-next, c.in_ok-entry.was, rules)

pub put_type-overflow_add-row-in-VariableLength : goal.put_type-overflow_add-row-in-VariableLength
put_type-overflow_add-row-in-VariableLength t c = search (row-next, c.in_ok-entry.was, rules)

pub put_type-overflow_add-from : goal.put_type-overflow_add-from
put_type-overflow_add-from t c = search (array_behind, c.in_ok-entry.was, rules)

pub put_type-overflow_add-row-in-Array : goal.put_type-overflow_add-row-in-Array
put_type-overflow_add-row-in-Array t c = search (row-next, c.in_ok-entry.was, rules)

pub put_type-returns-in_err-entry : goal.put_type-returns-in_err-entry
put_type-returns-in_err-entry t c = rw c.from_residual.ensures (search (type_unknown, c.in_err-entry.was))

pub put_type-returns-in-Leaf : goal.put_type-returns-in-Leaf
put_type-returns-in-Leaf t c = search (type-leaf, c.in_ok-entry.was)

pub put_type-returns-in_err-behind-in-Compound : goal.put_type-returns-in_err-behind-in-Compound
put_type-returns-in_err-behind-in-Compound t c = rw c.from_residual-in_err-behind-in-Compound.ensures (search (type-compound-full, c.in_ok-entry.was, c.in_err-behind-in-Compound.was))

pub put_type-returns-in_ok-behind-in-Compound : goal.put_type-returns-in_ok-behind-in-Compound
put_type-returns-in_ok-behind-in-Compound t c = search (type-compound, c.in_ok-entry.was, c.in_ok-behind-in-Compound.was)

pub put_type-overflow_add-row-in-Enumeration : goal.put_type-overflow_add-row-in-Enumeration
put_type-overflow_add-row-in-Enumeration t c = search (row-next, c.in_ok-entry.was, rules)

pub put_type-returns-in_err-behind-in-Enumeration : goal.put_type-returns-in_err-behind-in-Enumeration
put_type-returns-in_err-behind-in-Enumeration t c =
    rw c.from_residual-in_err-behind-in-Enumeration.ensures
    (type-enumeration _ _ _ _ _ _ _ _ c.if-levels-eq0.false c.known_entry_at.ensures.is c.in_ok-entry.was c.in-Enumeration.is
    (enumeration-full _ _ _ _ _ _ _ _ _ _ c.put_group_header-in-Enumeration.ensures c.in_err-behind-in-Enumeration.was))

pub put_type-returns-in_err-base-in-Enumeration : goal.put_type-returns-in_err-base-in-Enumeration
put_type-returns-in_err-base-in-Enumeration t c =
    rw c.from_residual-in_err-base-in-Enumeration.ensures
    (type-enumeration _ _ _ _ _ _ _ _ c.if-levels-eq0.false c.known_entry_at.ensures.is c.in_ok-entry.was c.in-Enumeration.is
    (enumeration-lost _ _ _ _ _ _ _ _ _ _ c.put_group_header-in-Enumeration.ensures c.in_ok-behind-in-Enumeration.was c.put_type.ensures c.in_err-base-in-Enumeration.was))

pub put_type-returns-in_ok-base-in-Enumeration : goal.put_type-returns-in_ok-base-in-Enumeration
put_type-returns-in_ok-base-in-Enumeration t c =
    type-enumeration _ _ _ _ _ _ _ _ c.if-levels-eq0.false c.known_entry_at.ensures.is c.in_ok-entry.was c.in-Enumeration.is
    (enumeration-put _ _ _ _ _ _ _ _ _ _ c.put_group_header-in-Enumeration.ensures c.in_ok-behind-in-Enumeration.was c.put_type.ensures c.in_ok-base-in-Enumeration.was c.put_enum_members.ensures)

pub put_type-returns-in_err-behind-in-VariableLength : goal.put_type-returns-in_err-behind-in-VariableLength
put_type-returns-in_err-behind-in-VariableLength t c = rw c.from_residual-in_err-behind-in-VariableLength.ensures (search (type_variable_full, c.in_ok-entry.was, c.in_err-behind-in-VariableLength.was))

pub put_type-returns-in_ok-behind-in-VariableLength : goal.put_type-returns-in_ok-behind-in-VariableLength
put_type-returns-in_ok-behind-in-VariableLength t c = search (type_variable, c.in_ok-entry.was, c.in_ok-behind-in-VariableLength.was)

pub put_type-returns-in_err-behind-in-Array : goal.put_type-returns-in_err-behind-in-Array
put_type-returns-in_err-behind-in-Array t c = rw c.from_residual-in_err-behind-in-Array.ensures (search (type-array-full, byte_below, c.in_ok-entry.was, c.in_err-behind-in-Array.was))

pub put_type-returns-in_ok-behind-in-Array : goal.put_type-returns-in_ok-behind-in-Array
put_type-returns-in_ok-behind-in-Array t c = search (type-array, byte_below, c.in_ok-entry.was, c.in_ok-behind-in-Array.was)
