use Prim.Native.Nat.{◌-◌}
use mathlib.Core.Path.{◌≡◌}
use native.Mathlib.Omega.{arith}
use borrow.Author.Rules.{rules}
use Rattle.rows.proofs.Decode.{leaf-inside, row-next, array_behind, array-piece, named-behind, named-next}
use Rattle.table.proofs.Surveys.{leaf-class, type-none, type_unknown, type-leaf, type-compound, type-enumeration_none, type-enumeration-lost, type-enumeration, type-variable_length_none, type-variable_length, type-array_none, type-array, members-start, members_unnamed, members_none, members-next, members_end}
use Rattle.table.proofs.+survey.Goals as goal

pub survey_inner-returns-then-levels-eq0 : goal.survey_inner-returns-then-levels-eq0
survey_inner-returns-then-levels-eq0 t c = search type-none

pub survey_inner-returns-in_err-entry : goal.survey_inner-returns-in_err-entry
survey_inner-returns-in_err-entry t c = search (type_unknown, c.in_err-entry.was)

pub survey_inner-leaf_survey-requires : goal.survey_inner-leaf_survey-requires
survey_inner-leaf_survey-requires t c = let i = leaf-inside _ _ _ _ c.entry_at.ensures.inside c.in_ok-entry.was c.in-Leaf.is in
    let k = leaf-class _ _ _ _ c.entry_at.ensures.is c.in_ok-entry.was c.in-Leaf.is in
    (omega arith, (omega arith, k))

pub survey_inner-returns-in-Leaf : goal.survey_inner-returns-in-Leaf
survey_inner-returns-in-Leaf t c = search (type-leaf, c.in_ok-entry.was)

pub survey_members-loop-init : goal.survey_members-loop-init
survey_members-loop-init t c = let e : c.args.count - 0 ≡ c.args.count = omega arith in rw e (members-start _ _ c.then_some-zero.ensures)

pub survey_members-returns-in_err-member : goal.survey_members-returns-in_err-member
survey_members-returns-in_err-member t c = search (members_unnamed, c.in_err-member.was, arith)

pub survey_members-returns-in_err-s : goal.survey_members-returns-in_err-s
survey_members-returns-in_err-s t c = search (members_none, c.in_ok-member.was, c.in_err-s.was, arith)

pub survey_members-loop-preserved : goal.survey_members-loop-preserved
survey_members-loop-preserved t c = members-next _ _ _ _ _ _ _ _ _ _ _ _ c.loop.invariant (omega arith) c.member_at.ensures.is c.in_ok-member.was c.survey_inner.ensures c.in_ok-s.was c.or-zero.ensures c.from.ensures c.from-in-loop.ensures c.from-in-loop-2.ensures (omega arith)

pub survey_members-returns : goal.survey_members-returns
survey_members-returns t c = search (members_end, arith)

pub survey_type-returns-then-levels-eq0 : goal.survey_type-returns-then-levels-eq0
survey_type-returns-then-levels-eq0 t c = search type-none

pub survey_type-returns-in_err-entry : goal.survey_type-returns-in_err-entry
survey_type-returns-in_err-entry t c = search (type_unknown, c.in_err-entry.was)

pub survey_type-leaf_survey-requires : goal.survey_type-leaf_survey-requires
survey_type-leaf_survey-requires t c = let i = leaf-inside _ _ _ _ c.entry_at.ensures.inside c.in_ok-entry.was c.in-Leaf.is in
    let k = leaf-class _ _ _ _ c.entry_at.ensures.is c.in_ok-entry.was c.in-Leaf.is in
    (omega arith, (omega arith, k))

pub survey_type-overflow_add-row : goal.survey_type-overflow_add-row
survey_type-overflow_add-row t c = search (row-next, c.in_ok-entry.was, rules)

pub survey_type-overflow_add-row-in-Enumeration : goal.survey_type-overflow_add-row-in-Enumeration
survey_type-overflow_add-row-in-Enumeration t c = search (row-next, c.in_ok-entry.was, rules)

pub survey_type-overflow_add-row-in-VariableLength : goal.survey_type-overflow_add-row-in-VariableLength
survey_type-overflow_add-row-in-VariableLength t c = search (row-next, c.in_ok-entry.was, rules)

pub survey_type-overflow_add-row-in-Array : goal.survey_type-overflow_add-row-in-Array
survey_type-overflow_add-row-in-Array t c = search (row-next, c.in_ok-entry.was, rules)

pub survey_type-overflow_add-behind : goal.survey_type-overflow_add-behind
survey_type-overflow_add-behind t c = search (array_behind, c.in_ok-entry.was, rules)

pub survey_type-array_survey-requires : goal.survey_type-array_survey-requires
survey_type-array_survey-requires t c = search (array-piece, c.in_ok-entry.was)

pub survey_type-returns-in-Leaf : goal.survey_type-returns-in-Leaf
survey_type-returns-in-Leaf t c = search (type-leaf, c.in_ok-entry.was)

pub survey_type-returns-in-Compound : goal.survey_type-returns-in-Compound
survey_type-returns-in-Compound t c = search (type-compound, c.in_ok-entry.was)

pub survey_type-returns-in_err-base-in-VariableLength : goal.survey_type-returns-in_err-base-in-VariableLength
survey_type-returns-in_err-base-in-VariableLength t c = search (type-variable_length_none, c.in_ok-entry.was, c.in_err-base-in-VariableLength.was)

pub survey_type-returns-in_err-base-in-Array : goal.survey_type-returns-in_err-base-in-Array
survey_type-returns-in_err-base-in-Array t c = search (type-array_none, c.in_ok-entry.was, c.in_err-base-in-Array.was)

pub survey_members-overflow_add-r : goal.survey_members-overflow_add-r
survey_members-overflow_add-r t c = search (named-next, named-behind, c.in_ok-member.was, rules)

pub survey_members-overflow_add-p : goal.survey_members-overflow_add-p
survey_members-overflow_add-p t c = search (named-next, named-behind, c.in_ok-member.was, rules)

pub survey_type-returns-in_err-base-in-Enumeration : goal.survey_type-returns-in_err-base-in-Enumeration
survey_type-returns-in_err-base-in-Enumeration t c = search (type-enumeration_none, c.in_ok-entry.was, c.in_err-base-in-Enumeration.was)

pub survey_type-returns-in_err-end-in-Enumeration : goal.survey_type-returns-in_err-end-in-Enumeration
survey_type-returns-in_err-end-in-Enumeration t c = search (type-enumeration-lost, c.in_ok-entry.was, c.in_ok-base-in-Enumeration.was, c.in_err-end-in-Enumeration.was)

pub survey_type-returns-in_ok-end-in-Enumeration : goal.survey_type-returns-in_ok-end-in-Enumeration
survey_type-returns-in_ok-end-in-Enumeration t c = search (type-enumeration, c.in_ok-entry.was, c.in_ok-base-in-Enumeration.was, c.in_ok-end-in-Enumeration.was)

pub survey_type-returns-in_ok-base-in-VariableLength : goal.survey_type-returns-in_ok-base-in-VariableLength
survey_type-returns-in_ok-base-in-VariableLength t c = search (type-variable_length, c.in_ok-entry.was, c.in_ok-base-in-VariableLength.was)

pub survey_type-returns-in_ok-base-in-Array : goal.survey_type-returns-in_ok-base-in-Array
survey_type-returns-in_ok-base-in-Array t c = search (type-array, c.in_ok-entry.was, c.in_ok-base-in-Array.was)
