use native.Mathlib.Omega.{arith}
use Rattle.listing.specs.Puts.{name_of}
use Rattle.rows.proofs.Decode.{named-behind, named-next, named-piece}
use Rattle.listing.proofs.Shapes.{members-row, base-row}
use Rattle.listing.proofs.Lines.{members-ended, members_unnamed, members_unsurveyed, members-next, type-shallow, type-plain, type-members, type-base}
use borrow.Author.Rules.{rules}
use Rattle.listing.proofs.+put.Goals as goal

pub put_members-returns-in_default : goal.put_members-returns-in_default
put_members-returns-in_default t c = members_unnamed c.loop.invariant (omega arith) c.member_at.ensures.is c.in_default.is

pub put_members-overflow_add-from : goal.put_members-overflow_add-from
put_members-overflow_add-from t c = search (named-next, named-behind, rules)

pub put_members-overflow_add-r : goal.put_members-overflow_add-r
put_members-overflow_add-r t c = search (named-next, named-behind, rules)

pub put_members-slice_bounds-name-end : goal.put_members-slice_bounds-name-end
put_members-slice_bounds-name-end t c = search (named-piece, rules)

pub put_members-loop-preserved : goal.put_members-loop-preserved
unfolding name_of
put_members-loop-preserved t c = members-next c.loop.invariant (omega arith) c.member_at.ensures.is c.in-Some.is (rw c.saturating_sub-levels.ensures at c.survey_type.ensures) c.in-Some-survey_type.is (search rules) c.put_type-a.ensures (omega arith)

pub put_members-returns : goal.put_members-returns
put_members-returns t c = members-ended c.loop.invariant (omega arith)

pub put_type-returns-then-level-gt32 : goal.put_type-returns-then-level-gt32
put_type-returns-then-level-gt32 t c = search type-shallow

pub put_type-overflow_add-row : goal.put_type-overflow_add-row
put_type-overflow_add-row t c = omega (arith, members-row c.inside_at-inside.ensures c.in-Members.is)

pub put_type-overflow_add-row-in-Base : goal.put_type-overflow_add-row-in-Base
put_type-overflow_add-row-in-Base t c = omega (arith, base-row c.inside_at-inside.ensures c.in-Base.is)

pub put_type-returns-in-Nothing : goal.put_type-returns-in-Nothing
put_type-returns-in-Nothing t c = search type-plain

pub put_type-returns-in-Members : goal.put_type-returns-in-Members
put_type-returns-in-Members t c = search type-members

pub put_type-returns-in-Base : goal.put_type-returns-in-Base
put_type-returns-in-Base t c = search type-base

pub put_members-overflow_add-r-in-loop : goal.put_members-overflow_add-r-in-loop
put_members-overflow_add-r-in-loop t c = search (named-next, named-behind, rules)

pub put_members-returns-in_default-survey_type : goal.put_members-returns-in_default-survey_type
put_members-returns-in_default-survey_type t c =
    members_unsurveyed c.loop.invariant (omega arith) c.member_at.ensures.is c.in-Some.is (rw c.saturating_sub-levels.ensures at c.survey_type.ensures) c.in_default-survey_type.is
