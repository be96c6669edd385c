use native.Mathlib.Nat.{sub-zero}
use mathlib.Core.Path.{refl}
use native.Mathlib.Omega.{arith}
use Rattle.rows.proofs.Decode.{named-inside, named-piece}
use Rattle.rows.proofs.EnumNames.{behind-none, behind-some, end-none, end-some}
use Rattle.measure.proofs.Listed.{listed-none, listed_start, listed_unnamed, listed-past-pool, listed_at, listed-lost, listed-ended}
use Rattle.measure.proofs.measure_enum_members.Goals as goal

pub returns-then-count-eq0 : goal.returns-then-count-eq0
returns-then-count-eq0 c = search listed-none

pub loop-init : goal.loop-init
loop-init c = (omega arith, rw sub-zero (listed_start _ _ _ _ _ _ _ refl (omega arith)))

pub returns-in_err-member : goal.returns-in_err-member
returns-in_err-member c = rw c.from_residual.ensures (search (listed_unnamed, c.in_err-member.was))

pub with_enum_name-names-requires : goal.with_enum_name-names-requires
with_enum_name-names-requires c = search (named-piece, c.in_ok-member.was)

pub behind-requires : goal.behind-requires
behind-requires c = let i = named-inside _ _ _ _ c.in_ok-member.was c.enum_member_at.ensures.inside in (omega (arith, i.0), (i.1, c.loop.invariant.0))

pub returns-in_err-next : goal.returns-in_err-next
returns-in_err-next c = rw c.from_residual-in_err-next.ensures (listed-past-pool _ _ _ _ _ _ _ _ _ _ _ c.enum_member_at.ensures.is c.loop.invariant.1 (omega arith) c.in_ok-member.was (behind-none _ _ _ c.behind.ensures c.in_err-next.was))

pub loop-preserved : goal.loop-preserved
loop-preserved c =
    let i = named-inside _ _ _ _ c.in_ok-member.was c.enum_member_at.ensures.inside in
    let b = behind-some _ _ _ c.behind.ensures c.in_ok-next.was in
    (rw b.1 (omega (arith, b.0, c.loop.invariant.0)), listed_at _ _ _ _ _ _ _ _ _ _ _ c.enum_member_at.ensures.is c.loop.invariant.1 (omega arith) c.in_ok-member.was i.1 c.with_enum_name-names.ensures b.1)

pub returns-in_err-end : goal.returns-in_err-end
returns-in_err-end c = rw c.from_residual-in_err-end.ensures (listed-lost _ _ _ _ _ _ _ _ _ _ _ c.loop.invariant.1 (omega arith) (end-none _ _ c.end.ensures c.in_err-end.was))

pub returns : goal.returns
returns c = listed-ended _ _ _ _ _ _ _ _ _ _ _ c.loop.invariant.1 (omega arith) (end-some _ _ c.end.ensures c.in_ok-end.was) c.add_lengths.ensures
