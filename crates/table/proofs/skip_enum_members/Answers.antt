use Prim.Native.Nat.{◌-◌}
use mathlib.Core.Path.{◌≡◌, refl}
use native.Mathlib.Omega.{arith}
use Rattle.rows.proofs.Decode.{named-inside}
use Rattle.rows.proofs.EnumNames.{behind-none, behind-some, end-none, end-some}
use Rattle.table.proofs.Skipping.{skip-none, skip-start, skip_unnamed, skip-behind, skip-past, skip-lost, skip-ended}
use Rattle.table.proofs.skip_enum_members.Goals as goal

pub returns-then-count-eq0 : goal.returns-then-count-eq0
returns-then-count-eq0 c = search skip-none

pub loop-init : goal.loop-init
loop-init c = let e : c.args.count - 0 ≡ c.args.count = omega arith in (omega arith, rw e (skip-start _ _ _ _ _ refl (omega arith)))

pub returns-in_err-member : goal.returns-in_err-member
returns-in_err-member c = search (skip_unnamed, c.in_err-member.was, arith)

pub behind-requires : goal.behind-requires
behind-requires c = let i = named-inside _ _ _ _ c.in_ok-member.was c.enum_member_at.ensures.inside in (omega (arith, i.0), (i.1, c.loop.invariant.0))

pub returns-in_err-at : goal.returns-in_err-at
returns-in_err-at c = rw c.from_residual-in_err-at.ensures (skip-past _ _ _ _ _ _ c.enum_member_at.ensures.is c.loop.invariant.1 (omega arith) c.in_ok-member.was (behind-none _ _ _ c.behind.ensures c.in_err-at.was))

pub loop-preserved : goal.loop-preserved
loop-preserved c =
    let b = behind-some _ _ _ c.behind.ensures c.in_ok-at.was in
    (rw b.1 (omega (arith, b.0, c.loop.invariant.0)), skip-behind _ _ _ _ _ _ c.enum_member_at.ensures.is c.loop.invariant.1 (omega arith) c.in_ok-member.was (omega arith) b.1)

pub returns-in_err-end : goal.returns-in_err-end
returns-in_err-end c = rw c.from_residual-in_err-end.ensures (skip-lost _ _ _ _ _ _ c.loop.invariant.1 (omega arith) (end-none _ _ c.end.ensures c.in_err-end.was))

pub returns : goal.returns
returns c = skip-ended _ _ _ _ _ _ c.loop.invariant.1 (omega arith) (end-some _ _ c.end.ensures c.in_ok-end.was)
