use native.Mathlib.Omega.{arith}
use Rattle.rows.proofs.Decode.{named-inside}
use Rattle.rows.proofs.EnumNames.{behind-none, behind-some}
use Rattle.writer_parts.proofs.Enums.{enum_begun, enum_unnamed, enum_full, enum_past, enum_next, enum_cut, enum_ended}
use Rattle.writer_parts.proofs.put_enum_members.Goals as goal

pub loop-init : goal.loop-init
loop-init c = search enum_begun

pub returns-in_err-member : goal.returns-in_err-member
returns-in_err-member c = rw c.from_residual.ensures (search (enum_unnamed, c.in_err-member.was))

pub returns-in_err-a : goal.returns-in_err-a
returns-in_err-a c = rw c.from_residual-in_err-a.ensures (search (enum_full, c.in_ok-member.was, c.in_err-a.was))

pub behind-requires : goal.behind-requires
behind-requires c = let i = named-inside _ _ _ _ c.in_ok-member.was c.known_enum_member_at.ensures.inside in (omega (arith, i.0), (i.1, c.loop.invariant.some))

pub returns-in_err-from : goal.returns-in_err-from
returns-in_err-from c = rw c.from_residual-in_err-from.ensures (search (enum_past, c.in_ok-member.was, behind-none _ _ _ c.behind.ensures c.in_err-from.was))

pub loop-preserved : goal.loop-preserved
loop-preserved c = search (enum_next, c.in_ok-member.was, c.in_ok-a.was, behind-some _ _ _ c.behind.ensures c.in_ok-from.was)

pub returns-in_err-end : goal.returns-in_err-end
returns-in_err-end c = rw c.from_residual-in_err-end.ensures (search (enum_cut, c.in_err-end.was))

pub returns : goal.returns
returns c = search (enum_ended, c.in_ok-end.was)
