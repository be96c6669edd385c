use native.Mathlib.Omega.{arith}
use Rattle.references.proofs.Laws.{place-more, value-more, all-stored}
use Rattle.references.proofs.store_record.Goals as goal

pub loop-i-preserved : goal.loop-i-preserved
loop-i-preserved c = let l = c.loop-i in (
  place-more _ _ _ _ _ l.i (omega arith) l.invariant.0,
  value-more _ _ _ _ _ l.i (omega arith) _ _ c.read_u64.ensures l.invariant.1,
)

pub returns : goal.returns
returns c = let l = c.loop-i in
    all-stored _ l.places _ l.values _ _ _ _ l.i (omega arith) l.invariant.0 l.invariant.1
