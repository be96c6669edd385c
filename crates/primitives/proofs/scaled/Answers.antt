use mathlib.Core.Path.{◌∙◌}
use native.Mathlib.Omega.{arith}
use Rattle.primitives.proofs.Scaling.{chunks_of, scale_start, scale_next, scale_end}
use Rattle.primitives.proofs.scaled.Goals as goal

pub loop-dimension-init : goal.loop-dimension-init
loop-dimension-init c = let a = c.args in rw c.from-total.ensures (omega arith, scale_start _ _ _ _ _ (chunks_of _ _ a.place a.rank _ _ c.requires (omega arith) (omega arith) c.as_chunks.ensures.front) c.requires a.size)

pub loop-dimension-preserved : goal.loop-dimension-preserved
loop-dimension-preserved c = let a = c.args in
    let l = c.loop-dimension in
    (omega arith, scale_next _ _ _ _ _ (chunks_of _ _ a.place a.rank _ _ c.requires (omega arith) (omega arith) c.as_chunks.ensures.front) c.requires l.dimension-index l.total _ _ _ (omega arith) (omega arith) (c.from.ensures ∙ c.from_le_bytes.ensures) l.invariant.1 c.min-total.ensures)

pub returns : goal.returns
returns c = let l = c.loop-dimension in scale_end _ _ l.dimension-index l.total _ (omega arith) l.invariant.0 l.invariant.1
