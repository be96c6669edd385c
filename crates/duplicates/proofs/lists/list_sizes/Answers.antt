use native.Mathlib.Omega.{arith}
use Rattle.groups.proofs.Ways.{sizes-all}
use Rattle.groups.proofs.Lists.{sizes-none, size_room, groups-more, sizes-more}
use borrow.Author.Rules.{rules}
use Rattle.duplicates.proofs.lists.list_sizes.Goals as goal

pub loop-k-init : goal.loop-k-init
loop-k-init c = sizes-none _ _

pub put_size-g-requires : goal.put_size-g-requires
put_size-g-requires c = record { numbered = search rules; room = search (size_room, rules) }

pub loop-k-preserved : goal.loop-k-preserved
loop-k-preserved c = let l = c.loop-k in
    (groups-more _ _ _ l.g _ l.k c.put_size-g.ensures l.invariant.0, sizes-more _ _ _ _ l.g _ l.k c.put_size-g.ensures l.invariant.0 l.invariant.1)

pub returns : goal.returns
returns c = let l = c.loop-k in
    sizes-all _ _ _ c.args.found.n l.k (omega arith) l.invariant.1
