use native.Mathlib.Omega.{arith}
use borrow.Author.Rules.{rules}
use mathlib.Core.Path.{refl}
use Rattle.format.specs.Table.{row, compound_row}
use Rattle.reading.proofs.Members.{members-begun, members-ended, members-stopped, entered-ready, entered-within, members-refused, members-turned, entered-behind, table-turned, pool-turned}
use Rattle.reading.proofs.Contracts.{ready_any_version, passed_on}
use Rattle.reading.proofs.Types.{leaf-free, leaf-long, leaf-kind, type-ends, type-headless, type-shuts, type-leaf, compound-refuses, compound-ends, based-within, based-ready, based-refuses, based_around, based_fits, based_read, based-ends}
use Rattle.reader.proofs.+read.Goals as goal

pub read_members-loop-init : goal.read_members-loop-init
read_members-loop-init t c = search members-begun

pub read_members-returns-in_err-named : goal.read_members-returns-in_err-named
read_members-returns-in_err-named t c = rw (passed_on c.from_residual.result c.from_residual.ensures) (search (members-stopped, c.in_err-named.was))

pub read_members-slice_bounds-part-count : goal.read_members-slice_bounds-part-count
read_members-slice_bounds-part-count t c = search (rules, entered-within, c.in_ok-named.was)

pub read_members-slice_bounds-part-start : goal.read_members-slice_bounds-part-start
read_members-slice_bounds-part-start t c = search (rules, entered-within, c.in_ok-named.was)

pub read_members-read_type-requires : goal.read_members-read_type-requires
read_members-read_type-requires t c = (search rules, ready_any_version _ (entered-ready c.enter_member.ensures c.in_ok-named.was) refl refl)

pub read_members-shape_of-table-in_err-inner : goal.read_members-shape_of-table-in_err-inner
read_members-shape_of-table-in_err-inner t c = search table-turned

pub read_members-shape_of-pool-in_err-inner : goal.read_members-shape_of-pool-in_err-inner
read_members-shape_of-pool-in_err-inner t c = search pool-turned

pub read_members-returns-in_err-inner : goal.read_members-returns-in_err-inner
read_members-returns-in_err-inner t c = rw (passed_on c.from_residual-in_err-inner.result c.from_residual-in_err-inner.ensures) (search (members-refused, c.in_ok-named.was, c.in_err-inner.was))

pub read_members-behind-next-requires : goal.read_members-behind-next-requires
read_members-behind-next-requires t c =
    let fits = entered-behind c.loop.invariant c.enter_member.ensures c.in_ok-named.was c.read_type.ensures c.in_ok-inner.was in
    omega (arith, fits)

pub read_members-loop-preserved : goal.read_members-loop-preserved
read_members-loop-preserved t c = rw c.behind-next.ensures (search (members-turned, c.in_ok-named.was, c.in_ok-inner.was))

pub read_members-returns : goal.read_members-returns
read_members-returns t c = search members-ended

pub read_type-returns-then-levels-eq0 : goal.read_type-returns-then-levels-eq0
read_type-returns-then-levels-eq0 t c = search type-ends

pub read_type-slice_bounds-part-count : goal.read_type-slice_bounds-part-count
read_type-slice_bounds-part-count t c = search (rules, based-within, c.in_ok-opened.ensures)

pub read_type-slice_bounds-part-start : goal.read_type-slice_bounds-part-start
read_type-slice_bounds-part-start t c = search (rules, based-within, c.in_ok-opened.ensures)

pub read_type-read_type-requires : goal.read_type-read_type-requires
read_type-read_type-requires t c = (search rules, search (based-ready, c.in_ok-opened.ensures))

pub read_type-behind-requires : goal.read_type-behind-requires
read_type-behind-requires t c = search (based_fits, c.in_ok-opened.ensures, c.in_ok-inner-in-Based.was)

pub read_type-end_based-requires : goal.read_type-end_based-requires
read_type-end_based-requires t c = (search (based_around, c.in_ok-opened.ensures), rw c.behind.ensures (search (based_read, c.in_ok-opened.ensures, c.in_ok-inner-in-Based.was)))

pub read_type-returns-in_err-header : goal.read_type-returns-in_err-header
read_type-returns-in_err-header t c = rw (passed_on c.from_residual.result c.from_residual.ensures) (search (type-headless, c.in_err-header.was))

pub read_type-returns-in_err-opened : goal.read_type-returns-in_err-opened
read_type-returns-in_err-opened t c = rw (passed_on c.from_residual-in_err-opened.result c.from_residual-in_err-opened.ensures) (search (type-shuts, c.in_err-opened.was))

pub read_type-returns-in-Leaf : goal.read_type-returns-in-Leaf
read_type-returns-in-Leaf t c = search (type-leaf, c.in_ok-opened.ensures)

pub read_type-returns-in_err-members-in-Compound : goal.read_type-returns-in_err-members-in-Compound
read_type-returns-in_err-members-in-Compound t c = rw (passed_on c.from_residual-in_err-members-in-Compound.result c.from_residual-in_err-members-in-Compound.ensures) (search (compound-refuses, c.in_ok-opened.ensures, c.in_err-members-in-Compound.was))

pub read_type-returns-in_ok-members-in-Compound : goal.read_type-returns-in_ok-members-in-Compound
unfolding row compound_row
read_type-returns-in_ok-members-in-Compound t c = search (compound-ends, c.in_ok-opened.ensures, c.in_ok-members-in-Compound.was)

pub read_type-returns-in_err-inner-in-Based : goal.read_type-returns-in_err-inner-in-Based
read_type-returns-in_err-inner-in-Based t c = rw (passed_on c.from_residual-in_err-inner-in-Based.result c.from_residual-in_err-inner-in-Based.ensures) (search (based-refuses, c.in_ok-opened.ensures, c.in_err-inner-in-Based.was))

pub read_type-returns-in_ok-inner-in-Based : goal.read_type-returns-in_ok-inner-in-Based
read_type-returns-in_ok-inner-in-Based t c = search (based-ends, c.in_ok-opened.ensures, c.in_ok-inner-in-Based.was, c.behind.ensures)

pub read_type-read_leaf-requires : goal.read_type-read_leaf-requires
read_type-read_leaf-requires t c = search (rules, leaf-free, leaf-long, leaf-kind, c.in_ok-opened.was, c.in-Leaf.is)
