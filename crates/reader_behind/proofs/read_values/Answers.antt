use borrow.Author.Rules.{rules}
use mathlib.Core.Path.{refl}
use native.Mathlib.Omega.{arith}
use Rattle.reader_behind.proofs.Valuing.{onward_start, onward_end, onward_short, onward_full, onward_more}
use Rattle.reader_behind.proofs.read_values.Goals as goal

pub loop-init : goal.loop-init
loop-init c = ((omega arith, omega arith, refl), ((omega arith, omega arith), (refl, onward_start _ _ _ _ _ _ _ _)))

pub returns-then-data-next : goal.returns-then-data-next
returns-then-data-next c = onward_short _ _ _ _ _ _ _ _ _ _ _ _ c.loop.invariant.1.1.1 (omega arith) (omega arith) (omega arith)

pub returns-then-limits-next : goal.returns-then-limits-next
returns-then-limits-next c = search (onward_full, rules)

pub loop-preserved : goal.loop-preserved
loop-preserved c = ((omega arith, omega arith, omega arith), ((omega arith, omega arith), (omega arith, search (onward_more, rules))))

pub returns : goal.returns
returns c = onward_end _ _ _ _ _ _ _ _ _ _ _ _ c.loop.invariant.1.1.1 c.loop.invariant.0.2 (omega arith) (omega arith) (omega arith)
