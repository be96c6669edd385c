use mathlib.Core.Path.{refl}
use Rattle.table.proofs.Passing.{total-outside, total_scaled}
use Rattle.table.proofs.array_total.Goals as goal

pub returns-then-pool-place : goal.returns-then-pool-place
returns-then-pool-place c = total-outside _ _ _ _ _ _ refl c.if-pool-place.true

pub returns : goal.returns
returns c = total_scaled _ _ _ _ _ refl c.scaled.ensures
