use mathlib.Core.Path.{◌≡◌}
use lib.ListN.{drop}
use Rattle.same.specs.Numbers.{decimal_from, decimal_of}
use Rattle.same.proofs.numbers.decimal.Given as goal

abbrev pub invariant-loop-b : goal.invariant-loop-b
invariant-loop-b l = decimal_of l.s ≡ decimal_from l.value (drop l.b-index l.s)
