use mathlib.Core.Path.{◌≡◌}
use lib.ListN.{take}
use lib.Seq.{sets}
use Rattle.firsts.specs.Found.{numbers_in}
use Rattle.duplicates.proofs.lists.put_numbers.Given as goal

abbrev pub invariant-loop-k : goal.invariant-loop-k
invariant-loop-k l = l.numbers ≡ sets l.initial.numbers 0 (take l.k (numbers_in l.found))
