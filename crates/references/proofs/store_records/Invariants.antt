use mathlib.Core.Path.{◌≡◌}
use lib.Seq.{sets}
use Rattle.format.specs.Slots.{entries, values_at}
use Rattle.references.proofs.store_records.Given as goal

abbrev pub invariant-loop-i : goal.invariant-loop-i
invariant-loop-i l = (l.places ≡ sets l.initial.places 0 (entries l.size l.slots 0 l.i)) × (l.values ≡ sets l.initial.values 0 (values_at l.block (entries l.size l.slots 0 l.i)))
