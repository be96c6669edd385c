use mathlib.Core.Path.{◌≡◌}
use lib.ListN.{take}
use lib.Seq.{sets}
use Rattle.format.specs.Slots.{shifted, values_at}
use Rattle.references.proofs.store_record.Given as goal

abbrev pub invariant-loop-i : goal.invariant-loop-i
invariant-loop-i l = (l.places ≡ sets l.initial.places l.at (take l.i (shifted l.start l.slots))) × (l.values ≡ sets l.initial.values l.at (take l.i (values_at l.block (shifted l.start l.slots))))
