use Rattle.std.proofs.Common.{◌-◌}
use Rattle.slots.proofs.Repeating.{Doubling}
use Rattle.slots.proofs.repeat_slots.Given as goal

abbrev pub invariant-loop-done : goal.invariant-loop-done
invariant-loop-done l = Doubling l.stride l.count l.at l.next l.initial.out l.done l.k l.out

abbrev pub decreases-loop-done : goal.decreases-loop-done
decreases-loop-done l = l.count - l.done
