use Prim.Native.Nat.{◌+◌, ◌≤◌}
use mathlib.Core.Path.{◌≡◌}
use lib.ListN.{length}
use Rattle.reader_behind.proofs.Valuing.{Onward}
use Rattle.reader_behind.proofs.read_values.Given as goal

abbrev pub invariant-loop : goal.invariant-loop
invariant-loop l =
    ((l.counter ≤ l.count) × (l.next.at ≤ length l.data + 7) × (l.next.rows ≡ l.fn.start.rows))
    × (((l.next.pooled ≤ l.limits.pool) × (l.limits.pool ≤ length l.pool)) × ((length l.pool ≡ length l.initial.pool) × Onward l.data l.limits l.width l.fn.start.rows l.count l.fn.start.at l.fn.start.pooled l.initial.pool l.counter l.next.at l.next.pooled l.pool))
