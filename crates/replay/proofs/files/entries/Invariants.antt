use Prim.Native.Nat.{◌+◌, ◌≤◌}
use lib.ListN.{length}
use Rattle.replay.proofs.files.entries.Given as goal

-- Each entry takes at least a byte, so the count is at most the bytes taken.
abbrev pub invariant-loop-rest : goal.invariant-loop-rest
invariant-loop-rest l = (l.count + length l.rest.bytes.now ≤ length l.bytes) × (l.lines ≤ l.count)

abbrev pub decreases-loop-rest : goal.decreases-loop-rest
decreases-loop-rest l = length l.rest.bytes.now
