use Prim.Native.Nat.{◌/◌}
use mathlib.Core.Path.{ap}
use lib.ListN.{length}
use Rattle.format.specs.Slots.{record_count_of}
use Rattle.blocks.proofs.record_count.Goals as goal

pub returns : goal.returns
unfolding record_count_of
returns c = ap (◌/◌ (length c.args.bytes.now)) c.at_least_one-size.ensures.0
