use mathlib.Core.Path.{◌≡◌}
use Rattle.format.specs.Bits.{low_bits, high_bits, bit_at}
use Rattle.format.proofs.Bits.{bit_lt}
use Rattle.primitives.proofs.bit.Goals as goal

pub returns : goal.returns
unfolding bit_at low_bits high_bits
returns c =
    let e : c.from.result ≡ bit_at c.args.k c.args.b = c.from.ensures in
    (e, rw e (bit_lt c.args.k c.args.b))
