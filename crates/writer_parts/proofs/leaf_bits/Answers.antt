use Rattle.writer_parts.proofs.Leaves.{no_bits, bits_of-none, bits_of}
use Rattle.writer_parts.proofs.leaf_bits.Goals as goal

pub returns-then-class-ne1 : goal.returns-then-class-ne1
returns-then-class-ne1 c = search (no_bits, bits_of-none, bits_of)

pub returns-then-size-eq0 : goal.returns-then-size-eq0
returns-then-size-eq0 c = search (no_bits, bits_of-none, bits_of)

pub returns : goal.returns
returns c = rw c.from.ensures (search bits_of)
