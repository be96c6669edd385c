use Rattle.reader_leaf.proofs.Leaves.{bits_cut, bits-go}
use Rattle.reader_leaf.proofs.read_bits.Goals as goal

pub returns-then-data-lt12 : goal.returns-then-data-lt12
returns-then-data-lt12 c k i = bits_cut (search) k _ _ i

pub returns : goal.returns
returns c = search bits-go
