use Rattle.reader_leaf.proofs.Leaves.{block_cut, floating_points, floating_point-go}
use Rattle.reader_leaf.proofs.read_floating_point.Goals as goal

pub returns-then-data-lt20 : goal.returns-then-data-lt20
returns-then-data-lt20 c = search (block_cut (floating_points c.args.header))

pub returns : goal.returns
returns c = search floating_point-go
