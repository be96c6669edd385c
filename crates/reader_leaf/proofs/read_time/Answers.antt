use Rattle.reader_leaf.proofs.Leaves.{block_cut, times, time-go}
use Rattle.reader_leaf.proofs.read_time.Goals as goal

pub returns-then-data-lt10 : goal.returns-then-data-lt10
returns-then-data-lt10 c = search (block_cut (times c.args.header))

pub returns : goal.returns
returns c = search time-go
