use borrow.Author.Rules.{rules}
use Rattle.format.proofs.Bytes.{byte_below}
use Rattle.reader_behind.proofs.Ending.{array_held, array-ends, capped_twice}
use Rattle.reader_behind.proofs.end_array.Goals as goal

pub copy_bytes-requires : goal.copy_bytes-requires
copy_bytes-requires c = (search rules, array_held c.args.rank _ c.requires.0)

pub returns : goal.returns
returns c = search (array-ends, byte_below, capped_twice)
