use borrow.Author.Rules.{rules}
use Rattle.format.specs.Bytes.{padding_to8}
use Rattle.primitives.proofs.padding_to_8.Goals as goal

pub returns : goal.returns
unfolding padding_to8
returns c = search rules
