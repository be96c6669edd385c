use Rattle.keys.proofs.Words.{word_four}
use Rattle.keys.proofs.word.Goals as goal

pub returns : goal.returns
returns c = word_four c.args.x.now c.type_inv.x c.args.at _ c.requires c.from_le_bytes.ensures
