use Rattle.rows.proofs.Words.{row-found}
use Rattle.rows.proofs.row_words.Goals as goal

pub returns : goal.returns
returns c = row-found _ _ c.get.result c.as_chunks.ensures.front c.as_chunks.ensures.front_len c.get.ensures.lookup
