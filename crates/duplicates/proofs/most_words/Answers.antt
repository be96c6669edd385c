use native.Mathlib.Omega.{arith}
use Rattle.format.specs.Outcome.{needed}
use Rattle.duplicates.specs.WordCount.{most_words_of}
use Rattle.duplicates.proofs.most_words.Goals as goal

pub returns : goal.returns
unfolding most_words_of needed
returns c = omega arith
