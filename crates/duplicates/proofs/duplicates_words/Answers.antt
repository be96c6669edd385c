use Rattle.std.proofs.lemmas.Result.{err_from_is_err_and}
use Rattle.compare.proofs.Comparing.{admitted-size}
use Rattle.duplicates.proofs.WordLaws.{words-refused, words-given}
use Rattle.duplicates.proofs.duplicates_words.Goals as goal

pub list_runs-runs-requires : goal.list_runs-runs-requires
list_runs-runs-requires c = search (admitted-size, c.in_ok-size.was)

pub returns-in_err-size : goal.returns-in_err-size
returns-in_err-size c = let p = err_from_is_err_and c.from_residual.result c.from_residual.ensures.1 in rw (p.1, p.2) (search (words-refused, c.in_err-size.was))

pub returns : goal.returns
returns c = search (words-given, c.in_ok-size.was)
