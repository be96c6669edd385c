use Rattle.compare.proofs.Ranges.{string-equal, string_by_nul}
use Rattle.compare.proofs.equal_string.Goals as goal

pub returns-then-equal-n : goal.returns-then-equal-n
returns-then-equal-n c = search string-equal

pub returns-else-equal-n : goal.returns-else-equal-n
returns-else-equal-n c = search string_by_nul
