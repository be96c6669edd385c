use Rattle.table.proofs.Checking.{ends-rows, ends-place, ends_words, ends-bytes}
use Rattle.table.proofs.ends_at.Goals as goal

pub returns-then-row-gt4096 : goal.returns-then-row-gt4096
returns-then-row-gt4096 c = search ends-rows

pub returns-then-place-gt65536 : goal.returns-then-place-gt65536
returns-then-place-gt65536 c = search ends-place

pub returns-then-not-clear_words : goal.returns-then-not-clear_words
returns-then-not-clear_words c = search ends_words

pub returns : goal.returns
returns c = search ends-bytes
