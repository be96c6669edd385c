use Rattle.compare.proofs.Ranges.{strings_start, strings_end, strings_past, strings_apart, strings_next}
use Rattle.compare.proofs.agree_strings.Goals as goal

pub loop-init : goal.loop-init
loop-init c = search strings_start

pub returns-then-a-start : goal.returns-then-a-start
returns-then-a-start c = search strings_past

pub loop-preserved : goal.loop-preserved
loop-preserved c = search strings_next

pub returns-then-not-equal_string : goal.returns-then-not-equal_string
returns-then-not-equal_string c = search strings_apart

pub returns : goal.returns
returns c = search strings_end
