use Rattle.runs.proofs.Storing.{store_full, store_large, store_past, store_here}
use borrow.Author.Rules.{rules}
use Rattle.runs.proofs.store_run.Goals as goal

pub returns-then-s-ge9223372036854775808 : goal.returns-then-s-ge9223372036854775808
returns-then-s-ge9223372036854775808 c = search (store_full, rules)

pub returns-then-s-ge4294967296 : goal.returns-then-s-ge4294967296
returns-then-s-ge4294967296 c = search store_large

pub returns-then-work-s : goal.returns-then-work-s
returns-then-work-s c = search store_past

pub returns : goal.returns
returns c = search store_here
