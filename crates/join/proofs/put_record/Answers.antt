use Rattle.join.proofs.Calls.{number-inside}
use Rattle.join.proofs.Copying.{put-from, put_to, put-here, put-not}
use borrow.Author.Rules.{rules}
use Rattle.join.proofs.put_record.Goals as goal

pub get-x-requires : goal.get-x-requires
get-x-requires c = (search rules, search number-inside)

pub copy_bytes-requires : goal.copy_bytes-requires
copy_bytes-requires c = (search put-from, search put_to)

pub returns-then-is_first : goal.returns-then-is_first
returns-then-is_first c = search put-here

pub returns : goal.returns
returns c = search put-not
