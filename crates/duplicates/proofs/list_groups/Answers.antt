use Rattle.duplicates.proofs.Answers.{groups-full, groups-room, groups-listed}
use borrow.Author.Rules.{rules}
use Rattle.duplicates.proofs.list_groups.Goals as goal

pub returns-then-sizes-d : goal.returns-then-sizes-d
returns-then-sizes-d c = search groups-full

pub list_sizes-requires : goal.list_sizes-requires
list_sizes-requires c = (search rules, search groups-room)

pub returns : goal.returns
returns c = search groups-listed
