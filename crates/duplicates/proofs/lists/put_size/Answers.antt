use Rattle.groups.proofs.Lists.{group_room, group_here, group_not}
use Rattle.duplicates.proofs.Answers.{number-there}
use borrow.Author.Rules.{rules}
use Rattle.duplicates.proofs.lists.put_size.Goals as goal

pub offset_bounds-numbers-k : goal.offset_bounds-numbers-k
offset_bounds-numbers-k c = let h = number-there _ _ c.requires.numbered.0 in search (h, rules)

pub bounds-numbers-k : goal.bounds-numbers-k
bounds-numbers-k c = let h = number-there _ _ c.requires.numbered.0 in search (h, rules)

pub bounds-sizes-g : goal.bounds-sizes-g
bounds-sizes-g c = search (group_room, rules)

pub returns-then-numbers-k : goal.returns-then-numbers-k
returns-then-numbers-k c = search group_here

pub returns : goal.returns
returns c = search group_not
