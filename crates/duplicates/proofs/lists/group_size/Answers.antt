use Rattle.duplicates.proofs.Answers.{size-counted, size-room, size-known}
use borrow.Author.Rules.{rules}
use Rattle.duplicates.proofs.lists.group_size.Goals as goal

pub returns-in-None : goal.returns-in-None
returns-in-None c = search size-counted

pub overflow_add-result : goal.overflow_add-result
overflow_add-result c = let h = size-room _ _ c.requires.0 _ c.in-Some.is in search (h, rules)

pub offset_bounds-found-heads : goal.offset_bounds-found-heads
offset_bounds-found-heads c = let h = size-room _ _ c.requires.0 _ c.in-Some.is in search (h, rules)

pub bounds-found-heads : goal.bounds-found-heads
bounds-found-heads c = let h = size-room _ _ c.requires.0 _ c.in-Some.is in search (h, rules)

pub returns-in-Some : goal.returns-in-Some
returns-in-Some c = search size-known
