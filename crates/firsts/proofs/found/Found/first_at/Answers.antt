use Rattle.firsts.proofs.Compiling.{first-sought, tallied-room, tallied-first}
use borrow.Author.Rules.{rules}
use Rattle.firsts.proofs.found.Found.first_at.Goals as goal

pub returns-in-None : goal.returns-in-None
returns-in-None c = search first-sought

pub name_of-requires-clause-k_lt_n : goal.name_of-requires-clause-k_lt_n
name_of-requires-clause-k_lt_n c = search (tallied-room, rules)

pub returns-in-Some : goal.returns-in-Some
returns-in-Some c = search tallied-first
