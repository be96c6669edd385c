use Rattle.firsts.proofs.KeyLaws.{counted-keys}
use Rattle.firsts.proofs.search.Goals as goal

pub returns-clause-standing : goal.returns-clause-standing
returns-clause-standing c =
    let e = counted-keys _ _ _ c.requires _ c.count-n.ensures in
    record { comparable = c.requires; count = e; known = rw e c.find_firsts-firsts.ensures.known }
