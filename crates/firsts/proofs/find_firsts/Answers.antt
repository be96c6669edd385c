use Rattle.firsts.proofs.KeyLaws.{counted-keys}
use Rattle.firsts.proofs.Compiling.{compiled, compiled-firsts, plain-firsts}
use Rattle.firsts.proofs.find_firsts.Goals as goal

pub count_all-distinct-requires : goal.count_all-distinct-requires
count_all-distinct-requires c =
    compiled _ _ _ _ c.requires _ c.list_type-buckets.ensures c.in-Some.is (counted-keys _ _ _ c.requires _ c.count-n.ensures)

pub returns-in-None : goal.returns-in-None
returns-in-None c = search plain-firsts

pub returns-in-Some : goal.returns-in-Some
returns-in-Some c =
    let e = counted-keys _ _ _ c.requires _ c.count-n.ensures in
    compiled-firsts _ _ _ _ c.requires _ c.list_type-buckets.ensures c.in-Some.is e _ _ c.count_all-distinct.ensures
