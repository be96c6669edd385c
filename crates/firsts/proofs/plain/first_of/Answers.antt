use native.Mathlib.Omega.{arith}
use Rattle.groups.proofs.Firsts.{first_found, first-passed, first-own}
use Rattle.firsts.proofs.KeyLaws.{key_inside, record_admits, record_lengths, key_compared}
use borrow.Author.Rules.{rules}
use Rattle.firsts.proofs.plain.first_of.Goals as goal

pub get-requires : goal.get-requires
get-requires c = (search rules, key_inside _ _ _ c.requires.comparable _ (omega arith))

pub get-requires-in-loop-j : goal.get-requires-in-loop-j
get-requires-in-loop-j c = (search rules, key_inside _ _ _ c.requires.comparable _ (omega arith))

pub same_records-requires : goal.same_records-requires
same_records-requires c = search (record_admits, record_lengths, arith)

pub returns-then-same_records : goal.returns-then-same_records
returns-then-same_records c = let e = key_compared _ _ _ c.requires.comparable _ _ (omega arith) c.requires.k_in_bounds c.get.ensures c.get-in-loop-j.ensures _ c.same_records.ensures in
    search (first_found, e, rules)

pub loop-j-preserved : goal.loop-j-preserved
loop-j-preserved c = let e = key_compared _ _ _ c.requires.comparable _ _ (omega arith) c.requires.k_in_bounds c.get.ensures c.get-in-loop-j.ensures _ c.same_records.ensures in
    search (first-passed, e, rules)

pub returns : goal.returns
returns c = search (first-own, arith)
