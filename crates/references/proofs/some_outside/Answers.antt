use Rattle.std.proofs.Common.{◌-◌, ◌||◌, ltb, rules, tests, ◌∙◌}
use Rattle.std.proofs.lemmas.Iterator.{YieldsList-from_slice}
use Rattle.std.proofs.lemmas.Iterator.Search.{any_from_yields_List}
use Rattle.references.proofs.Laws.{outside-any}
use Rattle.references.proofs.some_outside.Goals as goal

pub returns : goal.returns
returns c =
    any_from_yields_List (λ v. ltb c.args.size 8 || ltb (c.args.size - 8) v) _ _ _ c.any.ensures.ran (YieldsList-from_slice c.args.slots.now c.iter.ensures.rest) (λ x b q k. search (rules, tests))
    ∙ outside-any c.args.size c.args.slots.now
