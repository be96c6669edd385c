use Rattle.firsts.proofs.Chaining.{zeroed, none-placed, all_placed}
use Rattle.firsts.proofs.chains.Chains.chain_all.Goals as goal

pub build-requires : goal.build-requires
build-requires c = none-placed _ _ c.requires (zeroed _ _ _ c.requires.room (c.fill.ensures.after (λ y e. e)))

pub returns : goal.returns
returns c = all_placed _ _ c.requires (zeroed _ _ _ c.requires.room (c.fill.ensures.after (λ y e. e))) c.build.ensures
