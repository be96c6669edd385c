use borrow.Author.Rules.{rules}
use Rattle.listing.specs.Text.{refusal_text, refusal_listing}
use Rattle.listing.proofs.list_refusal.Goals as goal

pub returns : goal.returns
unfolding refusal_listing
returns c = c.list_text.ensures.lists (refusal_text c.args.refusal) (λ p q n e. search rules)
