use Rattle.std.proofs.lemmas.Result.{err_from_is_err_and}
use borrow.Author.Rules.{rules}
use Rattle.listing.specs.Text.{fields_text}
use Rattle.listing.proofs.Answering.{fields-said, list-bad, list-good}
use Rattle.listing.proofs.list_fields.Goals as goal

pub returns-in_err-ok_or : goal.returns-in_err-ok_or
returns-in_err-ok_or c = let p = err_from_is_err_and c.from_residual.result c.from_residual.ensures.1 in list-bad _ _ _ c.check.ensures c.ok_or.ensures.value c.in_err-ok_or.was p.1 p.2

pub returns : goal.returns
returns c = list-good _ _ _ c.check.ensures c.ok_or.ensures.value c.in_ok-ok_or.was (λ t f. c.list_text.ensures.lists (fields_text t) (λ p q n e. fields-said _ _ t f (search rules)))
