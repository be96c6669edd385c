use Rattle.table.proofs.Checking.{check_none, check_ends, survey_fits}
use Rattle.table.proofs.check.Goals as goal

pub returns-in_err-s : goal.returns-in_err-s
returns-in_err-s c = search (check_none, c.in_err-s.was)

pub ends_at-requires : goal.ends_at-requires
ends_at-requires c = survey_fits _ _ _ c.survey_type.ensures c.in_ok-s.was (λ i. (c.type_inv.pool i).fits)

pub returns : goal.returns
returns c = search (check_ends, c.in_ok-s.was)
