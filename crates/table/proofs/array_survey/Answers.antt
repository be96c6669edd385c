use Rattle.table.specs.Survey.{array_survey_of}
use Rattle.table.proofs.array_survey.Goals as goal

pub returns : goal.returns
unfolding array_survey_of
returns c = rw (c.or.ensures, c.then_some.ensures, c.capped-size.ensures, c.scaled-total.ensures)
