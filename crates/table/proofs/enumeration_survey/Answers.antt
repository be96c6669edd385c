use Rattle.table.specs.Survey.{enumeration_survey_of}
use Rattle.table.proofs.enumeration_survey.Goals as goal

pub returns : goal.returns
unfolding enumeration_survey_of
returns c = rw (c.or.ensures, c.then_some.ensures)
