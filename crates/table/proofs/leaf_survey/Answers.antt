use Rattle.table.specs.Survey.{leaf_survey_of}
use Rattle.table.proofs.leaf_survey.Goals as goal

pub returns : goal.returns
unfolding leaf_survey_of
returns c = rw c.then_some.ensures
