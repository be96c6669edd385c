use mathlib.Core.Path.{refl}
use Rattle.table.specs.Survey.{variable_survey_of}
use Rattle.table.proofs.variable_survey.Goals as goal

pub returns : goal.returns
unfolding variable_survey_of
returns c = refl
