use Prim.Native.Nat.{◌+◌, ◌-◌, ◌*◌}
use mathlib.Core.Path.{◌≡◌}
use Rattle.format.specs.Table.{type_at, members_at}
use Rattle.table.specs.Survey.{survey_in}
use Rattle.table.proofs.Surveys.{gathered}
use Rattle.table.proofs.+survey.Given as goal

abbrev pub decreases-survey_inner : goal.decreases-survey_inner
decreases-survey_inner l = l.levels * 3 + 1

abbrev pub decreases-survey_members : goal.decreases-survey_members
decreases-survey_members l = l.levels * 3 + 2

abbrev pub decreases-survey_type : goal.decreases-survey_type
decreases-survey_type l = l.levels * 3

abbrev pub invariant-survey_members-loop : goal.invariant-survey_members-loop
invariant-survey_members-loop l = survey_in l.size (members_at (type_at l.levels l.table l.pool) l.table l.pool l.count l.row l.place) ≡ gathered l.size l.zero l.outside l.heap l.object l.file (members_at (type_at l.levels l.table l.pool) l.table l.pool (l.count - l.counter) l.r l.p)
