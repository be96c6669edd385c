use Rattle.compare.proofs.Comparing.{admitted-typed}
use Rattle.runs.proofs.Listed.{runs_listed}
use Rattle.runs.proofs.list_runs.Goals as goal

pub returns-in_default : goal.returns-in_default
returns-in_default c = absurd (admitted-typed _ _ c.requires c.row_entry.ensures c.in_default.is)

pub returns : goal.returns
returns c = let w = rw (c.outermost.ensures.1, c.outermost.ensures.0) at c.list_type-s.ensures in search runs_listed
