use Rattle.runs.proofs.Storing.{joins-ended-run, joins-ended-field, joins-before, joins_touching}
use Rattle.runs.proofs.joins_run.Goals as goal
use Rattle.runs.proofs.joins_run.Goals.{then-last-via-then-last, then-last-via-else-last+then-field, then-last-via-else-last+else-field+then-field-last}

pub returns-then-last : goal.returns-then-last
returns-then-last c =
    elim c.then-last.branch [
      | then-last-via-then-last w ↦ search joins-ended-run
      | then-last-via-else-last+then-field w ↦ search joins-ended-field
      | then-last-via-else-last+else-field+then-field-last w ↦ search joins-before
    ]

pub returns : goal.returns
returns c = search joins_touching
