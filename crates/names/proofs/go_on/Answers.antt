use Rattle.names.proofs.Stepping.{whole_2, whole_3, whole_4, longer_2, longer_3}
use Rattle.names.proofs.go_on.Goals as goal

pub returns-then-st-eq1-2 : goal.returns-then-st-eq1-2
returns-then-st-eq1-2 c = search whole_2

pub returns-then-st-eq1 : goal.returns-then-st-eq1
returns-then-st-eq1 c = search longer_2

pub returns-then-st-eq1-3 : goal.returns-then-st-eq1-3
returns-then-st-eq1-3 c = search whole_3

pub returns-then-st-eq2 : goal.returns-then-st-eq2
returns-then-st-eq2 c = search longer_3

pub returns : goal.returns
returns c = search whole_4
