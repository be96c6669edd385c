use Rattle.compare.proofs.Comparing.{wrong_length, wrong-length_b, same-compared}
use Rattle.compare.proofs.same_sized.Goals as goal
use Rattle.compare.proofs.same_sized.Goals.{then-a-size-via-then-a-size, then-a-size-via-else-a-size+then-b-size}

pub returns-then-a-size : goal.returns-then-a-size
returns-then-a-size c =
    elim c.then-a-size.branch [
      | then-a-size-via-then-a-size w ↦ search wrong_length
      | then-a-size-via-else-a-size+then-b-size w ↦ search wrong-length_b
    ]

pub returns : goal.returns
returns c = search same-compared
