use Rattle.compare.proofs.Ranges.{field_past, leaf-equal, leaf-ended, leaf-not-ended, leaf_apart}
use Rattle.compare.proofs.agree_leaf.Goals as goal
use Rattle.compare.proofs.agree_leaf.Goals.{else-nul_terminated-via-then-nul_terminated+else-has_nul, else-nul_terminated-via-else-nul_terminated}

pub returns-then-a-at : goal.returns-then-a-at
returns-then-a-at c = search field_past

pub returns-then-equal-n : goal.returns-then-equal-n
returns-then-equal-n c = search leaf-equal

pub returns-then-has_nul : goal.returns-then-has_nul
returns-then-has_nul c = search leaf-ended

pub returns : goal.returns
returns c =
    elim c.else-nul_terminated.branch [
      | else-nul_terminated-via-then-nul_terminated+else-has_nul w ↦ search leaf-not-ended
      | else-nul_terminated-via-else-nul_terminated w ↦ search leaf_apart
    ]
