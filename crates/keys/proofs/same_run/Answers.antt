use native.Mathlib.Omega.{arith}
use Rattle.keys.proofs.Walking.{run-string-told, run_part_told}
use Rattle.keys.proofs.same_run.Goals as goal

pub returns-then-n-le8 : goal.returns-then-n-le8
returns-then-n-le8 c = run_part_told _ _ _ _ c.same_short.ensures (omega arith) (omega arith)

pub returns-then-code-eq0 : goal.returns-then-code-eq0
returns-then-code-eq0 c = run_part_told _ _ _ _ c.same_bytes.ensures (omega arith) (omega arith)

pub returns : goal.returns
returns c = run-string-told _ _ _ _ c.equal_string.ensures (λ e. omega arith)
