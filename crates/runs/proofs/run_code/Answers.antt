use mathlib.Core.Path.{ap, ◌∙◌}
use Prim.Native.Nat.{◌+◌, ◌*◌}
use Rattle.runs.proofs.Storing.{code_is}
use Rattle.runs.proofs.run_code.Goals as goal

pub returns : goal.returns
returns c = ap (λ b. c.args.run.size * 2 + b) c.from.ensures ∙ code_is c.args.run
