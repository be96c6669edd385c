use mathlib.Core.Path.{refl}
use native.Mathlib.Omega.{arith}
use Rattle.writer_parts.proofs.Placing.{zeros-none, zeros-full, zero-stored, zeros-stored}
use Rattle.writer_parts.proofs.put_zeros.Goals as goal

pub returns-then-n-eq0 : goal.returns-then-n-eq0
returns-then-n-eq0 c = search zeros-none

pub returns-then-saturating_sub-n : goal.returns-then-saturating_sub-n
returns-then-saturating_sub-n c = search zeros-full

pub returns-then-n-eq1 : goal.returns-then-n-eq1
returns-then-n-eq1 c = search zero-stored

pub returns : goal.returns
returns c = zeros-stored _ _ _ _ (c.fill.ensures.after (λ y e. e)) (omega arith) refl
