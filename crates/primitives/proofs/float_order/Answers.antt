use mathlib.Core.Path.{sym, ◌∙◌}
use native.Mathlib.Omega.{arith}
use Rattle.primitives.proofs.Laws.{float_order_vax, float_order_bit}
use Rattle.primitives.proofs.float_order.Goals as goal

pub returns-then-bit-eq1 : goal.returns-then-bit-eq1
returns-then-bit-eq1 c = (float_order_vax c.args.f0 (sym c.bit.ensures.0 ∙ c.if-bit-eq1.true), omega arith)

pub returns-else-bit-eq1 : goal.returns-else-bit-eq1
returns-else-bit-eq1 c = (c.bit-else-bit-eq1.ensures.0 ∙ float_order_bit c.args.f0 (λ e. c.if-bit-eq1.false (c.bit.ensures.0 ∙ e)), omega arith)
