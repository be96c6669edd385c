use mathlib.Core.Path.{refl, ◌∙◌}
use native.Mathlib.Omega.{arith}
use Rattle.same.proofs.Decimals.{no_digits, some_digits, all_digits, below_digits, above_digits, too_large, next_digit}
use Rattle.same.proofs.numbers.decimal.Goals as goal
use Rattle.same.proofs.numbers.decimal.Goals.{then-b-lt48-via-then-b-lt48, then-b-lt48-via-else-b-lt48+then-b-gt57}

pub returns-then-is_empty : goal.returns-then-is_empty
returns-then-is_empty c = grind (arith, no_digits)

pub loop-b-init : goal.loop-b-init
loop-b-init c = grind (arith, some_digits)

pub returns-then-b-lt48 : goal.returns-then-b-lt48
returns-then-b-lt48 c = elim c.then-b-lt48.branch [
  | then-b-lt48-via-then-b-lt48 w ↦ search below_digits
  | then-b-lt48-via-else-b-lt48+then-b-gt57 w ↦ search above_digits
]

pub returns-in_err-checked_mul : goal.returns-in_err-checked_mul
returns-in_err-checked_mul c =
    c.from_residual.ensures ∙ too_large _ _ _ _ c.loop-b.invariant c.loop-b-test.true refl c.if-b-lt48.false c.if-b-gt57.false (λ q. c.in_err-checked_mul.ensures (omega arith))

pub returns-in_err-value : goal.returns-in_err-value
returns-in_err-value c =
    c.from_residual-in_err-value.ensures ∙ too_large _ _ _ _ c.loop-b.invariant c.loop-b-test.true refl c.if-b-lt48.false c.if-b-gt57.false (λ q. c.in_err-value.ensures (omega (arith, c.in_ok-checked_mul.ensures, c.from.ensures)))

pub loop-b-preserved : goal.loop-b-preserved
loop-b-preserved c =
    next_digit _ _ _ _ c.loop-b.invariant c.loop-b-test.true refl c.if-b-lt48.false c.if-b-gt57.false _ (omega (arith, c.in_ok-value.ensures, c.in_ok-checked_mul.ensures, c.from.ensures)) (omega (arith, c.in_ok-value.ensures))

pub returns : goal.returns
returns c = search all_digits
