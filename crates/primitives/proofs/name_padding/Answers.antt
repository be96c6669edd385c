use mathlib.Core.Path.{◌∙◌}
use native.Mathlib.Omega.{arith}
use borrow.Author.Tests.{lt-ltb, le-ltb}
use Rattle.format.specs.Message.{name_padding_of}
use Rattle.primitives.proofs.name_padding.Goals as goal

pub returns-in-0-to-2 : goal.returns-in-0-to-2
unfolding name_padding_of
returns-in-0-to-2 c = (c.padding_to_8.ensures.0 ∙ rw (lt-ltb c.args.version 3 (omega arith)), c.padding_to_8.ensures.1)

pub returns-in_default : goal.returns-in_default
unfolding name_padding_of
returns-in_default c = (rw (le-ltb c.args.version 3 (omega arith)), omega arith)
