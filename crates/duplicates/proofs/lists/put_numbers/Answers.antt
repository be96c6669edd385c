use mathlib.Core.Path.{refl}
use native.Mathlib.Omega.{arith}
use Rattle.groups.proofs.Ways.{number_more}
use Rattle.duplicates.proofs.Answers.{all-numbered}
use Rattle.duplicates.proofs.lists.put_numbers.Goals as goal

pub loop-k-init : goal.loop-k-init
loop-k-init c = refl

pub loop-k-preserved : goal.loop-k-preserved
loop-k-preserved c = number_more _ _ _ _ _ _ c.requires.0.count (omega arith) c.first_at.ensures c.loop-k.invariant

pub returns : goal.returns
returns c = all-numbered _ _ _ _ c.requires.0 c.requires.1 (omega arith) c.loop-k.invariant
