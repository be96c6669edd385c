use native.Mathlib.Omega.{arith}
use Rattle.keys.proofs.Hashing.{rest_more}
use Rattle.keys.proofs.hash_rest.Goals as goal

pub returns-then-n-ge4 : goal.returns-then-n-ge4
returns-then-n-ge4 c = rest_more _ _ _ c.word-v.ensures c.short_word-w.ensures c.step.ensures (omega arith) c.requires
