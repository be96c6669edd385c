use Rattle.keys.proofs.Hashing.{HashedTo}
use Rattle.keys.specs.Hash.{factors}
use Rattle.keys.proofs.hash_part.Given as goal

abbrev pub invariant-loop-eight : goal.invariant-loop-eight
invariant-loop-eight l = HashedTo (factors l.m) l.fn.start.value l.part l.h.value l.eight-index
