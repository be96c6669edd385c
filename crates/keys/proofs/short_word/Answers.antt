use mathlib.Core.Path.{refl, sym}
use native.Mathlib.Omega.{arith}
use Rattle.keys.proofs.Words.{word_none, word-one, word_two, word-three, whole}
use Rattle.keys.proofs.short_word.Goals as goal

pub returns-then-n-eq0 : goal.returns-then-n-eq0
returns-then-n-eq0 c = whole c.args.part.now c.type_inv.part 0 0 0 (sym c.if-n-eq0.true) (word_none c.args.part.now c.type_inv.part 0 0 refl)

pub returns-then-n-eq1 : goal.returns-then-n-eq1
returns-then-n-eq1 c = whole c.args.part.now c.type_inv.part 0 1 _ (sym c.if-n-eq1.true) (word-one c.args.part.now c.type_inv.part 0 1 _ refl (omega arith) c.from.ensures)

pub returns-then-n-eq2 : goal.returns-then-n-eq2
returns-then-n-eq2 c = whole c.args.part.now c.type_inv.part 0 2 _ (sym c.if-n-eq2.true) (word_two c.args.part.now c.type_inv.part 0 2 _ refl (omega arith) (omega (arith, c.from-then-n-eq2.ensures, c.from_le_bytes.ensures)))

pub returns : goal.returns
returns c = whole c.args.part.now c.type_inv.part 0 3 _ (omega arith) (word-three c.args.part.now c.type_inv.part 0 3 _ refl (omega arith) (omega (arith, c.from_le_bytes-2.ensures)))
