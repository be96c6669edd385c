use Rattle.firsts.proofs.KeyLaws.{admits-some}
use Rattle.duplicates.proofs.Calls.{sized-length, sized-room, keys_comparable, places-count, sized-listed}
use mathlib.Core.Path.{refl}
use borrow.Author.Rules.{rules}
use Rattle.duplicates.proofs.sized.Goals as goal

pub nonzero_rem-block : goal.nonzero_rem-block
nonzero_rem-block c = search (admits-some, rules)

pub returns-then-block-size-ne0 : goal.returns-then-block-size-ne0
returns-then-block-size-ne0 c = search sized-length

pub nonzero_div-n : goal.nonzero_div-n
nonzero_div-n c = search (admits-some, rules)

pub returns-then-numbers-n : goal.returns-then-numbers-n
returns-then-numbers-n c = search (sized-room, rules)

pub grouped-requires : goal.grouped-requires
grouped-requires c = record { comparable = keys_comparable _ _ (record { a = c.args.block; b = c.no_bytes.result; size = c.args.size }) c.requires c.no_bytes.ensures (search rules); places = places-count _ _ (record { a = c.args.block; b = c.no_bytes.result; size = c.args.size }) c.requires c.no_bytes.ensures _ _ refl (search rules) }

pub returns : goal.returns
returns c = sized-listed _ _ (record { a = c.args.block; b = c.no_bytes.result; size = c.args.size }) c.requires c.no_bytes.ensures _ _ (search rules) _ refl (search rules) (search rules) _ _ _ c.grouped.ensures
