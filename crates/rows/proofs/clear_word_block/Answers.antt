use Rattle.std.proofs.Common.{◌≡◌, rules}
use Rattle.std.specs.Prelude.{bit_or}
use Rattle.std.specs.List.{fold}
use Rattle.rows.proofs.Zeros.{clear_fold}
use Rattle.rows.proofs.clear_word_block.Goals as goal

pub returns : goal.returns
returns c =
    let e : c.fold.result ≡ fold bit_or 0 c.args.words.now = search rules in
    rw e (clear_fold c.args.words.now 0)
