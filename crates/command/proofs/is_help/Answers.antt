use Rattle.command.specs.Starts.{help_word}
use Rattle.command.proofs.Starts.{same-is}
use Rattle.command.proofs.is_help.Goals as goal

pub returns : goal.returns
returns c = let s = same-is c.args.word.now help_word in cc
