use Rattle.abi.proofs.Answers.{yes_or_no_is}
use Rattle.abi.proofs.class_may_hold_object_address.Goals as goal

pub returns : goal.returns
returns c = yes_or_no_is c.class_may_hold_object_address.ensures c.from.ensures
