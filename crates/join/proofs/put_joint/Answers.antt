use Rattle.join.proofs.Calls.{bytes_fit, joint-room, joint-refused, joint-joined}
use borrow.Author.Rules.{rules}
use Rattle.join.proofs.put_joint.Goals as goal

pub overflow_mul-bytes : goal.overflow_mul-bytes
overflow_mul-bytes c = search bytes_fit

pub returns-then-out-bytes : goal.returns-then-out-bytes
returns-then-out-bytes c = search joint-refused

pub put_records-requires : goal.put_records-requires
put_records-requires c = (search rules, search joint-room)

pub returns : goal.returns
returns c = search joint-joined
