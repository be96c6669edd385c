use Rattle.writer_parts.proofs.Leaves.{rest-fixed, rest_float, rest-time, rest_bits, rest-tag, rest-none}
use Rattle.writer_parts.proofs.put_leaf_rest.Goals as goal

pub returns-in-0 : goal.returns-in-0
returns-in-0 c = search rest-fixed

pub returns-in-1 : goal.returns-in-1
returns-in-1 c = search rest_float

pub returns-in-2 : goal.returns-in-2
returns-in-2 c = search rest-time

pub returns-in-4 : goal.returns-in-4
returns-in-4 c = search rest_bits

pub returns-in-5 : goal.returns-in-5
returns-in-5 c = search rest-tag

pub returns-in_default : goal.returns-in_default
returns-in_default c = search rest-none
