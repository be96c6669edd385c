use Rattle.format.specs.Utf8.{leads}
use Rattle.names.specs.Pass.{lead_of, Sized}
use Rattle.names.proofs.Stepping.{line, further, behind}
use native.Mathlib.Omega.{arith}
use Rattle.names.proofs.start_of.Goals as goal

pub returns-then-b-le127 : goal.returns-then-b-le127
unfolding leads lead_of Sized
returns-then-b-le127 c = (search (line, further, arith) depth 24, search arith)

pub returns-then-b-le193 : goal.returns-then-b-le193
unfolding leads lead_of Sized
returns-then-b-le193 c = (search (line, further, arith) depth 24, search arith)

pub returns-then-b-le223 : goal.returns-then-b-le223
unfolding leads lead_of Sized
returns-then-b-le223 c = (search (line, further, arith) depth 24, search arith)

pub returns-then-b-le224 : goal.returns-then-b-le224
unfolding leads lead_of Sized
returns-then-b-le224 c = (search (line, further, arith) depth 24, search arith)

pub returns-then-b-le236 : goal.returns-then-b-le236
unfolding leads lead_of Sized
returns-then-b-le236 c = (search (line, further, arith) depth 24, search arith)

pub returns-then-b-le237 : goal.returns-then-b-le237
unfolding leads lead_of Sized
returns-then-b-le237 c = (search (line, further, arith) depth 24, search arith)

pub returns-then-b-le239 : goal.returns-then-b-le239
unfolding leads lead_of Sized
returns-then-b-le239 c = (search (line, further, arith) depth 24, search arith)

pub returns-then-b-le240 : goal.returns-then-b-le240
unfolding leads lead_of Sized
returns-then-b-le240 c = (search (line, further, arith) depth 24, search arith)

pub returns-then-b-le243 : goal.returns-then-b-le243
unfolding leads lead_of Sized
returns-then-b-le243 c = (search (line, further, arith) depth 24, search arith)

pub returns-then-b-le244 : goal.returns-then-b-le244
unfolding leads lead_of Sized
returns-then-b-le244 c = (search (line, further, arith) depth 24, search arith)

pub returns : goal.returns
unfolding leads lead_of Sized
returns c = (search (further, behind, arith) depth 24, search arith)
