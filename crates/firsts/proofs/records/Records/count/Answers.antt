use native.Mathlib.Omega.{arith}
use Rattle.groups.proofs.Records.{records-of_both}
use Rattle.firsts.proofs.records.Records.count.Goals as goal

pub returns : goal.returns
returns c = omega (arith, records-of_both c.args.self.a.now c.args.self.b.now c.args.self.size c.requires.first c.requires.some)
