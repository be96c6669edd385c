use Rattle.std.proofs.Common.{subst, List, ℕ}
use Rattle.std.specs.Fmt.{HasWritten}
use Rattle.refusal.proofs.Text.{text-none, text_one, text-two}
use Rattle.refusal.proofs.RefusalDisplay.fmt.Goals as goal

pub returns-in-Some-Some-clause-writes : goal.returns-in-Some-Some-clause-writes
returns-in-Some-Some-clause-writes g c = λ p k.
    subst (λ (s : List ℕ). HasWritten g.W.Write.write_str_gives c.args.f.now s c.write.new.self) (text-two c.args.self.now c.number-number.result c.values-values.result c.number-number.ensures c.values-values.ensures c.in-Some-Some.is-0 c.in-Some-Some.is-1) (c.write.ensures.writes p k)

pub returns-in-Some-None-clause-writes : goal.returns-in-Some-None-clause-writes
returns-in-Some-None-clause-writes g c = λ p k.
    subst (λ (s : List ℕ). HasWritten g.W.Write.write_str_gives c.args.f.now s c.write-in-Some-None.new.self) (text_one c.args.self.now c.number-number.result c.values-values.result c.number-number.ensures c.values-values.ensures c.in-Some-None.is-0 c.in-Some-None.is-1) (c.write-in-Some-None.ensures.writes p k)

pub returns-in-None-default-clause-writes : goal.returns-in-None-default-clause-writes
returns-in-None-default-clause-writes g c = λ p k.
    subst (λ (s : List ℕ). HasWritten g.W.Write.write_str_gives c.args.f.now s c.write-in-None-default.new.self) (text-none c.args.self.now c.number-number.result c.values-values.result c.number-number.ensures c.values-values.ensures c.in-None-default.is-0) (c.write-in-None-default.ensures.writes p k)
