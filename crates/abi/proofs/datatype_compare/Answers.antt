use Rattle.std.specs.Prelude.{List, ℕ, get_or}
use Rattle.std.proofs.Common.{ap, ◌∙◌}
use Rattle.abi.proofs.Answers.{tells}
use Rattle.abi.proofs.datatype_compare.Goals as goal

pub returns : goal.returns
returns c =
    let e = c.comparison.ensures in
    record { told = tells c.same.ensures (c.tell.ensures.number ∙ e.number) (c.tell.ensures.first ∙ ap (λ (l : List ℕ). get_or l 0 0) e.values) (c.tell.ensures.second ∙ ap (λ (l : List ℕ). get_or l 1 0) e.values) }
