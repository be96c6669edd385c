use mathlib.Core.Path.{◌≡◌, ◌∙◌}
use Rattle.measure.specs.Measure.{most_length, leaf_storable_of, leaf_measure_of}
use Rattle.measure.proofs.Leaves.{same-storable}
use Rattle.measure.proofs.leaf_measure.Goals as goal

pub returns-clause-is : goal.returns-clause-is
unfolding leaf_measure_of most_length
returns-clause-is c = λ t s.
    let e : c.leaf_storable.result ≡ leaf_storable_of t c.args.row c.args.class c.args.size c.args.long = c.leaf_storable.ensures ∙ same-storable s _ _ _ in
    rw (e, c.min.ensures, c.leaf_length.ensures)
