use mathlib.Core.Path.{refl}
use Rattle.reading.proofs.Contracts.{passed_on}
use Rattle.reading.specs.declared.LeafKind.TheVariants.{FixedPoint, BitField}
use Rattle.reader_leaf.specs.Describing.{Describes, IsBits}
use Rattle.reader_leaf.proofs.Leaves.{in_arm, described_no, described-ends}
use Rattle.reader_leaf.proofs.read_leaf.Goals.{in-FixedPoint, in-FloatingPoint, in-Time, in-String, in-BitField, in-Reference}
use Rattle.reader_leaf.proofs.read_leaf.Goals as goal

pub returns-in_err-properties : goal.returns-in_err-properties
unfolding IsBits
returns-in_err-properties c =
    let e : Describes c.args.data.now c.args.header c.kind_of_class-leaf.result c.match-leaf.branch' = elim c.match-leaf.branch [
      | in-FixedPoint w ↦ in_arm (search) w.branch'-is (w.read_bits.ensures FixedPoint (refl, w.bit.ensures.0))
      | in-FloatingPoint w ↦ in_arm (search) w.branch'-is w.read_floating_point.ensures
      | in-Time w ↦ in_arm (search) w.branch'-is w.read_time.ensures
      | in-String w ↦ in_arm (search) w.branch'-is w.read_string.ensures
      | in-BitField w ↦ in_arm (search) w.branch'-is (w.read_bits-in-BitField.ensures BitField (refl, refl))
      | in-Reference w ↦ in_arm (search) w.branch'-is w.read_reference.ensures
    ] in
    rw (passed_on c.from_residual.result c.from_residual.ensures) (search (described_no, e, c.in_err-properties.was))

pub returns : goal.returns
unfolding IsBits
returns c =
    let e : Describes c.args.data.now c.args.header c.kind_of_class-leaf.result c.match-leaf.branch' = elim c.match-leaf.branch [
      | in-FixedPoint w ↦ in_arm (search) w.branch'-is (w.read_bits.ensures FixedPoint (refl, w.bit.ensures.0))
      | in-FloatingPoint w ↦ in_arm (search) w.branch'-is w.read_floating_point.ensures
      | in-Time w ↦ in_arm (search) w.branch'-is w.read_time.ensures
      | in-String w ↦ in_arm (search) w.branch'-is w.read_string.ensures
      | in-BitField w ↦ in_arm (search) w.branch'-is (w.read_bits-in-BitField.ensures BitField (refl, refl))
      | in-Reference w ↦ in_arm (search) w.branch'-is w.read_reference.ensures
    ] in
    search (described-ends, e, c.in_ok-properties.was)
