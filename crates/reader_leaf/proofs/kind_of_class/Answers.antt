use mathlib.Core.Path.{refl}
use Rattle.format.specs.Reading.{class_kind}
use Rattle.reading.specs.Contract.{kind_of_leaf}
use Rattle.reading.specs.declared.LeafKind.TheVariants.{FixedPoint, FloatingPoint, Time, String, BitField, Opaque}
use Rattle.reader_leaf.proofs.Leaves.{kind_at, last_kind}
use Rattle.reader_leaf.proofs.kind_of_class.Goals as goal

pub returns-in-0 : goal.returns-in-0
unfolding class_kind kind_of_leaf
returns-in-0 c = kind_at 0 FixedPoint refl _ c.in-0.is

pub returns-in-1 : goal.returns-in-1
unfolding class_kind kind_of_leaf
returns-in-1 c = kind_at 1 FloatingPoint refl _ c.in-1.is

pub returns-in-2 : goal.returns-in-2
unfolding class_kind kind_of_leaf
returns-in-2 c = kind_at 2 Time refl _ c.in-2.is

pub returns-in-3 : goal.returns-in-3
unfolding class_kind kind_of_leaf
returns-in-3 c = kind_at 3 String refl _ c.in-3.is

pub returns-in-4 : goal.returns-in-4
unfolding class_kind kind_of_leaf
returns-in-4 c = kind_at 4 BitField refl _ c.in-4.is

pub returns-in-5 : goal.returns-in-5
unfolding class_kind kind_of_leaf
returns-in-5 c = kind_at 5 Opaque refl _ c.in-5.is

pub returns-in_default : goal.returns-in_default
returns-in_default c = search (last_kind, c.in_default)
