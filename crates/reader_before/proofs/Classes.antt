-- Which kind of type a class number stands for, and what the kinds of leaf have in common.
use mathlib.Core.Path.{◌≡◌, refl}
use Prim.Native.Nat.{ℕ, zero, suc, ◌≤◌}
use native.Mathlib.Omega.{arith}
use Rattle.format.specs.declared.Header.{Header}
use Rattle.format.specs.Datatype.{Datatype}
use Rattle.format.specs.Reading.{Reader, class_kind, layout_version, read_properties}
use Rattle.format.specs.Table.{Kind, isCompound, isEnumeration, isVariableLength, isArray, isUnknown}
use Rattle.reading.specs.declared.LeafKind.{LeafKind}
use Rattle.reading.specs.declared.LeafKind.TheVariants.{FixedPoint, FloatingPoint, Time, String, BitField, Opaque, Reference}
use Rattle.reading.specs.Contract.{kind_of_leaf}

unfoldable pub class_of : LeafKind → ℕ
class_of FixedPoint = 0
class_of FloatingPoint = 1
class_of Time = 2
class_of String = 3
class_of BitField = 4
class_of Opaque = 5
class_of Reference = 7

pub kind-leaf : (k : LeafKind) (c : ℕ) → c ≡ class_of k → class_kind c ≡ kind_of_leaf k
unfolding class_of kind_of_leaf class_kind
kind-leaf FixedPoint c e = rw e
kind-leaf FloatingPoint c e = rw e
kind-leaf Time c e = rw e
kind-leaf String c e = rw e
kind-leaf BitField c e = rw e
kind-leaf Opaque c e = rw e
kind-leaf Reference c e = rw e

pub unknown_high : (c : ℕ) → 12 ≤ c → class_kind c ≡ isUnknown
unfolding class_kind
unknown_high zero h = absurd (omega arith)
unknown_high (suc zero) h = absurd (omega arith)
unknown_high (suc (suc zero)) h = absurd (omega arith)
unknown_high (suc (suc (suc zero))) h = absurd (omega arith)
unknown_high (suc (suc (suc (suc zero)))) h = absurd (omega arith)
unknown_high (suc (suc (suc (suc (suc zero))))) h = absurd (omega arith)
unknown_high (suc (suc (suc (suc (suc (suc zero)))))) h = absurd (omega arith)
unknown_high (suc (suc (suc (suc (suc (suc (suc zero))))))) h = absurd (omega arith)
unknown_high (suc (suc (suc (suc (suc (suc (suc (suc zero)))))))) h = absurd (omega arith)
unknown_high (suc (suc (suc (suc (suc (suc (suc (suc (suc zero))))))))) h = absurd (omega arith)
unknown_high (suc (suc (suc (suc (suc (suc (suc (suc (suc (suc zero)))))))))) h = absurd (omega arith)
unknown_high (suc (suc (suc (suc (suc (suc (suc (suc (suc (suc (suc zero))))))))))) h = absurd (omega arith)
unknown_high (suc (suc (suc (suc (suc (suc (suc (suc (suc (suc (suc (suc c)))))))))))) h = refl

module _ (c : ℕ) where
  pub kind-compound : c ≡ 6 → class_kind c ≡ isCompound
  unfolding class_kind
  kind-compound e = rw e

  pub kind_packed : c ≡ 11 → class_kind c ≡ isCompound
  unfolding class_kind
  kind_packed e = rw e

  pub kind-enumeration : c ≡ 8 → class_kind c ≡ isEnumeration
  unfolding class_kind
  kind-enumeration e = rw e

  pub kind_variable : c ≡ 9 → class_kind c ≡ isVariableLength
  unfolding class_kind
  kind_variable e = rw e

  pub kind-array : c ≡ 10 → class_kind c ≡ isArray
  unfolding class_kind
  kind-array e = rw e

module _ (h : Header) where
  pub own_layout : h.class ≡ 6 → layout_version h ≡ h.version
  unfolding layout_version
  own_layout e = rw e

  pub packed_layout : h.class ≡ 11 → layout_version h ≡ 3
  unfolding layout_version
  packed_layout e = rw e

-- the reader of the types inside a leaf is never asked
pub leaf-same : (rd rd' : Reader Datatype) (h : Header) (c : Kind) (k : LeafKind) → c ≡ kind_of_leaf k → read_properties rd h c ≡ read_properties rd' h c
unfolding kind_of_leaf read_properties
leaf-same rd rd' h c FixedPoint e = rw e
leaf-same rd rd' h c FloatingPoint e = rw e
leaf-same rd rd' h c Time e = rw e
leaf-same rd rd' h c String e = rw e
leaf-same rd rd' h c BitField e = rw e
leaf-same rd rd' h c Opaque e = rw e
leaf-same rd rd' h c Reference e = rw e
