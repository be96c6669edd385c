-- The properties of a type with no type inside and no pool bytes.
use Rattle.std.specs.Prelude.{◌≡◌, List, [], ℕ, ◌+◌, ◌≤◌, length, drop, Result, Ok, Err}
use Rattle.refusal.specs.declared.Refusal.{Refusal}
use Rattle.refusal.specs.declared.Refusal.TheVariants.{TooDeep}
use Rattle.format.specs.declared.Header.{Header}
use Rattle.format.specs.Bits.{bit_at}
use Rattle.format.specs.Datatype.{Datatype, type_size_of, row_count, pool_bytes}
use Rattle.format.specs.Reading.{got, refused, refuse, read_properties}
use Rattle.format.specs.Table.{rows}
use Rattle.reading.specs.declared.LeafKind.{LeafKind}
use Rattle.reading.specs.declared.LeafKind.TheVariants.{FixedPoint, FloatingPoint, Time, String, BitField, Opaque, Reference}
use Rattle.reading.specs.Contract.{kind_of_leaf}
use Rattle.reader_leaf.specs.declared.Properties.{Properties}

-- the type that they give, its one row, and where they end
pub record Described (d : List ℕ) (h : Header) (k : LeafKind) (x : Properties) : Type 0 where
  pub tree : Datatype
  pub is : (n p : ℕ) → read_properties (refuse TooDeep) h (kind_of_leaf k) (length d) 8 (drop 8 d) n p ≡ got tree x.end (drop x.end d) n p
  pub words_are : (place : ℕ) → rows place tree ≡ x.words
  pub size : type_size_of tree ≡ h.size
  pub count : row_count tree ≡ 1
  pub bytes-are : pool_bytes tree ≡ []
  pub near : x.end ≤ length d + 7

-- by what is returned
pub record Describes (d : List ℕ) (h : Header) (k : LeafKind) (r : Result Properties Refusal) : Type 0 where
  pub done : (x : Properties) → r ≡ Ok x → Described d h k x
  pub denied : (e : Refusal) → r ≡ Err e → (n p : ℕ) → read_properties (refuse TooDeep) h (kind_of_leaf k) (length d) 8 (drop 8 d) n p ≡ refused e

-- the kinds whose properties are an order, an offset and a precision, with a kind's word and a sign
unfoldable pub IsBits : LeafKind → Header → (kind signed : ℕ) → Type 0
IsBits FixedPoint h kind signed = (kind ≡ 1) × (signed ≡ bit_at 3 h.f0)
IsBits FloatingPoint h kind signed = ⊥
IsBits Time h kind signed = ⊥
IsBits String h kind signed = ⊥
IsBits BitField h kind signed = (kind ≡ 5) × (signed ≡ 0)
IsBits Opaque h kind signed = ⊥
IsBits Reference h kind signed = ⊥
