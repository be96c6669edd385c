-- `type_size`, `element_size` and the three address predicates.
use Rattle.std.specs.Prelude.{ℕ, Bool, true, false, ◌&&◌, ◌||◌, List, leb, ltb}
use Rattle.refusal.specs.declared.Refusal.TheVariants.{ZeroSize}
use Rattle.format.specs.Bits.{low_bits}
use Rattle.format.specs.Datatype.{refers, Datatype, leaf, compound, enumeration, variable_length, array, Members, no_members, member, type_size_of, class_number}
use Rattle.format.specs.Outcome.{Outcome, gives, when_given, unless}
use Rattle.format.specs.Table.{type_of}

-- the size of the type that a table and pool set out
unfoldable pub sizing : (table pool : List ℕ) → Outcome ℕ
sizing table pool = when_given (type_of table pool) λ t. gives (type_size_of t)

-- the same, not 0: "for element size, the outermost only"
unfoldable pub element_sizing : (table pool : List ℕ) → Outcome ℕ
element_sizing table pool = when_given (type_of table pool) λ t. unless (ltb 0 (type_size_of t)) (ZeroSize (class_number t)) (gives (type_size_of t))

-- classes 6 to 10: "`class_may_hold_object_address` also naming class 11: the Rust doesn't. Keep"
unfoldable pub class_may_hold_object_address_of : (byte : ℕ) → Bool
class_may_hold_object_address_of b = leb 6 (low_bits 4 b) && leb (low_bits 4 b) 10

unfoldable mutual
  -- a reference, at any level
  pub holds_object_address : Datatype → Bool
  holds_object_address (leaf n x) = refers (λ k. true) x
  holds_object_address (compound n ms) = member_holds_object_address ms
  holds_object_address (enumeration n t ms) = holds_object_address t
  holds_object_address (variable_length i a c t) = holds_object_address t
  holds_object_address (array ds t) = holds_object_address t

  pub member_holds_object_address : Members → Bool
  member_holds_object_address no_members = false
  member_holds_object_address (member b o t ms) = holds_object_address t || member_holds_object_address ms

unfoldable mutual
  -- a reference or a variable-length type, at any level
  pub holds_file_address : Datatype → Bool
  holds_file_address (leaf n x) = refers (λ k. true) x
  holds_file_address (compound n ms) = member_holds_file_address ms
  holds_file_address (enumeration n t ms) = holds_file_address t
  holds_file_address (variable_length i a c t) = true
  holds_file_address (array ds t) = holds_file_address t

  pub member_holds_file_address : Members → Bool
  member_holds_file_address no_members = false
  member_holds_file_address (member b o t ms) = holds_file_address t || member_holds_file_address ms

-- the two predicates of the type that a table and pool set out
unfoldable pub object_address_held : (table pool : List ℕ) → Outcome Bool
object_address_held table pool = when_given (type_of table pool) λ t. gives (holds_object_address t)

unfoldable pub file_address_held : (table pool : List ℕ) → Outcome Bool
file_address_held table pool = when_given (type_of table pool) λ t. gives (holds_file_address t)
