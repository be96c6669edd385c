-- Types to ask about, and where the bounds of Storable lie, by computation: the last type that can be stored and the first that cannot.
use Prim.Native.Nat.{ℕ}
use mathlib.Core.Path.{◌≡◌, refl}
use mathlib.Core.Bool.{Bool, true, not, ◌&&◌}
use mathlib.Core.List.{List, [], ◌∷◌, ◌++◌}
use lib.ListN.{replicate}
use Rattle.format.specs.Datatype.{float_layout, fixed_point, floating_point, time, string, bit_field, opaque, reference, Datatype, leaf, compound, enumeration, variable_length, array, no_members, member}
use Rattle.format.specs.Message.{storable}
use Rattle.format.proofs.Cases.{computing}

-- ---- types to ask about

-- a fixed type of so many bytes
abbrev pub fixed : ℕ → Datatype
fixed n = leaf n (fixed_point 0 0 0 8)

-- the name é, one with a NUL, and one that breaks off
abbrev pub valid : List ℕ
valid = 0xc3 ∷ 0xa9 ∷ []

abbrev pub with_nul : List ℕ
with_nul = 0x61 ∷ 0 ∷ []

abbrev pub ill_formed : List ℕ
ill_formed = 0xc3 ∷ []

-- a compound of one member
abbrev pub only : (size : ℕ) (name : List ℕ) (offset : ℕ) → Datatype → Datatype
only n b o t = compound n (member b o t no_members)

-- an enumeration of one member
abbrev pub only_value : (base : Datatype) (name value : List ℕ) → Datatype
only_value t b v = enumeration 1 t (record { name = b; value = v } ∷ [])

-- one of each class whose row has a size; a float's bound is another
unfoldable pub of_size_of : ℕ → List Datatype
of_size_of n =
    fixed n
    ∷ leaf n (time 0 8)
    ∷ leaf n (string 0 0)
    ∷ leaf n (bit_field 0 0 8)
    ∷ leaf n (opaque [])
    ∷ compound n no_members
    ∷ leaf n (reference 0)
    ∷ enumeration n (fixed 1) []
    ∷ []

-- ---- Storable

-- types at a bound, and types past it
pub record Bound : Type 0 where
  pub can : List Datatype
  pub cannot : List Datatype

unfoldable pub all_storable : List Datatype → Bool
all_storable [] = true
all_storable (t ∷ ts) = storable t && all_storable ts

unfoldable pub none_storable : List Datatype → Bool
none_storable [] = true
none_storable (t ∷ ts) = not (storable t) && none_storable ts

unfoldable pub at_bounds : List Bound → Bool
at_bounds [] = true
at_bounds (x ∷ xs) = (all_storable x.can && none_storable x.cannot) && at_bounds xs

-- "no type of size 0", and what 4 bytes hold
unfoldable pub size_bound : Bound
size_bound = record { can = of_size_of 1 ++ of_size_of 4294967295; cannot = of_size_of 0 ++ of_size_of 4294967296 }

-- "float size at most 536,870,911"
unfoldable pub float_size_bound : Bound
float_size_bound =
    record {
      can = leaf 1 (floating_point 0 (float_layout [])) ∷ leaf 536870911 (floating_point 0 (float_layout [])) ∷ [];
      cannot = leaf 0 (floating_point 0 (float_layout [])) ∷ leaf 536870912 (floating_point 0 (float_layout [])) ∷ [];
    }

-- "names valid UTF-8 without NUL"; a name may be empty
unfoldable pub name_bound : Bound
name_bound =
    record {
      can = only 1 valid 0 (fixed 1) ∷ only 1 [] 0 (fixed 1) ∷ only_value (fixed 1) valid (0 ∷ []) ∷ only_value (fixed 1) [] (0 ∷ []) ∷ [];
      cannot = only 1 with_nul 0 (fixed 1) ∷ only 1 ill_formed 0 (fixed 1) ∷ only_value (fixed 1) with_nul (0 ∷ []) ∷ only_value (fixed 1) ill_formed (0 ∷ []) ∷ [];
    }

-- "each offset at most 255, 65,535 or 4,294,967,295 by the width above"
unfoldable pub offset_bound : Bound
offset_bound =
    record {
      can =
          only 255 valid 255 (fixed 1)
          ∷ only 256 valid 65535 (fixed 1)
          ∷ only 65535 valid 65535 (fixed 1)
          ∷ only 65536 valid 4294967295 (fixed 1)
          ∷ [];
      cannot =
          only 255 valid 256 (fixed 1)
          ∷ only 256 valid 65536 (fixed 1)
          ∷ only 65535 valid 65536 (fixed 1)
          ∷ only 65536 valid 4294967296 (fixed 1)
          ∷ [];
    }

-- "VAX only in floats", and the other codes
unfoldable pub code_bound : Bound
code_bound =
    record {
      can =
          leaf 4 (floating_point 2 (float_layout []))
          ∷ leaf 4 (fixed_point 1 1 0 0)
          ∷ leaf 4 (time 1 0)
          ∷ leaf 4 (bit_field 1 0 0)
          ∷ leaf 4 (string 2 1)
          ∷ leaf 4 (reference 1)
          ∷ [];
      cannot =
          leaf 4 (floating_point 3 (float_layout []))
          ∷ leaf 4 (fixed_point 2 0 0 0)
          ∷ leaf 4 (fixed_point 0 2 0 0)
          ∷ leaf 4 (time 2 0)
          ∷ leaf 4 (bit_field 2 0 0)
          ∷ leaf 4 (string 3 0)
          ∷ leaf 4 (string 0 2)
          ∷ leaf 4 (reference 2)
          ∷ [];
    }

-- "padding and charset of a variable-length type present exactly if it is a string"
unfoldable pub variable_bound : Bound
variable_bound =
    record {
      can = variable_length 0 0 0 (fixed 1) ∷ variable_length 1 1 1 (fixed 1) ∷ variable_length 1 3 2 (fixed 1) ∷ [];
      cannot =
          variable_length 0 1 0 (fixed 1)
          ∷ variable_length 0 0 1 (fixed 1)
          ∷ variable_length 0 1 1 (fixed 1)
          ∷ variable_length 1 0 0 (fixed 1)
          ∷ variable_length 1 1 0 (fixed 1)
          ∷ variable_length 1 0 1 (fixed 1)
          ∷ variable_length 1 4 1 (fixed 1)
          ∷ variable_length 1 1 3 (fixed 1)
          ∷ [];
    }

-- "tag and rank at most 255"
unfoldable pub byte_bound : Bound
byte_bound =
    record {
      can = leaf 1 (opaque (replicate 255 7)) ∷ array (replicate 255 1) (fixed 1) ∷ [];
      cannot = leaf 1 (opaque (replicate 256 7)) ∷ array (replicate 256 1) (fixed 1) ∷ [];
    }

-- "every other number no greater than its bits there can hold, a fixed type's offset and precision included"
unfoldable pub number_bound : Bound
number_bound =
    record {
      can =
          leaf 1 (fixed_point 0 0 65535 65535)
          ∷ leaf 1 (bit_field 0 65535 65535)
          ∷ leaf 1 (time 0 65535)
          ∷ leaf 1 (floating_point 0 (float_layout (65535 ∷ 65535 ∷ 255 ∷ 255 ∷ 255 ∷ 255 ∷ 4294967295 ∷ [])))
          ∷ array (4294967295 ∷ []) (fixed 1)
          ∷ [];
      cannot =
          leaf 1 (fixed_point 0 0 65536 0)
          ∷ leaf 1 (fixed_point 0 0 0 65536)
          ∷ leaf 1 (bit_field 0 65536 0)
          ∷ leaf 1 (bit_field 0 0 65536)
          ∷ leaf 1 (time 0 65536)
          ∷ leaf 1 (floating_point 0 (float_layout (65536 ∷ [])))
          ∷ leaf 1 (floating_point 0 (float_layout (0 ∷ 65536 ∷ [])))
          ∷ leaf 1 (floating_point 0 (float_layout (0 ∷ 0 ∷ 256 ∷ [])))
          ∷ leaf 1 (floating_point 0 (float_layout (0 ∷ 0 ∷ 0 ∷ 256 ∷ [])))
          ∷ leaf 1 (floating_point 0 (float_layout (0 ∷ 0 ∷ 0 ∷ 0 ∷ 256 ∷ [])))
          ∷ leaf 1 (floating_point 0 (float_layout (0 ∷ 0 ∷ 0 ∷ 0 ∷ 0 ∷ 256 ∷ [])))
          ∷ leaf 1 (floating_point 0 (float_layout (0 ∷ 0 ∷ 0 ∷ 0 ∷ 0 ∷ 0 ∷ 4294967296 ∷ [])))
          ∷ array (4294967296 ∷ []) (fixed 1)
          ∷ [];
    }

-- "enumeration values as long as the base", not as the enumeration, whose size is 1 here
unfoldable pub value_bound : Bound
value_bound =
    record {
      can = only_value (fixed 2) valid (0 ∷ 0 ∷ []) ∷ [];
      cannot = only_value (fixed 2) valid (0 ∷ []) ∷ only_value (fixed 2) valid (0 ∷ 0 ∷ 0 ∷ []) ∷ [];
    }

-- an array's size is 0 by a dimension of 0; its true size has no bound
unfoldable pub array_bound : Bound
array_bound =
    record {
      can = array [] (fixed 1) ∷ array (65536 ∷ 65536 ∷ []) (fixed 1) ∷ array (4294967295 ∷ 4294967295 ∷ []) (fixed 4294967295) ∷ [];
      cannot = array (0 ∷ []) (fixed 1) ∷ array (2 ∷ 0 ∷ []) (fixed 1) ∷ array (65536 ∷ 65536 ∷ 0 ∷ []) (fixed 1) ∷ [];
    }

-- a type inside counts, whatever holds it
unfoldable pub inside_bound : Bound
inside_bound =
    record {
      can = [];
      cannot =
          only 1 valid 0 (fixed 0)
          ∷ compound 1 (member valid 0 (fixed 1) (member valid 0 (fixed 0) no_members))
          ∷ enumeration 1 (fixed 0) []
          ∷ variable_length 0 0 0 (fixed 0)
          ∷ array [] (fixed 0)
          ∷ [];
    }

unfoldable pub storable_bounds : List Bound
storable_bounds =
    size_bound
    ∷ float_size_bound
    ∷ name_bound
    ∷ offset_bound
    ∷ code_bound
    ∷ variable_bound
    ∷ byte_bound
    ∷ number_bound
    ∷ value_bound
    ∷ array_bound
    ∷ inside_bound
    ∷ []

pub storable_bounds_lem : at_bounds storable_bounds ≡ true
unfolding at_bounds all_storable none_storable storable_bounds size_bound float_size_bound name_bound offset_bound code_bound variable_bound byte_bound number_bound value_bound array_bound inside_bound of_size_of computing
storable_bounds_lem = refl
