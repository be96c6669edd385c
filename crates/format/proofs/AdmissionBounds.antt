-- What is admitted to comparison, by computation: refusals 12, 16 and 17, in this order.
use Prim.Native.Nat.{ℕ}
use mathlib.Core.Path.{◌≡◌, refl}
use mathlib.Core.List.{List, [], ◌∷◌}
use lib.ListN.{length, replicate}
use Rattle.format.specs.Datatype.{float_layout, fixed_point, floating_point, time, string, bit_field, opaque, reference, Datatype, leaf, compound, enumeration, variable_length, array, no_members, member}
use Rattle.format.specs.Outcome.{gives}
use Rattle.format.specs.Ownership.{admitting}
use Rattle.format.proofs.Cases.{computing, answer}
use Rattle.format.proofs.Bounds.{fixed, valid, with_nul, only, only_value}

-- types that are answered alike: 0 if admitted, else the refusal's number and values
pub record Admission : Type 0 where
  pub types : List Datatype
  pub says : List ℕ

unfoldable pub each_admitted : List Datatype → List (List ℕ)
each_admitted [] = []
each_admitted (t ∷ ts) = answer (admitting t (gives [])) ∷ each_admitted ts

unfoldable pub admission_answers : List Admission → List (List (List ℕ))
admission_answers [] = []
admission_answers (x ∷ xs) = each_admitted x.types ∷ admission_answers xs

unfoldable pub admission_says : List Admission → List (List (List ℕ))
admission_says [] = []
admission_says (x ∷ xs) = replicate (length x.types) x.says ∷ admission_says xs

-- a member that ends at its compound's end, overlaps, the greatest size, object references, and what only Storable rules out
unfoldable pub admitted : List Datatype
admitted =
    only 4 valid 3 (fixed 1)
    ∷ only 4 valid 0 (fixed 4)
    ∷ compound 4 (member valid 0 (fixed 4) (member valid 1 (fixed 3) no_members))
    ∷ compound 4 no_members
    ∷ array [] (fixed 1)
    ∷ array (4294967295 ∷ []) (fixed 1)
    ∷ array (3 ∷ 1431655765 ∷ []) (fixed 1)
    ∷ only 4294967295 valid 4294967294 (fixed 1)
    ∷ leaf 8 (reference 0)
    ∷ enumeration 8 (leaf 8 (reference 0)) []
    ∷ only_value (fixed 2) with_nul (0 ∷ [])
    ∷ leaf 4 (fixed_point 2 0 65536 65536)
    ∷ leaf 536870912 (floating_point 2 (float_layout []))
    ∷ []

-- one past these bounds, also inside another type
unfoldable pub outside_record : List Datatype
outside_record =
    only 4 valid 4 (fixed 1)
    ∷ only 4 valid 1 (fixed 4)
    ∷ compound 4 (member valid 0 (fixed 4) (member valid 1 (fixed 4) no_members))
    ∷ only 8 valid 0 (only 4 valid 4 (fixed 1))
    ∷ array [] (only 4 valid 4 (fixed 1))
    ∷ enumeration 4 (only 4 valid 4 (fixed 1)) []
    ∷ variable_length 0 0 0 (only 4 valid 4 (fixed 1))
    ∷ array (65536 ∷ 65536 ∷ []) (fixed 1)
    ∷ array (2 ∷ []) (fixed 2147483648)
    ∷ only 4294967295 valid 4294967295 (fixed 1)
    ∷ []

-- also below an enumeration
unfoldable pub held_in_heap : List Datatype
held_in_heap =
    leaf 8 (reference 1)
    ∷ variable_length 0 0 0 (fixed 1)
    ∷ variable_length 1 1 1 (fixed 1)
    ∷ enumeration 8 (leaf 8 (reference 1)) []
    ∷ enumeration 8 (variable_length 0 0 0 (fixed 1)) []
    ∷ compound 24 (member valid 0 (fixed 8) (member valid 8 (variable_length 0 0 0 (fixed 1)) no_members))
    ∷ array (2 ∷ []) (leaf 8 (reference 1))
    ∷ []

unfoldable pub admissions : List Admission
admissions =
    record { types = admitted; says = 0 ∷ [] }
    ∷ record { types = outside_record; says = 16 ∷ [] }
    ∷ record { types = held_in_heap; says = 17 ∷ [] }
    ∷ record {
      types =
          fixed 0
          ∷ only 4 valid 4 (fixed 0)
          ∷ enumeration 4 (fixed 0) []
          ∷ variable_length 0 0 0 (fixed 0)
          ∷ compound 4 (member valid 4 (fixed 1) (member valid 0 (fixed 0) no_members))
          ∷ [];
      says = 12 ∷ 0 ∷ [];
    }
    ∷ record { types = leaf 0 (floating_point 0 (float_layout [])) ∷ []; says = 12 ∷ 1 ∷ [] }
    ∷ record { types = leaf 0 (time 0 0) ∷ []; says = 12 ∷ 2 ∷ [] }
    ∷ record { types = leaf 0 (string 0 0) ∷ []; says = 12 ∷ 3 ∷ [] }
    ∷ record { types = leaf 0 (bit_field 0 0 0) ∷ []; says = 12 ∷ 4 ∷ [] }
    ∷ record { types = leaf 0 (opaque []) ∷ []; says = 12 ∷ 5 ∷ [] }
    ∷ record { types = compound 0 no_members ∷ only 0 valid 0 (fixed 0) ∷ []; says = 12 ∷ 6 ∷ [] }
    ∷ record { types = leaf 0 (reference 0) ∷ leaf 0 (reference 1) ∷ []; says = 12 ∷ 7 ∷ [] }
    ∷ record { types = enumeration 0 (fixed 0) [] ∷ []; says = 12 ∷ 8 ∷ [] }
    ∷ record { types = array (0 ∷ []) (fixed 1) ∷ array (2 ∷ []) (fixed 0) ∷ array (65536 ∷ 65536 ∷ 0 ∷ []) (fixed 1) ∷ []; says = 12 ∷ 10 ∷ [] }
    ∷ []

pub admission_bounds : admission_answers admissions ≡ admission_says admissions
unfolding admission_answers admission_says each_admitted admissions admitted outside_record held_in_heap answer computing
admission_bounds = refl
