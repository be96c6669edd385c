-- Worked cases of N3, by computation.
use Prim.Native.Nat.{ℕ}
use mathlib.Core.Path.{◌≡◌, refl}
use mathlib.Core.List.{List, [], ◌∷◌, ◌++◌}
use Rattle.refusal.specs.Refusal.{number_of, values_of}
use Rattle.format.specs.Datatype.{fixed_point, Datatype, leaf, compound, no_members}
use Rattle.format.specs.Outcome.{Outcome, gives, refuses}
use Rattle.format.proofs.Cases.{computing, type_p, nul_string, two_members}
use Rattle.groups.specs.Groups.{key_at, place_of, first_of, listed, numbers_to, numbers_of, count, firsts_to, sizes_to, firsts_of, distinct_of, sizes_of}
use Rattle.groups.specs.Duplicates.{record_at_of, key_of, keys_of, Groups, groups_of, fitting, duplicating_records}

-- 0, then the numbers and the sizes; or the refusal's number and its values
unfoldable pub told : Outcome Groups → List (List ℕ)
told (gives g) = (0 ∷ []) ∷ g.numbers ∷ g.sizes ∷ []
told (refuses e) = (number_of e ∷ values_of e) ∷ []

pub record Case : Type 0 where
  pub type : Datatype
  pub block : List ℕ
  pub room : ℕ
  pub places : ℕ
  pub says : List (List ℕ)

unfoldable pub answers : List Case → List (List (List ℕ))
answers [] = []
answers (c ∷ cs) = told (duplicating_records c.block c.room c.places c.type) ∷ answers cs

unfoldable pub expected : List Case → List (List (List ℕ))
expected [] = []
expected (c ∷ cs) = c.says ∷ expected cs

-- six records of P, of three kinds
abbrev pub six_records : List ℕ
six_records =
    0x01 ∷ 0xff ∷ 0x05 ∷ 0x00
    ∷ 0x02 ∷ 0x00 ∷ 0x05 ∷ 0x00
    ∷ 0x01 ∷ 0x00 ∷ 0x05 ∷ 0x00
    ∷ 0x01 ∷ 0x11 ∷ 0x05 ∷ 0x00
    ∷ 0x02 ∷ 0x77 ∷ 0x05 ∷ 0x00
    ∷ 0x01 ∷ 0x00 ∷ 0x05 ∷ 0x01
    ∷ []

-- a string of 3 and a number behind it, in five records
abbrev pub named : List ℕ
named =
    0x41 ∷ 0x00 ∷ 0x55 ∷ 0x01
    ∷ 0x41 ∷ 0x00 ∷ 0x00 ∷ 0x01
    ∷ 0x41 ∷ 0x00 ∷ 0x66 ∷ 0x02
    ∷ 0x41 ∷ 0x42 ∷ 0x43 ∷ 0x01
    ∷ 0x41 ∷ 0x00 ∷ 0x77 ∷ 0x02
    ∷ []

-- the numbers and sizes, with room to spare and with exactly enough; lists too short; an empty block, and one byte in it; strings; a compound
-- without members
unfoldable pub cases : List Case
cases =
    record { type = type_p; block = six_records; room = 9; places = 9; says = (0 ∷ []) ∷ (0 ∷ 1 ∷ 0 ∷ 0 ∷ 1 ∷ 5 ∷ []) ∷ (3 ∷ 2 ∷ 1 ∷ []) ∷ [] }
    ∷ record { type = type_p; block = six_records; room = 6; places = 3; says = (0 ∷ []) ∷ (0 ∷ 1 ∷ 0 ∷ 0 ∷ 1 ∷ 5 ∷ []) ∷ (3 ∷ 2 ∷ 1 ∷ []) ∷ [] }
    ∷ record { type = type_p; block = six_records; room = 5; places = 0; says = (21 ∷ 6 ∷ []) ∷ [] }
    ∷ record { type = type_p; block = six_records; room = 6; places = 2; says = (21 ∷ 3 ∷ []) ∷ [] }
    ∷ record { type = type_p; block = []; room = 0; places = 0; says = (0 ∷ []) ∷ [] ∷ [] ∷ [] }
    ∷ record { type = type_p; block = 0x01 ∷ []; room = 0; places = 0; says = (18 ∷ []) ∷ [] }
    ∷ record { type = type_p; block = six_records ++ (0x01 ∷ []); room = 0; places = 0; says = (18 ∷ []) ∷ [] }
    ∷ record { type = two_members 4 0 (nul_string 3) 3 (leaf 1 (fixed_point 0 0 0 8)); block = named; room = 5; places = 3; says = (0 ∷ []) ∷ (0 ∷ 0 ∷ 2 ∷ 3 ∷ 2 ∷ []) ∷ (2 ∷ 2 ∷ 1 ∷ []) ∷ [] }
    ∷ record { type = compound 4 no_members; block = 1 ∷ 2 ∷ 3 ∷ 4 ∷ 5 ∷ 6 ∷ 7 ∷ 8 ∷ 9 ∷ 10 ∷ 11 ∷ 12 ∷ []; room = 3; places = 1; says = (0 ∷ []) ∷ (0 ∷ 0 ∷ 0 ∷ []) ∷ (3 ∷ []) ∷ [] }
    ∷ []

pub worked_cases : answers cases ≡ expected cases
unfolding answers expected cases told key_at place_of first_of listed numbers_to numbers_of count firsts_to sizes_to firsts_of distinct_of sizes_of record_at_of key_of keys_of groups_of fitting duplicating_records computing
worked_cases = refl
