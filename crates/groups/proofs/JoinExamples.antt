-- Worked cases of N6, by computation.
use Prim.Native.Nat.{ℕ}
use mathlib.Core.Path.{◌≡◌, refl}
use mathlib.Core.List.{List, [], ◌∷◌, ◌++◌}
use Rattle.refusal.specs.Refusal.{number_of, values_of}
use Rattle.format.specs.Datatype.{fixed_point, Datatype, leaf, compound, no_members}
use Rattle.format.specs.Outcome.{Outcome, gives, refuses}
use Rattle.format.proofs.Cases.{computing, type_p, nul_string, two_members}
use Rattle.groups.specs.Groups.{key_at, place_of, first_of, listed, numbers_to, numbers_of, firsts_to, firsts_of, distinct_of}
use Rattle.groups.specs.Duplicates.{record_at_of, key_of, keys_of}
use Rattle.groups.specs.Join.{records_at, Joint, joint_of, fitting_joint, joining_records}

-- 0 and how many records, then the bytes; or the refusal's number and its values
unfoldable pub told : Outcome Joint → List (List ℕ)
told (gives j) = (0 ∷ j.records ∷ []) ∷ j.bytes ∷ []
told (refuses e) = (number_of e ∷ values_of e) ∷ []

pub record Case : Type 0 where
  pub type : Datatype
  pub first : List ℕ
  pub second : List ℕ
  pub room : ℕ
  pub says : List (List ℕ)

unfoldable pub answers : List Case → List (List (List ℕ))
answers [] = []
answers (c ∷ cs) = told (joining_records c.first c.second c.room c.type) ∷ answers cs

unfoldable pub expected : List Case → List (List (List ℕ))
expected [] = []
expected (c ∷ cs) = c.says ∷ expected cs

-- two blocks of P: each has two records that are the same, and one that is in the other block too
abbrev pub block_a : List ℕ
block_a = 0x01 ∷ 0xff ∷ 0x05 ∷ 0x00 ∷ 0x01 ∷ 0x00 ∷ 0x05 ∷ 0x00 ∷ 0x02 ∷ 0x00 ∷ 0x05 ∷ 0x00 ∷ []

abbrev pub block_b : List ℕ
block_b = 0x02 ∷ 0x99 ∷ 0x05 ∷ 0x00 ∷ 0x03 ∷ 0x00 ∷ 0x00 ∷ 0x00 ∷ 0x03 ∷ 0x01 ∷ 0x00 ∷ 0x00 ∷ []

-- joined, and joined the other way
abbrev pub joined_aB : List ℕ
joined_aB = 0x01 ∷ 0xff ∷ 0x05 ∷ 0x00 ∷ 0x02 ∷ 0x00 ∷ 0x05 ∷ 0x00 ∷ 0x03 ∷ 0x00 ∷ 0x00 ∷ 0x00 ∷ []

abbrev pub joined_bA : List ℕ
joined_bA = 0x02 ∷ 0x99 ∷ 0x05 ∷ 0x00 ∷ 0x03 ∷ 0x00 ∷ 0x00 ∷ 0x00 ∷ 0x01 ∷ 0xff ∷ 0x05 ∷ 0x00 ∷ []

-- a string of 3 and a number behind it: bytes behind a NUL are copied with their record
abbrev pub named_a : List ℕ
named_a = 0x41 ∷ 0x00 ∷ 0x55 ∷ 0x01 ∷ 0x41 ∷ 0x00 ∷ 0x00 ∷ 0x02 ∷ []

abbrev pub named_b : List ℕ
named_b = 0x41 ∷ 0x00 ∷ 0x66 ∷ 0x02 ∷ 0x41 ∷ 0x42 ∷ 0x43 ∷ 0x01 ∷ 0x41 ∷ 0x00 ∷ 0x77 ∷ 0x01 ∷ []

abbrev pub joined_named : List ℕ
joined_named = 0x41 ∷ 0x00 ∷ 0x55 ∷ 0x01 ∷ 0x41 ∷ 0x00 ∷ 0x00 ∷ 0x02 ∷ 0x41 ∷ 0x42 ∷ 0x43 ∷ 0x01 ∷ []

-- exactly enough room and room to spare; the other order; one byte too few; empty blocks; a block one byte too long, the first or the second;
-- strings; a compound without members, whose records are all the same
unfoldable pub cases : List Case
cases =
    record { type = type_p; first = block_a; second = block_b; room = 12; says = (0 ∷ 3 ∷ []) ∷ joined_aB ∷ [] }
    ∷ record { type = type_p; first = block_a; second = block_b; room = 99; says = (0 ∷ 3 ∷ []) ∷ joined_aB ∷ [] }
    ∷ record { type = type_p; first = block_b; second = block_a; room = 12; says = (0 ∷ 3 ∷ []) ∷ joined_bA ∷ [] }
    ∷ record { type = type_p; first = block_a; second = block_b; room = 11; says = (21 ∷ 12 ∷ []) ∷ [] }
    ∷ record { type = type_p; first = []; second = []; room = 0; says = (0 ∷ 0 ∷ []) ∷ [] ∷ [] }
    ∷ record { type = type_p; first = block_a; second = []; room = 8; says = (0 ∷ 2 ∷ []) ∷ (0x01 ∷ 0xff ∷ 0x05 ∷ 0x00 ∷ 0x02 ∷ 0x00 ∷ 0x05 ∷ 0x00 ∷ []) ∷ [] }
    ∷ record { type = type_p; first = []; second = block_b; room = 8; says = (0 ∷ 2 ∷ []) ∷ (0x02 ∷ 0x99 ∷ 0x05 ∷ 0x00 ∷ 0x03 ∷ 0x00 ∷ 0x00 ∷ 0x00 ∷ []) ∷ [] }
    ∷ record { type = type_p; first = block_a; second = block_b ++ (0x01 ∷ []); room = 99; says = (18 ∷ []) ∷ [] }
    ∷ record { type = type_p; first = block_a; second = block_b ++ (0x01 ∷ []); room = 0; says = (18 ∷ []) ∷ [] }
    ∷ record { type = type_p; first = block_a ++ (0x01 ∷ []); second = block_b; room = 99; says = (18 ∷ []) ∷ [] }
    ∷ record { type = type_p; first = block_a ++ (0x01 ∷ []); second = 0x01 ∷ 0x02 ∷ 0x03 ∷ []; room = 0; says = (18 ∷ []) ∷ [] }
    ∷ record { type = two_members 4 0 (nul_string 3) 3 (leaf 1 (fixed_point 0 0 0 8)); first = named_a; second = named_b; room = 12; says = (0 ∷ 3 ∷ []) ∷ joined_named ∷ [] }
    ∷ record { type = compound 4 no_members; first = 1 ∷ 2 ∷ 3 ∷ 4 ∷ 5 ∷ 6 ∷ 7 ∷ 8 ∷ []; second = 9 ∷ 10 ∷ 11 ∷ 12 ∷ []; room = 4; says = (0 ∷ 1 ∷ []) ∷ (1 ∷ 2 ∷ 3 ∷ 4 ∷ []) ∷ [] }
    ∷ record { type = compound 4 no_members; first = []; second = 9 ∷ 10 ∷ 11 ∷ 12 ∷ 1 ∷ 2 ∷ 3 ∷ 4 ∷ []; room = 3; says = (21 ∷ 4 ∷ []) ∷ [] }
    ∷ []

pub worked_cases : answers cases ≡ expected cases
unfolding answers expected cases told key_at place_of first_of listed numbers_to numbers_of firsts_to firsts_of distinct_of record_at_of key_of keys_of records_at joint_of fitting_joint joining_records computing
worked_cases = refl
