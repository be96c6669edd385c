-- What is written reads back in exactly the room that is needed, and what writing refuses, by computation.
use Prim.Native.Nat.{ℕ, ◌*◌}
use mathlib.Core.Path.{◌≡◌, refl}
use mathlib.Core.List.{List, [], ◌∷◌}
use lib.ListN.{length}
use Rattle.format.specs.Datatype.{float_layout, fixed_point, floating_point, time, string, bit_field, opaque, reference, Datatype, leaf, compound, enumeration, variable_length, array, no_members, member, row_count, pool_bytes}
use Rattle.format.specs.Message.{message_length, writing}
use Rattle.format.specs.Outcome.{Outcome, gives, when_given}
use Rattle.format.specs.Reading.{Read, reading}
use Rattle.format.specs.Table.{rows}
use Rattle.format.proofs.Cases.{computing, answer}
use Rattle.format.proofs.Bounds.{fixed, valid, only}

-- ---- written and read back, in exactly the room that is needed

-- one of each class but the array
unfoldable pub every_class : List Datatype
every_class =
    leaf 4 (fixed_point 1 1 3 20)
    ∷ leaf 8 (floating_point 2 (float_layout (0 ∷ 64 ∷ 52 ∷ 11 ∷ 0 ∷ 52 ∷ 1023 ∷ [])))
    ∷ leaf 4 (time 1 32)
    ∷ leaf 5 (string 2 1)
    ∷ leaf 2 (bit_field 1 1 15)
    ∷ leaf 5 (opaque (0x61 ∷ 0x62 ∷ 0x63 ∷ []))
    ∷ compound 300 (member valid 0 (only 4 [] 3 (fixed 1)) (member (0x62 ∷ []) 299 (fixed 1) no_members))
    ∷ leaf 8 (reference 1)
    ∷ enumeration 2 (fixed 2) (record { name = valid; value = 1 ∷ 0 ∷ [] } ∷ record { name = []; value = 0 ∷ 1 ∷ [] } ∷ [])
    ∷ variable_length 0 0 0 (fixed 1)
    ∷ variable_length 1 2 2 (fixed 1)
    ∷ []

-- arrays, at the outermost level and inside each class that holds types
unfoldable pub arrays : List Datatype
arrays =
    array (2 ∷ 3 ∷ []) (leaf 8 (reference 0))
    ∷ array [] (fixed 1)
    ∷ only 4 valid 0 (array (4 ∷ []) (fixed 1))
    ∷ enumeration 1 (array (1 ∷ []) (fixed 1)) []
    ∷ variable_length 0 0 0 (array (4 ∷ []) (fixed 1))
    ∷ []

-- the table of a type, written in an edition and read again, no version above the edition allowed
unfoldable pub written_and_read_of : (edition : ℕ) → List Datatype → List (Outcome Read)
written_and_read_of e [] = []
written_and_read_of e (t ∷ ts) =
    when_given (writing (rows 0 t) (pool_bytes t) e (message_length e t)) (reading e (16 * row_count t) (length (pool_bytes t))) ∷ written_and_read_of e ts

-- each type again, with the lengths of their messages
unfoldable pub back : List Datatype → (lengths : List ℕ) → List (Outcome Read)
back [] ns = []
back (t ∷ ts) [] = []
back (t ∷ ts) (n ∷ ns) = gives (record { type = t; consumed = n }) ∷ back ts ns

pub written-and-read :
    ◌≡◌ {A = List (List (Outcome Read))}
    (written_and_read_of 1 every_class
    ∷ written_and_read_of 2 every_class
    ∷ written_and_read_of 3 every_class
    ∷ written_and_read_of 2 arrays
    ∷ written_and_read_of 3 arrays
    ∷ [])
    (back every_class (12 ∷ 20 ∷ 10 ∷ 8 ∷ 12 ∷ 16 ∷ 160 ∷ 8 ∷ 40 ∷ 20 ∷ 20 ∷ [])
    ∷ back every_class (12 ∷ 20 ∷ 10 ∷ 8 ∷ 12 ∷ 16 ∷ 76 ∷ 8 ∷ 40 ∷ 20 ∷ 20 ∷ [])
    ∷ back every_class (12 ∷ 20 ∷ 10 ∷ 8 ∷ 12 ∷ 16 ∷ 51 ∷ 8 ∷ 28 ∷ 20 ∷ 20 ∷ [])
    ∷ back arrays (36 ∷ 24 ∷ 52 ∷ 40 ∷ 40 ∷ [])
    ∷ back arrays (25 ∷ 21 ∷ 37 ∷ 33 ∷ 33 ∷ [])
    ∷ [])
unfolding written_and_read_of back every_class arrays computing
written-and-read = refl

-- ---- what writing refuses, in order: the edition, what cannot be stored, what it does not carry, the room

pub record Written : Type 0 where
  pub edition : ℕ
  pub room : ℕ
  pub type : Datatype
  pub says : List ℕ

unfoldable pub writing_answers : List Written → List (List ℕ)
writing_answers [] = []
writing_answers (x ∷ xs) = answer (writing (rows 0 x.type) (pool_bytes x.type) x.edition x.room) ∷ writing_answers xs

unfoldable pub writing_says : List Written → List (List ℕ)
writing_says [] = []
writing_says (x ∷ xs) = x.says ∷ writing_says xs

-- each type in edition 1, in room that is enough
unfoldable pub in_first : List Datatype → List Written
in_first [] = []
in_first (t ∷ ts) = record { edition = 1; room = 1024; type = t; says = 15 ∷ [] } ∷ in_first ts

unfoldable pub writing_bounds : List Written
writing_bounds =
    record { edition = 0; room = 0; type = array (0 ∷ []) (fixed 1); says = 13 ∷ [] }
    ∷ record { edition = 4; room = 0; type = array (0 ∷ []) (fixed 1); says = 13 ∷ [] }
    ∷ record { edition = 1; room = 0; type = array (0 ∷ []) (fixed 1); says = 14 ∷ [] }
    ∷ record { edition = 1; room = 0; type = array [] (fixed 1); says = 15 ∷ [] }
    ∷ record { edition = 2; room = 23; type = array [] (fixed 1); says = 21 ∷ 24 ∷ [] }
    ∷ record { edition = 3; room = 8; type = leaf 1 (string 0 0); says = 0 ∷ 0x13 ∷ 0 ∷ 0 ∷ 0 ∷ 1 ∷ 0 ∷ 0 ∷ 0 ∷ [] }
    ∷ in_first arrays

pub writing_bounds_lem : writing_answers writing_bounds ≡ writing_says writing_bounds
unfolding writing_answers writing_says writing_bounds in_first arrays answer computing
writing_bounds_lem = refl
