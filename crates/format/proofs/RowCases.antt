-- Rows and messages of every kind, word by word and byte by byte, by computation. Rows and the walk over them share `row` and the names of
-- columns, messages and reading the order of a float's numbers: what is written out here does not.
use Prim.Native.Nat.{ℕ, zero, suc}
use mathlib.Core.Path.{◌≡◌, refl}
use mathlib.Core.Bool.{Bool, cond}
use mathlib.Core.List.{List, [], ◌∷◌, ◌++◌}
use lib.ListN.{length}
use lib.Seq.{sets}
use Rattle.format.specs.Bytes.{zeros}
use Rattle.format.specs.Outcome.{Outcome, gives, refuses, when_given}
use Rattle.format.specs.Ownership.{comparing}
use Rattle.format.specs.Sizes.{element_sizing, object_address_held, file_address_held, holds_file_address}
use Rattle.format.specs.Slots.{finding_slots}
use Rattle.format.specs.Table.{type_of}
use Rattle.format.proofs.Cases.{computing, reads, writes, Case, answers, expected, ask, answer, read_here, on_table, set_out_of, U1}

-- a message in edition 3, with the words and pool bytes of its type
pub record Layout : Type 0 where
  pub message : List ℕ
  pub words : List ℕ
  pub pool : List ℕ

-- it is read so, and written back
unfoldable pub both_ways : List Layout → List Case
both_ways [] = []
both_ways (x ∷ xs) =
    record { question = reads 15 x.message; says = 0 ∷ length x.message ∷ (x.words ++ x.pool) }
    ∷ record { question = writes 3 x.message; says = 0 ∷ x.message }
    ∷ both_ways xs

-- numbers differ from column to column, so that no two can change places
unfoldable pub layouts : List Layout
layouts =
    -- class 0: order little-endian, signed, bits 3 up to 3 + 29
    record {
      message = 0x10 ∷ 0x08 ∷ 0 ∷ 0 ∷ 4 ∷ 0 ∷ 0 ∷ 0 ∷ 3 ∷ 0 ∷ 29 ∷ 0 ∷ [];
      words = 1 ∷ 4 ∷ 0 ∷ 0 ∷ 0 ∷ 0 ∷ 1 ∷ 3 ∷ 29 ∷ 0 ∷ 0 ∷ 0 ∷ 0 ∷ 0 ∷ 0 ∷ 0 ∷ [];
      pool = [];
    }
    -- class 1: VAX, each of its seven numbers
    ∷ record {
      message = 0x11 ∷ 0x60 ∷ 31 ∷ 0 ∷ 4 ∷ 0 ∷ 0 ∷ 0 ∷ 1 ∷ 0 ∷ 30 ∷ 0 ∷ 24 ∷ 7 ∷ 3 ∷ 21 ∷ 63 ∷ 0 ∷ 0 ∷ 5 ∷ [];
      words = 2 ∷ 4 ∷ 0 ∷ 0 ∷ 0 ∷ 2 ∷ 0 ∷ 1 ∷ 30 ∷ 24 ∷ 7 ∷ 3 ∷ 21 ∷ 83886143 ∷ 0 ∷ 0 ∷ [];
      pool = [];
    }
    -- class 2: big-endian
    ∷ record {
      message = 0x12 ∷ 1 ∷ 0 ∷ 0 ∷ 8 ∷ 0 ∷ 0 ∷ 0 ∷ 64 ∷ 0 ∷ [];
      words = 3 ∷ 8 ∷ 0 ∷ 0 ∷ 0 ∷ 1 ∷ 0 ∷ 0 ∷ 64 ∷ 0 ∷ 0 ∷ 0 ∷ 0 ∷ 0 ∷ 0 ∷ 0 ∷ [];
      pool = [];
    }
    -- class 3: space-padded, UTF-8
    ∷ record {
      message = 0x13 ∷ 0x12 ∷ 0 ∷ 0 ∷ 16 ∷ 0 ∷ 0 ∷ 0 ∷ [];
      words = 4 ∷ 16 ∷ 0 ∷ 0 ∷ 0 ∷ 2 ∷ 1 ∷ 0 ∷ 0 ∷ 0 ∷ 0 ∷ 0 ∷ 0 ∷ 0 ∷ 0 ∷ 0 ∷ [];
      pool = [];
    }
    -- class 4: big-endian
    ∷ record {
      message = 0x14 ∷ 1 ∷ 0 ∷ 0 ∷ 2 ∷ 0 ∷ 0 ∷ 0 ∷ 5 ∷ 0 ∷ 11 ∷ 0 ∷ [];
      words = 5 ∷ 2 ∷ 0 ∷ 0 ∷ 0 ∷ 1 ∷ 0 ∷ 5 ∷ 11 ∷ 0 ∷ 0 ∷ 0 ∷ 0 ∷ 0 ∷ 0 ∷ 0 ∷ [];
      pool = [];
    }
    -- class 5: a tag of three bytes
    ∷ record {
      message = 0x15 ∷ 3 ∷ 0 ∷ 0 ∷ 6 ∷ 0 ∷ 0 ∷ 0 ∷ 0x61 ∷ 0x62 ∷ 0x63 ∷ 0 ∷ 0 ∷ 0 ∷ 0 ∷ 0 ∷ [];
      words = 6 ∷ 6 ∷ 0 ∷ 3 ∷ 0 ∷ 0 ∷ 0 ∷ 0 ∷ 0 ∷ 0 ∷ 0 ∷ 0 ∷ 0 ∷ 0 ∷ 0 ∷ 0 ∷ [];
      pool = 0x61 ∷ 0x62 ∷ 0x63 ∷ [];
    }
    -- class 7: region
    ∷ record {
      message = 0x17 ∷ 1 ∷ 0 ∷ 0 ∷ 12 ∷ 0 ∷ 0 ∷ 0 ∷ [];
      words = 8 ∷ 12 ∷ 0 ∷ 0 ∷ 0 ∷ 1 ∷ 0 ∷ 0 ∷ 0 ∷ 0 ∷ 0 ∷ 0 ∷ 0 ∷ 0 ∷ 0 ∷ 0 ∷ [];
      pool = [];
    }
    -- class 6: members a, at 2, an opaque with the tag x, and bc, at 5, an array of 3 times 2
    ∷ record {
      message = 0x36 ∷ 2 ∷ 0 ∷ 0 ∷ 11 ∷ 0 ∷ 0 ∷ 0
          ∷ 0x61 ∷ 0 ∷ 2 ∷ 0x15 ∷ 1 ∷ 0 ∷ 0 ∷ 3 ∷ 0 ∷ 0 ∷ 0 ∷ 0x78 ∷ 0 ∷ 0 ∷ 0 ∷ 0 ∷ 0 ∷ 0 ∷ 0
          ∷ 0x62 ∷ 0x63 ∷ 0 ∷ 5 ∷ 0x3a ∷ 0 ∷ 0 ∷ 0 ∷ 6 ∷ 0 ∷ 0 ∷ 0 ∷ 2 ∷ 3 ∷ 0 ∷ 0 ∷ 0 ∷ 2 ∷ 0 ∷ 0 ∷ 0 ∷ U1;
      words = 7 ∷ 11 ∷ 0 ∷ 0 ∷ 2 ∷ 0 ∷ 0 ∷ 0 ∷ 0 ∷ 0 ∷ 0 ∷ 0 ∷ 0 ∷ 0 ∷ 0 ∷ 0
          ∷ 12 ∷ 2 ∷ 0 ∷ 1 ∷ 0 ∷ 0 ∷ 0 ∷ 0 ∷ 0 ∷ 0 ∷ 0 ∷ 0 ∷ 0 ∷ 0 ∷ 0 ∷ 0
          ∷ 6 ∷ 3 ∷ 1 ∷ 1 ∷ 0 ∷ 0 ∷ 0 ∷ 0 ∷ 0 ∷ 0 ∷ 0 ∷ 0 ∷ 0 ∷ 0 ∷ 0 ∷ 0
          ∷ 12 ∷ 5 ∷ 2 ∷ 2 ∷ 0 ∷ 0 ∷ 0 ∷ 0 ∷ 0 ∷ 0 ∷ 0 ∷ 0 ∷ 0 ∷ 0 ∷ 0 ∷ 0
          ∷ 11 ∷ 0 ∷ 4 ∷ 2 ∷ 0 ∷ 0 ∷ 0 ∷ 0 ∷ 0 ∷ 0 ∷ 0 ∷ 0 ∷ 0 ∷ 0 ∷ 0 ∷ 0
          ∷ 1 ∷ 1 ∷ 0 ∷ 0 ∷ 0 ∷ 0 ∷ 0 ∷ 0 ∷ 8 ∷ 0 ∷ 0 ∷ 0 ∷ 0 ∷ 0 ∷ 0 ∷ 0
          ∷ [];
      pool = 0x61 ∷ 0x78 ∷ 0x62 ∷ 0x63 ∷ 3 ∷ 0 ∷ 0 ∷ 0 ∷ 2 ∷ 0 ∷ 0 ∷ 0 ∷ [];
    }
    -- class 9 over class 8: a string, space-padded, ASCII, over an enumeration of size 4 with de = 7 and f = 9
    ∷ record {
      message = 0x19 ∷ 0x21 ∷ 0 ∷ 0 ∷ 16 ∷ 0 ∷ 0 ∷ 0 ∷ 0x38 ∷ 2 ∷ 0 ∷ 0 ∷ 4 ∷ 0 ∷ 0 ∷ 0
          ∷ (U1 ++ (0x64 ∷ 0x65 ∷ 0 ∷ 0x66 ∷ 0 ∷ 7 ∷ 9 ∷ []));
      words = 10 ∷ 0 ∷ 0 ∷ 0 ∷ 0 ∷ 1 ∷ 3 ∷ 1 ∷ 0 ∷ 0 ∷ 0 ∷ 0 ∷ 0 ∷ 0 ∷ 0 ∷ 0
          ∷ 9 ∷ 4 ∷ 0 ∷ 0 ∷ 2 ∷ 0 ∷ 0 ∷ 0 ∷ 0 ∷ 0 ∷ 0 ∷ 0 ∷ 0 ∷ 0 ∷ 0 ∷ 0
          ∷ 1 ∷ 1 ∷ 0 ∷ 0 ∷ 0 ∷ 0 ∷ 0 ∷ 0 ∷ 8 ∷ 0 ∷ 0 ∷ 0 ∷ 0 ∷ 0 ∷ 0 ∷ 0
          ∷ 13 ∷ 0 ∷ 0 ∷ 2 ∷ 1 ∷ 0 ∷ 0 ∷ 0 ∷ 0 ∷ 0 ∷ 0 ∷ 0 ∷ 0 ∷ 0 ∷ 0 ∷ 0
          ∷ 13 ∷ 0 ∷ 2 ∷ 1 ∷ 1 ∷ 0 ∷ 0 ∷ 0 ∷ 0 ∷ 0 ∷ 0 ∷ 0 ∷ 0 ∷ 0 ∷ 0 ∷ 0
          ∷ [];
      pool = 0x64 ∷ 0x65 ∷ 0x66 ∷ 7 ∷ 9 ∷ [];
    }
    ∷ []

pub layout_cases : answers (both_ways layouts) ≡ expected (both_ways layouts)
unfolding answers expected both_ways layouts ask answer read_here on_table set_out_of computing
layout_cases = refl

-- a table of one row, of a kind and a size, with a value in a column; column 0 with the kind again adds nothing
unfoldable pub one_row : (kind size column value : ℕ) → List ℕ
one_row kind size c v = sets (kind ∷ size ∷ zeros 14) c (v ∷ [])

-- n before the others, if something was given
unfoldable pub if_given : {A : Type 0} → Outcome A → ℕ → List ℕ → List ℕ
if_given (gives x) n ns = n ∷ ns
if_given (refuses e) n ns = ns

-- of n columns from c on those in which a leaf's row may have a 1, with a pool of one byte
unfoldable pub used_from : (kind c n : ℕ) → List ℕ
used_from kind c zero = []
used_from kind c (suc n) = if_given (type_of (one_row kind 1 c 1) (0 ∷ [])) c (used_from kind (suc c) n)

-- of n values from v on those that a column of a leaf's row may have
unfoldable pub codes_from : (kind column v n : ℕ) → List ℕ
codes_from kind c v zero = []
codes_from kind c v (suc n) = if_given (type_of (one_row kind 1 c v) []) v (codes_from kind c (suc v) n)

-- the kinds of leaves: classes 0 to 5 and 7
unfoldable pub for_leaves : (ℕ → List ℕ) → List (List ℕ)
for_leaves f = f 1 ∷ f 2 ∷ f 3 ∷ f 4 ∷ f 5 ∷ f 6 ∷ f 8 ∷ []

-- "zeros .. in whatever a row of its class doesn't use"
pub leaf-columns : for_leaves (λ kind. used_from kind 2 14)
    ≡ (5 ∷ 6 ∷ 7 ∷ 8 ∷ []) ∷ (5 ∷ 7 ∷ 8 ∷ 9 ∷ 10 ∷ 11 ∷ 12 ∷ 13 ∷ []) ∷ (5 ∷ 8 ∷ []) ∷ (5 ∷ 6 ∷ []) ∷ (5 ∷ 7 ∷ 8 ∷ []) ∷ (3 ∷ []) ∷ (5 ∷ []) ∷ []
unfolding for_leaves used_from if_given one_row computing
leaf-columns = refl

-- "known codes": order 0 to 2, signed 0 to 1, padding 0 to 2, charset 0 to 1, kind of reference 0 to 1
pub leaf-codes : for_leaves (λ kind. codes_from kind 5 0 5) ≡ (0 ∷ 1 ∷ 2 ∷ []) ∷ (0 ∷ 1 ∷ 2 ∷ []) ∷ (0 ∷ 1 ∷ 2 ∷ []) ∷ (0 ∷ 1 ∷ 2 ∷ []) ∷ (0 ∷ 1 ∷ 2 ∷ []) ∷ (0 ∷ []) ∷ (0 ∷ 1 ∷ []) ∷ []
unfolding for_leaves codes_from if_given one_row computing
leaf-codes = refl

pub leaf-second-codes : for_leaves (λ kind. codes_from kind 6 0 5) ≡ (0 ∷ 1 ∷ []) ∷ (0 ∷ []) ∷ (0 ∷ []) ∷ (0 ∷ 1 ∷ []) ∷ (0 ∷ []) ∷ (0 ∷ []) ∷ (0 ∷ []) ∷ []
unfolding for_leaves codes_from if_given one_row computing
leaf-second-codes = refl

-- a test's answer as a number
unfoldable pub tested : Outcome Bool → List ℕ
tested x = answer (when_given x λ b. gives (cond b 1 0 ∷ []))

-- refusal 12 bears the class of a leaf of size 0
pub leaf_element_sizes : for_leaves (λ kind. answer (when_given (element_sizing (one_row kind 0 0 kind) []) λ n. gives (n ∷ [])))
    ≡ (12 ∷ 0 ∷ []) ∷ (12 ∷ 1 ∷ []) ∷ (12 ∷ 2 ∷ []) ∷ (12 ∷ 3 ∷ []) ∷ (12 ∷ 4 ∷ []) ∷ (12 ∷ 5 ∷ []) ∷ (12 ∷ 7 ∷ []) ∷ []
unfolding for_leaves answer one_row element_sizing computing
leaf_element_sizes = refl

-- of the leaves only a reference has a slot, or holds an address
pub leaf-slots : for_leaves (λ kind. answer (finding_slots (one_row kind 8 0 kind) [] 1)) ≡ (0 ∷ []) ∷ (0 ∷ []) ∷ (0 ∷ []) ∷ (0 ∷ []) ∷ (0 ∷ []) ∷ (0 ∷ []) ∷ (0 ∷ 0 ∷ []) ∷ []
unfolding for_leaves answer one_row computing
leaf-slots = refl

-- one of another size is unmapped
pub leaf-unmapped : for_leaves (λ kind. answer (finding_slots (one_row kind 4 0 kind) [] 1)) ≡ (0 ∷ []) ∷ (0 ∷ []) ∷ (0 ∷ []) ∷ (0 ∷ []) ∷ (0 ∷ []) ∷ (0 ∷ []) ∷ (19 ∷ []) ∷ []
unfolding for_leaves answer one_row computing
leaf-unmapped = refl

unfoldable pub only_references : List (List ℕ)
only_references = (0 ∷ 0 ∷ []) ∷ (0 ∷ 0 ∷ []) ∷ (0 ∷ 0 ∷ []) ∷ (0 ∷ 0 ∷ []) ∷ (0 ∷ 0 ∷ []) ∷ (0 ∷ 0 ∷ []) ∷ (0 ∷ 1 ∷ []) ∷ []

pub leaf_object_addresses : for_leaves (λ kind. tested (object_address_held (one_row kind 8 0 kind) [])) ≡ only_references
unfolding for_leaves only_references tested answer one_row object_address_held computing
leaf_object_addresses = refl

pub leaf_file_addresses : for_leaves (λ kind. tested (file_address_held (one_row kind 8 0 kind) [])) ≡ only_references
unfolding for_leaves only_references tested answer one_row file_address_held holds_file_address computing
leaf_file_addresses = refl

-- code 1 is refused in comparing for a reference only, whose region it is; an opaque has no code
pub leaf_heap : for_leaves (λ kind. tested (comparing (one_row kind 1 5 1) [] (0 ∷ []) (0 ∷ []))) ≡ (0 ∷ 1 ∷ []) ∷ (0 ∷ 1 ∷ []) ∷ (0 ∷ 1 ∷ []) ∷ (0 ∷ 1 ∷ []) ∷ (0 ∷ 1 ∷ []) ∷ (1 ∷ []) ∷ (17 ∷ []) ∷ []
unfolding for_leaves tested answer one_row computing
leaf_heap = refl
