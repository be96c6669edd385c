-- N6: two blocks of one type made one, without the records that are the same as an earlier one.
use Rattle.std.specs.Prelude.{ℕ, ◌%◌, List, [], ◌∷◌, ◌++◌, length, leb, eqb}
use Rattle.refusal.specs.declared.Refusal.TheVariants.{WrongLength, NoRoom}
use Rattle.format.specs.Datatype.{Datatype, type_size_of}
use Rattle.format.specs.Image.{Field, fields_of}
use Rattle.format.specs.Outcome.{Outcome, gives, when_given, unless, needed}
use Rattle.format.specs.Ownership.{admitting}
use Rattle.format.specs.Table.{type_of}
use Rattle.groups.specs.Groups.{firsts_of, distinct_of}
use Rattle.groups.specs.Duplicates.{record_at_of, keys_of}

-- records of a block by their numbers, one behind the other, each as it lies there
unfoldable pub records_at : (block : List ℕ) (size : ℕ) → List ℕ → List ℕ
records_at block size [] = []
records_at block size (k ∷ ks) = record_at_of block size k ++ records_at block size ks

-- the joined block, and how many records it has
pub record Joint : Type 0 where
  pub bytes : List ℕ
  pub records : ℕ

-- the records of both blocks, laid end to end, that have no earlier one that is the same
unfoldable pub joint_of : List Field → (a b : List ℕ) (size : ℕ) → Joint
joint_of fs a b size =
    record {
      bytes = records_at (a ++ b) size (firsts_of (keys_of fs (a ++ b) size));
      records = distinct_of (keys_of fs (a ++ b) size);
    }

-- NoRoom counts bytes
unfoldable pub fitting_joint : (room : ℕ) → Joint → Outcome Joint
fitting_joint room j = unless (leb (length j.bytes) room) (NoRoom (needed (length j.bytes))) (gives j)

-- "Checks and refusals are N3's, first block before second"
unfoldable pub joining_records : (a b : List ℕ) (room : ℕ) → Datatype → Outcome Joint
joining_records a b room t =
    admitting t
    (unless (eqb (length a % type_size_of t) 0) WrongLength
    (unless (eqb (length b % type_size_of t) 0) WrongLength
    (fitting_joint room (joint_of (fields_of t) a b (type_size_of t)))))

-- refusals 1, 12, 16, 17, 18 for the first block, 18 for the second and 21, in this order, then the joined block
unfoldable pub joining : (table pool a b : List ℕ) (room : ℕ) → Outcome Joint
joining table pool a b room = when_given (type_of table pool) (joining_records a b room)
