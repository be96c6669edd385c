-- The records of two blocks as they are compared, behind the check of their type.
use Rattle.firsts.specs.declared.records.Records.{Records}
use Prim.Native.Nat.{ℕ, ◌/◌, ◌<◌}
use mathlib.Core.Path.{◌≡◌, sym, ◌∙◌}
use mathlib.Core.Bool.{Bool}
use mathlib.Core.List.{List}
use native.Mathlib.Omega.{arith}
use lib.ListN.{length}
use Rattle.format.specs.Datatype.{type_size_of}
use Rattle.format.specs.Image.{Field, fields_of, image, image_from, agree}
use Rattle.format.specs.Outcome.{gives, when_given}
use Rattle.format.specs.Ownership.{admission, comparing}
use Rattle.format.specs.Table.{same_words}
use Rattle.format.proofs.Ownership.{admitting-given, comparing-records}
use Rattle.format.proofs.Slots.{first-zero-size}
use Rattle.compare.specs.Agreeing.{Admits}
use Rattle.groups.specs.Groups.{key_at}
use Rattle.groups.specs.Duplicates.{keys_of, fields_given, fields_in_of}
use Rattle.groups.proofs.Keys.{length-keys, key_at_lem}
use Rattle.firsts.specs.Records.{both, IsRecord, keys_in, Comparable}

-- ---- by any fields

module _ (fs : List Field) (block : List ℕ) (size : ℕ) where
  -- a record's key, by the record as it was found
  pub key_of_lem : (k : ℕ) {x : List ℕ} → k < length (keys_of fs block size) → IsRecord block size k x → image_from fs x 0 (length x) ≡ key_at (keys_of fs block size) k
  key_of_lem k h r = rw (r.long, r.is) (sym (key_at_lem fs block size k h))

-- ---- by the fields of a type

pub admits-some : (table pool : List ℕ) (size : ℕ) → Admits table pool size → 0 < size
admits-some table pool size g = omega (arith, g.size_is, first-zero-size g.type g.admitted.sized)

pub admits-admission : (table pool : List ℕ) (size : ℕ) → Admits table pool size → admission table pool ≡ gives size
unfolding admission when_given
admits-admission table pool size g = rw (g.is, g.size_is) (admitting-given g.type _ g.admitted.sized g.admitted.inside g.admitted.plain)

pub fields_in : (table pool : List ℕ) (size : ℕ) (g : Admits table pool size) → fields_in_of table pool ≡ fields_of g.type
unfolding fields_in_of fields_given
fields_in table pool size g = rw g.is

module _ (table pool : List ℕ) (rs : Records) (g : Comparable table pool rs) where
  pub length_in : length (keys_in table pool rs) ≡ length (both rs) / rs.size
  unfolding keys_in
  length_in = length-keys (fields_in_of table pool) (both rs) rs.size

  pub counted-keys : (n : ℕ) → n ≡ length (both rs) / rs.size → n ≡ length (keys_in table pool rs)
  counted-keys n e = e ∙ sym length_in

  pub key_inside : (k : ℕ) → k < length (keys_in table pool rs) → k < length (both rs) / rs.size
  key_inside k h = omega (arith, length_in)

  module _ (j k : ℕ) (hj : j < length (keys_in table pool rs)) (hk : k < length (keys_in table pool rs)) {x y : List ℕ} (rx : IsRecord (both rs) rs.size j x) (ry : IsRecord (both rs) rs.size k y) where
    pub record_admits : Admits table pool (length x)
    record_admits = rw rx.long g.admits

    pub record_lengths : length y ≡ length x
    record_lengths = ry.long ∙ sym rx.long

    key_image : (i : ℕ) {z : List ℕ} → i < length (keys_in table pool rs) → IsRecord (both rs) rs.size i z → image g.admits.type z ≡ key_at (keys_in table pool rs) i
    unfolding keys_in image
    key_image i {z = z} h r =
        let e : type_size_of g.admits.type ≡ length z = sym g.admits.size_is ∙ sym r.long in
        rw (e, ← fields_in table pool rs.size g.admits) (key_of_lem (fields_in_of table pool) (both rs) rs.size i h r)

    pub key_compared : (c : Bool) → comparing table pool x y ≡ gives c → c ≡ same_words (key_at (keys_in table pool rs) j) (key_at (keys_in table pool rs) k)
    unfolding agree
    key_compared c h =
        let t = g.admits.type in
        let d = g.admits.admitted in
        let e = comparing-records table pool x y t g.admits.is d.sized d.inside d.plain (rx.long ∙ g.admits.size_is) (ry.long ∙ g.admits.size_is) in
        let q : c ≡ agree t x y = cc in
        q ∙ rw (← key_image j hj rx, ← key_image k hk ry)
