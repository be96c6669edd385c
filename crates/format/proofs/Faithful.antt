-- What is read is sound, whatever the bytes: no type of size 0 in it, valid names, known codes, and pool bytes that are bytes.
use Prim.Native.Nat.{ℕ, zero, suc, ◌+◌, ◌*◌, ◌/◌, ◌<◌, ◌≤◌, min}
use mathlib.Core.Path.{◌≡◌, refl}
use mathlib.Core.Bool.{Bool, true, false}
use mathlib.Core.List.{List, [], ◌∷◌, ◌++◌}
use mathlib.Core.Option.{none}
use native.Mathlib.Omega.{arith}
use lib.ListN.{length, get_or}
use lib.Dec.{leb, ltb}
use borrow.Author.Tests.{lt-ltb, leb-true, ltb-true, ne_eqb}
use Rattle.format.specs.declared.Header.{Header}
use Rattle.format.specs.Bytes.{AllBytes, dimension_bytes}
use Rattle.format.specs.Bits.{low_bits, high_bits, bit_at}
use Rattle.format.specs.Utf8.{well_formed}
use Rattle.format.specs.Datatype.{Leaf, leaf_class, leaf_pool, Datatype, leaf, compound, enumeration, variable_length, array, Members, no_members, member, EnumMember, enum_names, enum_values, type_size_of, depth, row_count, pool_bytes, member_pool}
use Rattle.format.specs.Message.{valid_names, valid_member_names, valid_enum_names, message, storable, carried}
use Rattle.format.specs.Outcome.{gives}
use Rattle.format.specs.Reading.{Answer, got, refused, Reader, inner, read_name_of, read_members_of, read_names_of, read_values_of, read_variable, read_array, leaf_properties, read_properties, sized, read_type_of, Read, read_outcome_of, reading_into, reading}
use Rattle.format.specs.Slots.{first_zero, member_first_zero, zero_class, or_else}
use Rattle.format.specs.Table.{LeafKind, isFixedPoint, isFloatingPoint, isTime, is_string_of, isBitField, isOpaque, isReference, Kind, is_leaf, isCompound, isEnumeration, isVariableLength, isArray, isUnknown, leaf_known, known, known_members, all_below, WithinLimits, max_rows, max_pool}
use Rattle.format.proofs.Booleans.{and_true}
use Rattle.format.proofs.Bits.{bit_lt, float_order_lt}
use Rattle.format.proofs.Bytes.{bytes_append, bytes_dimensions}
use Rattle.format.proofs.Counts.{counts}
use Rattle.format.proofs.Demand3.{ReadsBack, reads-back}
use Rattle.format.proofs.Sure.{Sure, met, nothing, sure_then, sure_moved, sure_require, sure_bytes, sure_number, sure_numbers, sure_skip, sure_piece, sure_name, sure_header, sure_row}
use Rattle.format.proofs.Utf8.{mended-is_well_formed, mended-bytes}
use Rattle.format.proofs.Zeros.{dimensions_below}

-- sound in all but the type's own size
pub record Inside (t : Datatype) : Type 0 where
  pub sizes : 0 < type_size_of t → first_zero t ≡ none
  pub names : valid_names t ≡ true
  pub codes : known t ≡ true
  pub bytes : AllBytes (pool_bytes t)

pub record Sound (t : Datatype) : Type 0 where
  pub sizes : first_zero t ≡ none
  pub names : valid_names t ≡ true
  pub codes : known t ≡ true
  pub bytes : AllBytes (pool_bytes t)

pub record SoundMembers (ms : Members) : Type 0 where
  pub sizes : member_first_zero ms ≡ none
  pub names : valid_member_names ms ≡ true
  pub codes : known_members ms ≡ true
  pub bytes : AllBytes (member_pool ms)

not-zero : (c n : ℕ) → 0 < n → zero_class c n ≡ none
unfolding zero_class
not-zero c n h = rw (ne_eqb n 0 (λ e. omega arith))

no_bytes : AllBytes []
unfolding AllBytes
no_bytes = tt

abbrev pub Reads-sound : Reader Datatype → Type 0
Reads-sound rd = (v at : ℕ) (s : List ℕ) (r p : ℕ) → AllBytes s → Sure (λ t at' s' r' p'. Sound t × AllBytes s') (rd v at s r p)

pub sound-inner : (rd : Reader Datatype) → Reads-sound rd → Reads-sound (inner rd)
unfolding inner
sound-inner rd h v at s r p b = sure_moved {Q = λ t s' r' p'. Sound t × AllBytes s'} at (h (length s) 0 s r p b)

pub sound-name : (ver v at : ℕ) (s : List ℕ) (r p : ℕ) → AllBytes s
    → Sure (λ b at' s' r' p'. (well_formed b ≡ true) × AllBytes b × AllBytes s') (read_name_of ver v at s r p)
unfolding read_name_of
sound-name ver v at s r p h =
    sure_then (sure_row v at s r p) λ u a1 s1 r1 p1 h1.
    sure_then (sure_name v a1 s1 r1 p1) λ b a2 s2 r2 p2 h2.
    sure_then (sure_piece v a2 s2 r2 p2 _) λ w a3 s3 r3 p3 h3.
    sure_then (sure_skip v a3 s3 r3 p3 _) λ x a4 s4 r4 p4 h4.
    let both = h2.2 (h1.2 h) in
    met (mended-is_well_formed b, mended-bytes b both.0, h4.2 (h3.2 both.1))

members-sound : (b : List ℕ) (o : ℕ) (t : Datatype) (ms : Members) → well_formed b ≡ true → AllBytes b → Sound t → SoundMembers ms → SoundMembers (member b o t ms)
unfolding first_zero valid_names known pool_bytes or_else
members-sound b o t ms h k x y =
    record {
      sizes = rw x.sizes y.sizes;
      names = rw (h, x.names, y.names);
      codes = rw (x.codes, y.codes);
      bytes = bytes_append b _ k (bytes_append (pool_bytes t) _ x.bytes y.bytes);
    }

no_members-sound : SoundMembers no_members
unfolding first_zero valid_names known pool_bytes
no_members-sound = record { sizes = refl; names = refl; codes = refl; bytes = no_bytes }

sound-members : (ver size n : ℕ) (rd : Reader Datatype) → Reads-sound rd → (v at : ℕ) (s : List ℕ) (r p : ℕ) → AllBytes s
    → Sure (λ ms at' s' r' p'. SoundMembers ms × AllBytes s') (read_members_of rd ver size n v at s r p)
unfolding read_members_of
sound-members ver size zero rd h v at s r p b = met (no_members-sound, b)
sound-members ver size (suc n) rd h v at s r p b =
    sure_then (sound-name ver v at s r p b) λ g a1 s1 r1 p1 h1.
    sure_then (sure_number v a1 s1 r1 p1 _) λ o a2 s2 r2 p2 h2.
    sure_then (sure_bytes v a2 s2 r2 p2 _) λ y a3 s3 r3 p3 h3.
    sure_then (sound-inner rd h v a3 s3 r3 p3 (h3.3 (h2.2 h1.2)).1) λ t a4 s4 r4 p4 h4.
    sure_then (sound-members ver size n rd h v a4 s4 r4 p4 h4.1) λ ms a5 s5 r5 p5 h5.
    met (members-sound g o t ms h1.0 h1.1 h4.0 h5.0, h5.1)

-- names that are valid, and bytes
data Valid : List (List ℕ) → Type 0 where
  no_names : Valid []
  one_name : {b : List ℕ} {bs : List (List ℕ)} → well_formed b ≡ true → AllBytes b → Valid bs → Valid (b ∷ bs)

sound-names : (ver n v at : ℕ) (s : List ℕ) (r p : ℕ) → AllBytes s → Sure (λ bs at' s' r' p'. Valid bs × AllBytes s') (read_names_of ver n v at s r p)
unfolding read_names_of
sound-names ver zero v at s r p h = met (no_names, h)
sound-names ver (suc n) v at s r p h =
    sure_then (sound-name ver v at s r p h) λ b a1 s1 r1 p1 h1.
    sure_then (sound-names ver n v a1 s1 r1 p1 h1.2) λ bs a2 s2 r2 p2 h2.
    met (one_name h1.0 h1.1 h2.0, h2.1)

abbrev EnumSound : List EnumMember → Type 0
EnumSound ms = (valid_enum_names ms ≡ true) × AllBytes (enum_names ms) × AllBytes (enum_values ms)

sound-values : (n : ℕ) (bs : List (List ℕ)) → Valid bs → (v at : ℕ) (s : List ℕ) (r p : ℕ) → AllBytes s
    → Sure (λ ms at' s' r' p'. EnumSound ms × AllBytes s') (read_values_of n bs v at s r p)
unfolding read_values_of valid_enum_names enum_names enum_values
sound-values n [] no_names v at s r p h = met ((refl, no_bytes, no_bytes), h)
sound-values n (b ∷ bs) (one_name e f w) v at s r p h =
    sure_then (sure_bytes v at s r p n) λ x a1 s1 r1 p1 h1.
    sure_then (sure_piece v a1 s1 r1 p1 x) λ u a2 s2 r2 p2 h2.
    sure_then (sound-values n bs w v a2 s2 r2 p2 (h2.2 (h1.3 h).1)) λ ms a3 s3 r3 p3 h3.
    met ((and_true _ _ e h3.0.0, bytes_append b _ f h3.0.1, bytes_append x _ (h1.3 h).0 h3.0.2), h3.1)

abbrev Gives-inside : Answer Datatype → Type 0
Gives-inside x = Sure (λ t at' s' r' p'. Inside t × AllBytes s') x

-- each class, from the codes that were checked and the types inside
leaf-inside : (n : ℕ) (x : Leaf) → leaf_known x ≡ true → AllBytes (leaf_pool x) → Inside (leaf n x)
unfolding first_zero valid_names known pool_bytes type_size_of
leaf-inside n x h k = record { sizes = not-zero (leaf_class x) n; names = refl; codes = h; bytes = k }

compound-inside : (n : ℕ) (ms : Members) → SoundMembers ms → Inside (compound n ms)
unfolding first_zero valid_names known pool_bytes type_size_of or_else
compound-inside n ms h = record { sizes = λ k. rw (not-zero 6 n k) h.sizes; names = h.names; codes = h.codes; bytes = h.bytes }

enumeration-inside : (n : ℕ) (t : Datatype) (ms : List EnumMember) → Sound t → EnumSound ms → Inside (enumeration n t ms)
unfolding first_zero valid_names known pool_bytes type_size_of or_else
enumeration-inside n t ms h k =
    record {
      sizes = λ l. rw (not-zero 8 n l) h.sizes;
      names = and_true _ _ k.0 h.names;
      codes = h.codes;
      bytes = bytes_append (pool_bytes t) _ h.bytes (bytes_append (enum_names ms) _ k.1 k.2);
    }

variable_inside : (i a c : ℕ) (t : Datatype) → i < 2 → a < 4 → c < 3 → Sound t → Inside (variable_length i a c t)
unfolding first_zero valid_names known pool_bytes type_size_of
variable_inside i a c t hi ha hc h =
    record {
      sizes = λ l. h.sizes;
      names = h.names;
      codes = and_true _ _ (lt-ltb i 2 hi) (and_true _ _ (lt-ltb a 4 ha) (and_true _ _ (lt-ltb c 3 hc) h.codes));
      bytes = h.bytes;
    }

array-inside : (ds : List ℕ) (t : Datatype) → all_below 4294967296 ds ≡ true → Sound t → Inside (array ds t)
unfolding first_zero valid_names known pool_bytes or_else
array-inside ds t k h =
    record {
      sizes = λ l. rw (not-zero 10 (type_size_of (array ds t)) l) h.sizes;
      names = h.names;
      codes = and_true _ _ k h.codes;
      bytes = bytes_append (dimension_bytes ds) _ (bytes_dimensions ds) h.bytes;
    }

sound_variable : (rd : Reader Datatype) → Reads-sound rd → (h : Header) (c : Bool) (v at : ℕ) (s : List ℕ) (r p : ℕ) → AllBytes s
    → Gives-inside (read_variable rd h c v at s r p)
unfolding read_variable
sound_variable rd i h true v at s r p b =
    sure_then (sure_require v at s r p _ _) λ u a1 s1 r1 p1 h1.
    sure_then (sure_require v a1 s1 r1 p1 _ _) λ u a2 s2 r2 p2 h2.
    sure_then (sound-inner rd i v a2 s2 r2 p2 (h2.3 (h1.3 b))) λ t a3 s3 r3 p3 h3.
    met (variable_inside 1 (suc (high_bits 4 h.f0)) (suc (low_bits 4 h.f1)) t (omega arith) (omega (arith, leb-true (high_bits 4 h.f0) 2 h1.0)) (omega (arith, leb-true (low_bits 4 h.f1) 1 h2.0)) h3.0, h3.1)
sound_variable rd i h false v at s r p b =
    sure_then (sound-inner rd i v at s r p b) λ t a1 s1 r1 p1 h1.
    met (variable_inside 0 0 0 t (omega arith) (omega arith) (omega arith) h1.0, h1.1)

sound-array : (rd : Reader Datatype) → Reads-sound rd → (ver v at : ℕ) (s : List ℕ) (r p : ℕ) → AllBytes s → Gives-inside (read_array rd ver v at s r p)
unfolding read_array
sound-array rd i ver v at s r p b =
    sure_then (sure_bytes v at s r p _) λ x a1 s1 r1 p1 h1.
    sure_then (sure_bytes v a1 s1 r1 p1 _) λ g a2 s2 r2 p2 h2.
    let read = h2.3 (h1.3 b).1 in
    sure_then (sure_piece v a2 s2 r2 p2 _) λ w a3 s3 r3 p3 h3.
    sure_then (sound-inner rd i v a3 s3 r3 p3 (h3.2 read.1)) λ t a4 s4 r4 p4 h4.
    met (array-inside _ t (dimensions_below (get_or x 0 0) g read.0) h4.0, h4.1)

-- a code that was checked is known
code_below : (x n : ℕ) → leb x n ≡ true → ltb x (suc n) ≡ true
code_below x n h = lt-ltb x (suc n) (omega (arith, leb-true x n h))

sound-leaf : (h : Header) (c : LeafKind) (v at : ℕ) (s : List ℕ) (r p : ℕ) → AllBytes s → Gives-inside (leaf_properties h c v at s r p)
unfolding leaf_properties leaf_known leaf_pool
sound-leaf h isFixedPoint v at s r p b =
    sure_then (sure_numbers v at s r p _) λ x a1 s1 r1 p1 h1.
    met (leaf-inside h.size _ (and_true _ _ (lt-ltb (bit_at 0 h.f0) _ (omega (arith, bit_lt 0 h.f0))) (lt-ltb _ 2 (bit_lt 3 h.f0))) no_bytes, h1.2 b)
sound-leaf h isFloatingPoint v at s r p b = sure_then (sure_numbers v at s r p _) λ x a1 s1 r1 p1 h1. met (leaf-inside h.size _ (lt-ltb _ 3 (float_order_lt h.f0)) no_bytes, h1.2 b)
sound-leaf h isTime v at s r p b = sure_then (sure_numbers v at s r p _) λ x a1 s1 r1 p1 h1. met (leaf-inside h.size _ (lt-ltb (bit_at 0 h.f0) _ (omega (arith, bit_lt 0 h.f0))) no_bytes, h1.2 b)
sound-leaf h is_string_of v at s r p b =
    sure_then (sure_require v at s r p _ _) λ u a1 s1 r1 p1 h1.
    sure_then (sure_require v a1 s1 r1 p1 _ _) λ u a2 s2 r2 p2 h2.
    met (leaf-inside h.size _ (and_true _ _ (code_below (low_bits 4 h.f0) 2 h1.0) (code_below (high_bits 4 h.f0) 1 h2.0)) no_bytes, h2.3 (h1.3 b))
sound-leaf h isBitField v at s r p b = sure_then (sure_numbers v at s r p _) λ x a1 s1 r1 p1 h1. met (leaf-inside h.size _ (lt-ltb (bit_at 0 h.f0) _ (omega (arith, bit_lt 0 h.f0))) no_bytes, h1.2 b)
sound-leaf h isOpaque v at s r p b =
    sure_then (sure_bytes v at s r p _) λ g a1 s1 r1 p1 h1.
    sure_then (sure_piece v a1 s1 r1 p1 g) λ w a2 s2 r2 p2 h2.
    sure_then (sure_skip v a2 s2 r2 p2 _) λ w a3 s3 r3 p3 h3.
    let read = h1.3 b in
    met (leaf-inside h.size _ refl read.0, h3.2 (h2.2 read.1))
sound-leaf h isReference v at s r p b = sure_then (sure_require v at s r p _ _) λ u a1 s1 r1 p1 h1. met (leaf-inside h.size _ (code_below (low_bits 4 h.f0) 1 h1.0) no_bytes, h1.3 b)

sound_properties : (rd : Reader Datatype) → Reads-sound rd → (h : Header) (c : Kind) (v at : ℕ) (s : List ℕ) (r p : ℕ) → AllBytes s
    → Gives-inside (read_properties rd h c v at s r p)
unfolding read_properties
sound_properties rd i h (is_leaf c) v at s r p b = sound-leaf h c v at s r p b
sound_properties rd i h isCompound v at s r p b =
    sure_then (sure_require v at s r p _ _) λ u a1 s1 r1 p1 h1.
    sure_then (sure_require v a1 s1 r1 p1 _ _) λ u a2 s2 r2 p2 h2.
    sure_then (sound-members _ _ _ rd i v a2 s2 r2 p2 (h2.3 (h1.3 b))) λ ms a3 s3 r3 p3 h3.
    met (compound-inside h.size ms h3.0, h3.1)
sound_properties rd i h isEnumeration v at s r p b =
    sure_then (sound-inner rd i v at s r p b) λ t a1 s1 r1 p1 h1.
    sure_then (sound-names _ _ v a1 s1 r1 p1 h1.1) λ bs a2 s2 r2 p2 h2.
    sure_then (sound-values _ bs h2.0 v a2 s2 r2 p2 h2.1) λ ms a3 s3 r3 p3 h3.
    met (enumeration-inside h.size t ms h1.0 h3.0, h3.1)
sound_properties rd i h isVariableLength v at s r p b = sound_variable rd i h _ v at s r p b
sound_properties rd i h isArray v at s r p b =
    sure_then (sure_require v at s r p _ _) λ u a1 s1 r1 p1 h1.
    sure_then (sure_require v a1 s1 r1 p1 _ _) λ u a2 s2 r2 p2 h2.
    sound-array rd i _ v a2 s2 r2 p2 (h2.3 (h1.3 b))
sound_properties rd i h isUnknown v at s r p b = nothing

pub sound-type : (l k : ℕ) → Reads-sound (read_type_of l k)
unfolding read_type_of sized
sound-type l zero v at s r p b = nothing
sound-type l (suc k) v at s r p b =
    sure_then (sure_row v at s r p) λ u a1 s1 r1 p1 h1.
    sure_then (sure_header v a1 s1 r1 p1 l) λ h a2 s2 r2 p2 h2.
    sure_then (sound_properties (read_type_of l k) (sound-type l k) h _ v a2 s2 r2 p2 (h2.2 (h1.2 b))) λ t a3 s3 r3 p3 h3.
    sure_then (sure_require v a3 s3 r3 p3 _ _) λ w a4 s4 r4 p4 h4.
    let i = h3.0 in
    met (record { sizes = i.sizes (ltb-true 0 _ h4.0); names = i.names; codes = i.codes; bytes = i.bytes }, h4.3 h3.1)

-- what every reading gives, whatever the bytes
pub record Faithful (n m : ℕ) (t : Datatype) : Type 0 where
  pub within : WithinLimits t
  pub table-holds : 16 * row_count t ≤ n
  pub pool-holds : length (pool_bytes t) ≤ m
  pub sound : Sound t

from-answer : (n m : ℕ) (x : Answer Datatype) (y : Read)
    → Sure (λ t at' s' r' p'. (min (n / 16) max_rows ≡ row_count t + r') × (min m max_pool ≡ length (pool_bytes t) + p') × (depth t ≤ 32)) x
    → Sure (λ t at' s' r' p'. Sound t × AllBytes s') x → read_outcome_of x ≡ gives y → Faithful n m y.type
unfolding read_outcome_of
from-answer n m (refused e) y h k q = absurd (let z : ◌≡◌ {A = ℕ} 0 1 = cc in omega arith)
from-answer n m (got t at s r p) y (met h) (met k) q =
    let e : t ≡ y.type = cc in
    rw (← e) (record { within = record { levels = h.2; rows_fit = omega arith; pool-fits = omega arith }; table-holds = omega arith; pool-holds = omega arith; sound = k.0 })

pub reading-faithful : (l n m : ℕ) (s : List ℕ) (y : Read) → AllBytes s → reading l n m s ≡ gives y → Faithful n m y.type
unfolding reading reading_into
reading-faithful l n m s y b e =
    from-answer n m _ y (counts l 32 (length s) 0 s (min (n / 16) max_rows) (min m max_pool)) (sound-type l 32 (length s) 0 s _ _ b) e

-- a storable type that was read and is written again in an edition that carries it reads as the same type, in the same room
pub read_again : (e l n m : ℕ) (s behind : List ℕ) (y : Read) → AllBytes s → reading l n m s ≡ gives y → 0 < e → e ≤ 3 → storable y.type ≡ true → carried e y.type ≡ true
    → ReadsBack 3 n m y.type (message e y.type ++ behind) (length (message e y.type))
read_again e l n m s behind y b h lo hi st ca =
    let f = reading-faithful l n m s y b h in
    reads-back e 3 n m y.type behind lo hi (omega arith) hi st ca f.within f.table-holds f.pool-holds
