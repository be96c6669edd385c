-- The reader's steps at a place of a message: what each gives, and where it ends.
use mathlib.Core.Path.{◌≡◌, refl, ap, ◌∙◌}
use mathlib.Core.Option.{none, some}
use mathlib.Core.List.{List}
use Prim.Native.Nat.{ℕ, zero, suc, ◌+◌, ◌-◌, ◌<◌, ◌≤◌}
use native.Mathlib.Omega.{arith}
use borrow.Author.Tests.{le-leb, lt-leb, lt-ltb, le-ltb}
use lib.ListN.{length, get_or, take, drop, length-drop}
use lib.Seq.{drop-drop, get_or-take}
use Rattle.refusal.specs.declared.Refusal.{Refusal}
use Rattle.refusal.specs.declared.Refusal.TheVariants.{TooDeep, TooMany, Short, TooNew, PoolFull, ZeroSize}
use Rattle.format.specs.declared.Header.{Header}
use Rattle.format.specs.Bits.{low_bits, high_bits}
use Rattle.format.specs.Bytes.{number_from, first_nul}
use Rattle.format.specs.Datatype.{Datatype, type_size_of}
use Rattle.format.specs.Reading.{Answer, got, refused, Reader, then, require, bytes, skip, number, name_to, name, take_row, piece, moved, inner, header_of_lem, read_header, class_kind, read_properties, sized, read_type_of}
use Rattle.format.proofs.Lists.{drop-take}
use Rattle.reading.specs.declared.Limits.{Limits}
use Rattle.reading.specs.declared.Cursor.{Cursor}
use Rattle.reading.specs.Contract.{run, here}

-- ---- steps in a row

pub then-then : {A B C : Type 0} (x : Answer A) (f : A → ℕ → List ℕ → ℕ → ℕ → Answer B) (g : B → ℕ → List ℕ → ℕ → ℕ → Answer C)
    → then (then x f) g ≡ then x (λ a at s r p. then (f a at s r p) g)
unfolding then
then-then (got a at s r p) f g = refl
then-then (refused e) f g = refl

pub then-each : {A B : Type 0} (x : Answer A) {f g : A → ℕ → List ℕ → ℕ → ℕ → Answer B} → ((a : A) (at : ℕ) (s : List ℕ) (r p : ℕ) → f a at s r p ≡ g a at s r p) → then x f ≡ then x g
unfolding then
then-each (got a at s r p) q = q a at s r p
then-each (refused e) q = refl

-- ---- each step

module _ (v at : ℕ) (s : List ℕ) (cap used p : ℕ) where
  pub row-go : used < cap → take_row v at s (cap - used) p ≡ got tt at s (cap - (used + 1)) p
  unfolding take_row
  row-go h =
      let e : cap - used ≡ suc (cap - (used + 1)) = omega arith in
      rw e

  pub row-full : cap ≤ used → take_row v at s (cap - used) p ≡ refused TooMany
  unfolding take_row
  row-full h =
      let e : cap - used ≡ 0 = omega arith in
      rw e

module _ (n at : ℕ) (d : List ℕ) (r p : ℕ) where
  pub bytes-go : at + n ≤ length d → bytes n (length d) at (drop at d) r p ≡ got (take n (drop at d)) (at + n) (drop (at + n) d) r p
  unfolding bytes
  bytes-go h = rw (le-leb n (length (drop at d)) (omega (arith, length-drop at d)), drop-drop n at d)

  pub bytes-short : 0 < n → length d < at + n → bytes n (length d) at (drop at d) r p ≡ refused (Short (at + n) (length d))
  unfolding bytes
  bytes-short z h = rw (lt-leb n (length (drop at d)) (omega (arith, length-drop at d)))

  pub skip-go : (v : ℕ) → skip n v at (drop at d) r p ≡ got tt (at + n) (drop (at + n) d) r p
  unfolding skip
  skip-go v = rw (drop-drop n at d)

  pub name-go : (v : ℕ) → first_nul (drop at d) ≡ some n → name v at (drop at d) r p ≡ got (take n (drop at d)) (at + (n + 1)) (drop (at + (n + 1)) d) r p
  unfolding name name_to
  name-go v h = rw (h, drop-drop (n + 1) at d)

  pub number-go : at + n ≤ length d → number n (length d) at (drop at d) r p ≡ got (number_from (take n (drop at d))) (at + n) (drop (at + n) d) r p
  unfolding number then
  number-go h = rw (bytes-go h)

  pub number_short : 0 < n → length d < at + n → number n (length d) at (drop at d) r p ≡ refused (Short (at + n) (length d))
  unfolding number then
  number_short z h = rw (bytes-short z h)

pub name-none : (v at : ℕ) (d : List ℕ) (r p : ℕ) → first_nul (drop at d) ≡ none → name v at (drop at d) r p ≡ refused (Short (at + 1) v)
unfolding name name_to
name-none v at d r p h = rw h

module _ (b : List ℕ) (v at : ℕ) (s : List ℕ) (r cap pooled : ℕ) where
  pub piece-go : length b ≤ cap - pooled → piece b v at s r (cap - pooled) ≡ got tt at s r (cap - (pooled + length b))
  unfolding piece
  piece-go h =
      let e : cap - pooled - length b ≡ cap - (pooled + length b) = omega arith in
      rw (le-leb (length b) (cap - pooled) h, e)

  pub piece-full : cap - pooled < length b → piece b v at s r (cap - pooled) ≡ refused PoolFull
  unfolding piece
  piece-full h = rw (lt-leb (length b) (cap - pooled) h)

-- ---- the header

pub header_is : (d : List ℕ) (class version f0 f1 size : ℕ) → 8 ≤ length d → class ≡ low_bits 4 (get_or d 0 0) → version ≡ high_bits 4 (get_or d 0 0) → f0 ≡ get_or d 1 0
    → f1 ≡ get_or d 2 0 → size ≡ number_from (take 4 (drop 4 d)) → header_of_lem (take 8 d) ≡ record { class = class; version = version; f0 = f0; f1 = f1; size = size }
unfolding header_of_lem
header_is d class version f0 f1 size l c v a b s =
    rw (get_or-take 8 d 0 0 (omega arith), get_or-take 8 d 1 0 (omega arith), get_or-take 8 d 2 0 (omega arith), drop-take 4 4 8 d (omega arith), c, v, a, b, s)

module _ (l : ℕ) (d : List ℕ) (r p : ℕ) (h : Header) (e : header_of_lem (take 8 d) ≡ h) (long : 8 ≤ length d) where
  pub header-go : h.version ≤ l → read_header l (length d) 0 d r p ≡ got h 8 (drop 8 d) r p
  unfolding read_header then require
  header-go m = rw (bytes-go 8 0 d r p long, e, le-leb h.version l m)

  pub header-new : l < h.version → read_header l (length d) 0 d r p ≡ refused (TooNew h.version)
  unfolding read_header then require
  header-new m = rw (bytes-go 8 0 d r p long, e, lt-leb h.version l m)

pub header-short : (l : ℕ) (d : List ℕ) (r p : ℕ) → length d < 8 → read_header l (length d) 0 d r p ≡ refused (Short 8 (length d))
unfolding read_header then
header-short l d r p h = rw (bytes-short 8 0 d r p (omega arith) h)

-- ---- a type

module _ (n pooled used : ℕ) (d : List ℕ) (lim : Limits) where
  pub type-full : lim.rows ≤ used → run (read_type_of lim.version (suc n)) d lim 0 used pooled ≡ refused TooMany
  unfolding read_type_of then
  type-full h = rw (row-full (length d) 0 d lim.rows used (lim.pool - pooled) h)

  module _ (free : used < lim.rows) where
    pub type-short : length d < 8 → run (read_type_of lim.version (suc n)) d lim 0 used pooled ≡ refused (Short 8 (length d))
    unfolding read_type_of then
    type-short h =
        rw (row-go (length d) 0 d lim.rows used (lim.pool - pooled) free, header-short lim.version d (lim.rows - (used + 1)) (lim.pool - pooled) h)

    module _ (h : Header) (e : header_of_lem (take 8 d) ≡ h) (long : 8 ≤ length d) where
      pub type-new : lim.version < h.version → run (read_type_of lim.version (suc n)) d lim 0 used pooled ≡ refused (TooNew h.version)
      unfolding read_type_of then
      type-new m =
          rw (row-go (length d) 0 d lim.rows used (lim.pool - pooled) free, header-new lim.version d (lim.rows - (used + 1)) (lim.pool - pooled) h e long m)

      pub type-begun : h.version ≤ lim.version → run (read_type_of lim.version (suc n)) d lim 0 used pooled
          ≡ run (sized h (read_properties (read_type_of lim.version n) h (class_kind h.class))) d lim 8 (used + 1) pooled
      unfolding read_type_of then
      type-begun m =
          rw (row-go (length d) 0 d lim.rows used (lim.pool - pooled) free, header-go lim.version d (lim.rows - (used + 1)) (lim.pool - pooled) h e long m)

pub type-deep : (l n : ℕ) (d : List ℕ) (lim : Limits) (used pooled : ℕ) → n ≡ 0 → run (read_type_of l n) d lim 0 used pooled ≡ refused TooDeep
unfolding read_type_of
type-deep l zero d lim used pooled h = refl
type-deep l (suc n) d lim used pooled h = absurd (omega arith)

-- ---- the size check

module _ (h : Header) (m : Reader Datatype) (v at : ℕ) (s : List ℕ) (r p : ℕ) where
  pub sized_no : (e : Refusal) → m v at s r p ≡ refused e → sized h m v at s r p ≡ refused e
  unfolding sized then
  sized_no e q = rw q

  module _ (t : Datatype) (at' : ℕ) (s' : List ℕ) (r' p' : ℕ) (q : m v at s r p ≡ got t at' s' r' p') where
    pub sized-go : 0 < type_size_of t → sized h m v at s r p ≡ got t at' s' r' p'
    unfolding sized then require
    sized-go z = rw (q, lt-ltb 0 (type_size_of t) z)

    pub sized-zero : type_size_of t ≡ 0 → sized h m v at s r p ≡ refused (ZeroSize h.class)
    unfolding sized then require
    sized-zero z = rw (q, le-ltb 0 (type_size_of t) (omega arith))

-- ---- a message inside a message

module _ {A : Type 0} (rd : Reader A) (d d' : List ℕ) (at : ℕ) (part : d' ≡ drop at d) (lim : Limits) (used pooled : ℕ) where
  pub inner_no : (e : Refusal) → run rd d' lim 0 used pooled ≡ refused e → run (inner rd) d lim at used pooled ≡ refused e
  unfolding inner moved
  inner_no e q = rw (← part, q)

  pub inner-go : (a : A) (s : Cursor) → run rd d' lim 0 used pooled ≡ here a d' lim s
      → run (inner rd) d lim at used pooled ≡ got a (at + s.at) (drop (at + s.at) d) (lim.rows - s.rows) (lim.pool - s.pooled)
  unfolding inner moved
  inner-go a s q =
      let e : drop s.at d' ≡ drop (at + s.at) d = ap (drop s.at) part ∙ drop-drop s.at at d in
      rw (← part, q, e)
