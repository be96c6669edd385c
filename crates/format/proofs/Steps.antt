-- What each step of the reader does with the bytes that the writer put there.
use Prim.Native.Nat.{ℕ, suc, ◌+◌, ◌^◌, ◌<◌}
use mathlib.Core.Path.{◌≡◌, refl, ap}
use mathlib.Core.Bool.{Bool, true, false, cond}
use mathlib.Core.List.{List, [], ◌∷◌, ◌++◌, append_assoc}
use native.Mathlib.Omega.{arith}
use native.Mathlib.Nat.{suc-add}
use lib.ListN.{length, length-append}
use lib.Seq.{take_at, drop_at, drop-append-add}
use lib.Dec.{leb}
use borrow.Author.Tests.{le-leb}
use Rattle.refusal.specs.declared.Refusal.{Refusal}
use Rattle.refusal.specs.declared.Refusal.TheVariants.{TooNew}
use Rattle.format.specs.Bytes.{little_endian, zeros, total_width, pack_numbers}
use Rattle.format.specs.Utf8.{well_formed}
use Rattle.format.specs.Message.{header, name_padding_of, name_bytes}
use Rattle.format.specs.Reading.{Answer, got, refused, then, bytes, skip, number, numbers, name_to, name, take_row, piece, moved, header_of_lem, require, read_header, read_name_of}
use Rattle.format.proofs.Bits.{class_back, version_back}
use Rattle.format.proofs.Bytes.{number-back, length-little_endian, length-zeros, nul-behind, length_packed, packed_back}
use Rattle.format.proofs.Facts.{Fit, NoNul}
use Rattle.format.proofs.Utf8.{mended-of_well_formed}

-- an answer, unless a version is above the limit: then the first such version's refusal
unfoldable pub held : {A : Type 0} → ℕ → List ℕ → Answer A → Answer A
held l [] x = x
held l (v ∷ vs) x = cond (leb v l) (held l vs x) (refused (TooNew v))

-- two answers with the same bytes left agree if their numbers do
pub got_path : {A : Type 0} {a b : A} {s : List ℕ} {m n q r x y : ℕ} → a ≡ b → m ≡ n → q ≡ r → x ≡ y → got a m s q x ≡ got b n s r y
got_path {s} e f g h = λ i. got (e i) (f i) s (g i) (h i)

cond-then : {A B : Type 0} (b : Bool) (x y : Answer A) (k : A → ℕ → List ℕ → ℕ → ℕ → Answer B) → then (cond b x y) k ≡ cond b (then x k) (then y k)
cond-then true x y k = refl
cond-then false x y k = refl

cond-moved : {A : Type 0} (b : Bool) (n : ℕ) (x y : Answer A) → moved n (cond b x y) ≡ cond b (moved n x) (moved n y)
cond-moved true n x y = refl
cond-moved false n x y = refl

module _ {A B : Type 0} (l : ℕ) where
  pub then-held : (vs : List ℕ) (x : Answer A) (k : A → ℕ → List ℕ → ℕ → ℕ → Answer B) → then (held l vs x) k ≡ held l vs (then x k)
  unfolding held then
  then-held [] x k = refl
  then-held (v ∷ vs) x k = rw (cond-then, then-held vs x k)

module _ {A : Type 0} (l : ℕ) where
  pub moved-held : (n : ℕ) (vs : List ℕ) (x : Answer A) → moved n (held l vs x) ≡ held l vs (moved n x)
  unfolding held moved
  moved-held n [] x = refl
  moved-held n (v ∷ vs) x = rw (cond-moved, moved-held n vs x)

  pub held_append : (vs ws : List ℕ) (x : Answer A) → held l (vs ++ ws) x ≡ held l vs (held l ws x)
  unfolding held
  held_append [] ws x = refl
  held_append (v ∷ vs) ws x = rw (held_append vs ws x)

module _ (v at : ℕ) (s : List ℕ) (r p : ℕ) where
  pub require-at : (b : Bool) (e : Refusal) → b ≡ true → require b e v at s r p ≡ got tt at s r p
  unfolding require
  require-at b e h = rw h

  pub bytes-at : (n : ℕ) (b : List ℕ) → length b ≡ n → bytes n v at (b ++ s) r p ≡ got b (at + n) s r p
  unfolding bytes
  bytes-at n b h = rw (le-leb n (length (b ++ s)) (rw length-append (omega arith)), take_at b s n h, drop_at b s n h)

  pub skip_at : (n : ℕ) (b : List ℕ) → length b ≡ n → skip n v at (b ++ s) r p ≡ got tt (at + n) s r p
  unfolding skip
  skip_at n b h = rw (drop_at b s n h)

  pub number_at : (k n : ℕ) → n < 256 ^ k → number k v at (little_endian k n ++ s) r p ≡ got n (at + k) s r p
  unfolding number then
  number_at k n h = rw (bytes-at k (little_endian k n) (length-little_endian k n), number-back k n h)

  pub numbers-at : (ws ns : List ℕ) → Fit ws ns → numbers ws v at (pack_numbers ws ns ++ s) r p ≡ got ns (at + total_width ws) s r p
  unfolding numbers then
  numbers-at ws ns h = rw (bytes-at (total_width ws) (pack_numbers ws ns) (length_packed ws ns h), packed_back ws ns h)

  pub name-at : (b : List ℕ) → NoNul b → name v at (b ++ (0 ∷ s)) r p ≡ got b (at + (length b + 1)) s r p
  unfolding name name_to
  name-at b h = rw (nul-behind b s h, name_to, take_at b (0 ∷ s) (length b) refl, drop-append-add b (0 ∷ s) 1)

  pub row_at : (n : ℕ) → take_row v at s (suc n + r) p ≡ got tt at s (n + r) p
  unfolding take_row
  row_at n = rw suc-add

  pub piece-at : (b : List ℕ) → piece b v at s r (length b + p) ≡ got tt at s r p
  unfolding piece
  piece-at b = rw (le-leb (length b) (length b + p) (omega arith)) (ap (got tt at s r) (omega arith))

module _ (v at : ℕ) (s : List ℕ) (r p : ℕ) where
  -- a member's row and name
  pub read_name-at : (e : ℕ) (b : List ℕ) → NoNul b → well_formed b ≡ true
      → read_name_of e v at (name_bytes e b ++ s) (suc r) (length b + p) ≡ got b (at + (length b + 1) + name_padding_of e (length b + 1)) s r p
  unfolding read_name_of name_bytes take_row then
  read_name-at e b h k =
      rw (
        append_assoc b,
        name-at _ _ _ _ _ b h,
        mended-of_well_formed b k,
        piece-at,
        skip_at _ _ _ _ _ _ (zeros (name_padding_of e (length b + 1))) (length-zeros _),
      )

pub length-header : (c n f0 f1 size : ℕ) → length (header c n f0 f1 size) ≡ 8
unfolding header
length-header c n f0 f1 size = ap (λ m. suc (suc (suc (suc m)))) (length-little_endian 4 size)

header_of : (c n f0 f1 size : ℕ) → c < 16 → size < 2 ^ 32 → header_of_lem (header c n f0 f1 size) ≡ record { class = c; version = n; f0 = f0; f1 = f1; size = size }
unfolding header header_of_lem
header_of c n f0 f1 size h k =
    λ i. record { class = class_back c n h i; version = version_back c n h i; f0 = f0; f1 = f1; size = number-back 4 size k i }

module _ (v at : ℕ) (s : List ℕ) (r p : ℕ) where
  pub header_at : (l c n f0 f1 size : ℕ) → c < 16 → size < 2 ^ 32
      → read_header l v at (header c n f0 f1 size ++ s) r p ≡ held l (n ∷ []) (got (record { class = c; version = n; f0 = f0; f1 = f1; size = size }) (at + 8) s r p)
  unfolding read_header held require header then
  header_at l c n f0 f1 size h k =
      rw (bytes-at v at s r p 8 (header c n f0 f1 size) (length-header c n f0 f1 size), header_of c n f0 f1 size h k, cond-then)
