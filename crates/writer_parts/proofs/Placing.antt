-- Storing a piece of a message, and one behind another.
use Rattle.std.specs.Prelude.{Option, Some, None}
use Prim.Native.Nat.{ℕ, zero, suc, ◌+◌, ◌-◌, ◌*◌, ◌/◌, ◌%◌, ◌<◌, ◌≤◌}
use mathlib.Core.Path.{◌≡◌, refl, sym, ap, ◌∙◌}
use mathlib.Core.List.{List, [], ◌++◌, append_assoc}
use native.Mathlib.Omega.{arith}
use native.Mathlib.Nat.{add-zero}
use native.Mathlib.Numerals.{one-add}
use lib.ListN.{length, take, drop, set, length-append, length-drop, replicate}
use lib.Seq.{sets, sets-eq, length-sets, length-take-le, drop-drop}
use borrow.Rule.Slice.PartMut.{put_mid}
use mathlib.Core.Bool.{true, ◌&&◌}
use lib.Dec.{eqb, ltb}
use borrow.Author.Tests.{ltb-true, ne_eqb}
use Rattle.format.specs.Bytes.{zeros, little_endian}
use Rattle.format.specs.Message.{header, name_padding_of, name_bytes, code_of, variable_flags, variable_charset, storable_variable}
use Rattle.format.specs.Bits.{class_and_version_of, nibbles}
use Rattle.format.proofs.Bytes.{length-little_endian, length-zeros}
use Rattle.format.proofs.Booleans.{and_both}
use Rattle.format.proofs.Steps.{length-header}
use Rattle.format.proofs.Lists.{sets_append}
use Rattle.writer_parts.specs.Places.{Places, PlacesFrom, Inside, Stands}
use Rattle.writer_parts.specs.declared.Written.{Written}

behind-is : {a b : ℕ} → Some a ≡ Some b → a ≡ b
behind-is e = cc

no_behind : {a : ℕ} → None ≡ Some a → ⊥
no_behind e = let z : ◌≡◌ {A = ℕ} 0 1 = cc in omega arith

pub no_at : {w : Written} → None ≡ Some w → ⊥
no_at e = let z : ◌≡◌ {A = ℕ} 0 1 = cc in omega arith

-- ---- one piece

header-sets : (out : List ℕ) (at c v f g size : ℕ)
    → sets (set (set (set (set out at (class_and_version_of c v)) (at + 1) f) (at + 2) g) (at + 3) 0) (at + 4) (little_endian 4 size) ≡ sets out at (header c v f g size)
unfolding header
header-sets out at c v f g size =
    let a : at + 1 ≡ suc at = omega arith in
    let b : at + 2 ≡ suc (suc at) = omega arith in
    let d : at + 3 ≡ suc (suc (suc at)) = omega arith in
    let e : at + 4 ≡ suc (suc (suc (suc at))) = omega arith in
    rw (a, b, d, e)

-- a piece of n bytes, at a place with room for m
module _ {at m n : ℕ} {bytes out : List ℕ} (t : m ≡ length out - at) (long : length bytes ≡ n) where
  full : {out' : List ℕ} → m < n → Places bytes at None out out'
  full h = record { answer = λ g. absurd (omega arith); written = λ g. absurd (omega arith) }

stored : {at n : ℕ} {bytes out out' : List ℕ} → length bytes ≡ n → out' ≡ sets out at bytes → Places bytes at (Some (at + n)) out out'
stored long w = record { answer = λ g. rw long; written = λ g. w }

-- no bytes
pub none-placed : {at : ℕ} {out : List ℕ} → Places [] at (Some at) out out
none-placed {at = at} = record { answer = λ g. rw (add-zero at); written = λ g. refl }

-- ---- one piece behind another

module _ (s t : List ℕ) (at : ℕ) (out : List ℕ) where
  first_fits : at + length (s ++ t) ≤ length out → at + length s ≤ length out
  first_fits h = omega (arith, length-append s t)

  module _ {out₁ : List ℕ} {y : Option ℕ} where
    module _ {a : ℕ} {x : Option ℕ} {out₂ : List ℕ} (h : Places s at y out out₁) (e : y ≡ Some a) (k : Places t a x out₁ out₂) where
      next_place : at + length (s ++ t) ≤ length out → a ≡ at + length s
      next_place g = behind-is (sym e ∙ h.answer (first_fits g))

      second_fits : at + length (s ++ t) ≤ length out → a + length t ≤ length out₁
      second_fits g = omega (arith, next_place g, ap length (h.written (first_fits g)), length-sets out at s, length-append s t)

      pub behind : Places (s ++ t) at x out out₂
      behind =
          record {
            answer = λ g. k.answer (second_fits g) ∙ ap Some (omega (arith, next_place g, length-append s t));
            written = λ g.
                k.written (second_fits g) ∙ ap (λ (l : List ℕ). sets l a t) (h.written (first_fits g)) ∙ ap (λ (i : ℕ). sets (sets out at s) i t) (next_place g) ∙ sym (sets_append s t out at);
          }

    pub full-behind : {out₂ : List ℕ} → Places s at y out out₁ → y ≡ None → Places (s ++ t) at None out out₂
    full-behind h e =
        record {
          answer = λ g. absurd (no_behind (sym e ∙ h.answer (first_fits g)));
          written = λ g. absurd (no_behind (sym e ∙ h.answer (first_fits g)));
        }

    -- a piece that is made from the pool, with another behind it or before it
    module _ (pool : List ℕ) (p n : ℕ) where
      pub from-behind : {a : ℕ} {x : Option ℕ} {out₂ : List ℕ} → PlacesFrom pool p n s at y out out₁ → y ≡ Some a → Places t a x out₁ out₂
          → PlacesFrom pool p n (s ++ t) at x out out₂
      from-behind h e k = record { places = λ i. behind (h.places i) e k; inside = λ b f. h.inside _ e }

      pub from-full : {out₂ : List ℕ} → PlacesFrom pool p n s at y out out₁ → y ≡ None → PlacesFrom pool p n (s ++ t) at None out out₂
      from-full h e = record { places = λ i. full-behind (h.places i) e; inside = λ b f. absurd (no_behind f) }

      pub behind-from : {a : ℕ} {x : Option ℕ} {out₂ : List ℕ} → Places s at y out out₁ → y ≡ Some a → PlacesFrom pool p n t a x out₁ out₂
          → PlacesFrom pool p n (s ++ t) at x out out₂
      behind-from h e k = record { places = λ i. behind h e (k.places i); inside = k.inside }

      pub full_from : {out₂ : List ℕ} → Places s at y out out₁ → y ≡ None → PlacesFrom pool p n (s ++ t) at None out out₂
      full_from h e = record { places = λ i. full-behind h e; inside = λ b f. absurd (no_behind f) }

-- ---- the pieces

-- what stands in a part of a slice after a store to that part
part_set : (out vs : List ℕ) (at k : ℕ) → length vs ≡ k → at + k ≤ length out → put_mid at k out vs ≡ sets out at vs
part_set out vs at k e h = ap (λ l. take at out ++ (vs ++ l)) (drop-drop k at out ∙ ap (λ m. drop (at + m) out) (sym e)) ∙ sym (append_assoc (take at out) vs _) ∙ sym (sets-eq vs out at (omega (arith, e)))

module _ (out out' : List ℕ) (at : ℕ) where
  module _ (n : ℕ) where
    pub zeros-full : {m : ℕ} → m ≡ length out - at → m < n → Places (zeros n) at None out out'
    zeros-full t h = full t (length-zeros n) h

    pub zeros-none : n ≡ 0 → Places (zeros n) at (Some at) out out
    unfolding zeros
    zeros-none e = rw e none-placed

    pub zero-stored : n ≡ 1 → out' ≡ set out at 0 → Places (zeros n) at (Some (at + 1)) out out'
    unfolding zeros
    zero-stored e w = rw e (stored (length-zeros 1) w)

    pub zeros-stored : {vs : List ℕ} → vs ≡ replicate (length (take (at + n - at) (drop at out))) 0 → at + n ≤ length out → out' ≡ put_mid at (at + n - at) out vs → Places (zeros n) at (Some (at + n)) out out'
    unfolding zeros
    zeros-stored {vs = vs} e h w =
        let j : at + n - at ≡ n = omega arith in
        let q : length (take n (drop at out)) ≡ n = length-take-le n (drop at out) (omega (arith, length-drop at out)) in
        let f : vs ≡ replicate n 0 = e ∙ rw (j, q) in
        stored (length-zeros n) (w ∙ rw (j, f) (part_set out (replicate n 0) at n (length-zeros n) h))

    pub number-full : (v : ℕ) {m : ℕ} → m ≡ length out - at → m < n → Places (little_endian n v) at None out out'
    number-full v t h = full t (length-little_endian n v) h

    pub number-stored : (v : ℕ) → out' ≡ sets out at (little_endian n v) → Places (little_endian n v) at (Some (at + n)) out out'
    number-stored v w = stored (length-little_endian n v) w

    pub number-of_width : (v : ℕ) {w : ℕ} → n ≡ w → out' ≡ sets out at (little_endian w v) → Places (little_endian n v) at (Some (at + n)) out out'
    number-of_width v e h = number-stored v (h ∙ rw e)

  module _ (c v f g size : ℕ) where
    pub header-full : {m : ℕ} → m ≡ length out - at → m < 8 → Places (header c v f g size) at None out out'
    header-full t h = full t (length-header c v f g size) h

    pub header-stored : {b : ℕ} → b ≡ class_and_version_of c v → out' ≡ sets (set (set (set (set out at b) (at + 1) f) (at + 2) g) (at + 3) 0) (at + 4) (little_endian 4 size)
        → Places (header c v f g size) at (Some (at + 8)) out out'
    header-stored e w = stored (length-header c v f g size) (w ∙ rw e (header-sets out at c v f g size))

piece-long : (pool : List ℕ) (p n : ℕ) → Inside pool p n → length (take n (drop p pool)) ≡ n
piece-long pool p n h = length-take-le n (drop p pool) (omega (arith, length-drop p pool))

module _ (pool : List ℕ) (p n : ℕ) (out : List ℕ) (at : ℕ) where
  pub piece-none : n ≡ 0 → PlacesFrom pool p n (take n (drop p pool)) at (Some at) out out
  piece-none h = record { places = λ i. rw h none-placed; inside = λ b e. omega arith }

  pub piece-outside : {m : ℕ} {out' : List ℕ} → m ≡ length pool - p → m < n → PlacesFrom pool p n (take n (drop p pool)) at None out out'
  piece-outside t h = record { places = λ i. absurd (omega arith); inside = λ b f. absurd (no_behind f) }

  pub piece-full : {m : ℕ} {out' : List ℕ} → m ≡ length out - at → m < n → PlacesFrom pool p n (take n (drop p pool)) at None out out'
  piece-full t h = record { places = λ i. full t (piece-long pool p n i) h; inside = λ b f. absurd (no_behind f) }

  pub piece-stored : {m : ℕ} {out' : List ℕ} → m ≡ length pool - p → n ≤ m → (n ≡ 0 → ⊥) → out' ≡ sets out at (take n (drop p pool))
      → PlacesFrom pool p n (take n (drop p pool)) at (Some (at + n)) out out'
  piece-stored t h z w = record { places = λ i. stored (piece-long pool p n i) w; inside = λ b f. omega (arith, z) }

-- ---- the flag bytes of a variable-length type

variable_string : (i a c : ℕ) → storable_variable i a c ≡ true → (i ≡ 0 → ⊥) → ((0 < a) × (a < 4)) × ((0 < c) × (c < 3))
unfolding storable_variable
variable_string i a c h z =
    let s : (eqb i 1 && ((ltb 0 a && ltb a 4) && (ltb 0 c && ltb c 3))) ≡ true = rw (ne_eqb i 0 z) at h in
    let e = and_both (eqb i 1) ((ltb 0 a && ltb a 4) && (ltb 0 c && ltb c 3)) s in
    let f = and_both (ltb 0 a && ltb a 4) _ e.1 in
    let g = and_both (ltb 0 a) _ f.0 in
    let k = and_both (ltb 0 c) _ f.1 in
    ((ltb-true 0 a g.0, ltb-true a 4 g.1), (ltb-true 0 c k.0, ltb-true c 3 k.1))

code_of_lem : (a : ℕ) → 0 < a → code_of a ≡ a - 1
unfolding code_of
code_of_lem zero h = absurd (omega arith)
code_of_lem (suc a) h = omega arith

module _ (at : ℕ) (out out' : List ℕ) (i a c : ℕ) (h : storable_variable i a c ≡ true) where
  pub sequence_put : {x : Option ℕ} → i ≡ 0 → Places (header 9 1 0 0 16) at x out out' → Places (header 9 1 (variable_flags i a) (variable_charset i c) 16) at x out out'
  unfolding variable_flags variable_charset
  sequence_put e k = rw e k

  module _ (z : i ≡ 0 → ⊥) where
    pub string-put : {x : Option ℕ} {f : ℕ} → f ≡ nibbles 1 (a - 1) → Places (header 9 1 f (c - 1) 16) at x out out'
        → Places (header 9 1 (variable_flags i a) (variable_charset i c) 16) at x out out'
    string-put {x = x} e k = go i z
      where
        go : (i : ℕ) → (i ≡ 0 → ⊥) → Places (header 9 1 (variable_flags i a) (variable_charset i c) 16) at x out out'
        go zero y = absurd (y refl)
        go (suc j) y = let s = variable_string i a c h z in unfold variable_flags variable_charset in rw (code_of_lem a s.0.0, code_of_lem c s.1.0, ← e) k

    pub no_padding : a < 1 → Places (header 9 1 (variable_flags i a) (variable_charset i c) 16) at None out out'
    no_padding g = let s = variable_string i a c h z in absurd (omega arith)

    pub past_padding : 4 ≤ a → Places (header 9 1 (variable_flags i a) (variable_charset i c) 16) at None out out'
    past_padding g = let s = variable_string i a c h z in absurd (omega arith)

    pub no_charset : c < 1 → Places (header 9 1 (variable_flags i a) (variable_charset i c) 16) at None out out'
    no_charset g = let s = variable_string i a c h z in absurd (omega arith)

    pub past-charset : 3 ≤ c → Places (header 9 1 (variable_flags i a) (variable_charset i c) 16) at None out out'
    past-charset g = let s = variable_string i a c h z in absurd (omega arith)

-- every way out of `put_variable_header`
pub ruleset variable_laws = (sequence_put, string-put, no_padding, past_padding, no_charset, past-charset)

-- ---- pieces whose widths the code computes

-- a name: its NUL is the first of the zeros behind it
name-is : (v : ℕ) (b : List ℕ) {n k : ℕ} → length b ≡ n → k ≡ name_padding_of v (n + 1) → b ++ zeros (1 + k) ≡ name_bytes v b
unfolding name_bytes zeros
name-is v b {k = k} e q = rw (e, ← q, one-add k)

pub name-placed : (pool : List ℕ) (p n at v : ℕ) {k : ℕ} {x : Option ℕ} {out out' : List ℕ} → k ≡ name_padding_of v (n + 1) → PlacesFrom pool p n (take n (drop p pool) ++ zeros (1 + k)) at x out out'
    → PlacesFrom pool p n (name_bytes v (take n (drop p pool))) at x out out'
name-placed pool p n at v q h = record { places = λ i. rw (← name-is v (take n (drop p pool)) (piece-long pool p n i) q) (h.places i); inside = h.inside }

-- ---- with the next row and pool place

module _ (bytes : List ℕ) (r p at : ℕ) {y : Option ℕ} {out out' : List ℕ} (h : Places bytes at y out out') where
  pub stands : {b : ℕ} → y ≡ Some b → Stands bytes r p at (Some (record { row = r; place = p; at = b })) out out'
  stands e =
      record {
        answer = λ g. ap (λ (i : ℕ). Some (record { row = r; place = p; at = i })) (behind-is (sym e ∙ h.answer g));
        written = h.written;
      }

  pub lost : {out₂ : List ℕ} → y ≡ None → Stands bytes r p at None out out₂
  lost e = record { answer = λ g. absurd (no_behind (sym e ∙ h.answer g)); written = λ g. absurd (no_behind (sym e ∙ h.answer g)) }

-- a piece, and behind it one that ends at a row and pool place
module _ (s t : List ℕ) (r p at : ℕ) (out : List ℕ) {out₁ : List ℕ} {y : Option ℕ} (h : Places s at y out out₁) where
  pub stands-behind : {a : ℕ} {x : Option Written} {out₂ : List ℕ} → y ≡ Some a → Stands t r p a x out₁ out₂ → Stands (s ++ t) r p at x out out₂
  stands-behind {a = a} {x = x} e k =
      record {
        answer = λ g. k.answer (fits g) ∙ ap (λ (i : ℕ). Some (record { row = r; place = p; at = i })) (omega (arith, place g, length-append s t));
        written = λ g.
            k.written (fits g) ∙ ap (λ (l : List ℕ). sets l a t) (h.written (first_fits s t at out g)) ∙ ap (λ (i : ℕ). sets (sets out at s) i t) (place g) ∙ sym (sets_append s t out at);
      }
    where
      place : at + length (s ++ t) ≤ length out → a ≡ at + length s
      place g = behind-is (sym e ∙ h.answer (first_fits s t at out g))

      fits : at + length (s ++ t) ≤ length out → a + length t ≤ length out₁
      fits g = omega (arith, place g, ap length (h.written (first_fits s t at out g)), length-sets out at s, length-append s t)

  pub lost-behind : {out₂ : List ℕ} → y ≡ None → Stands (s ++ t) r p at None out out₂
  lost-behind e = lost (s ++ t) r p at (full-behind s t at out {out₂ = out} h e) refl

-- an array of a rank that no byte can hold
pub rank_great : (k p at : ℕ) (pool bytes out out' : List ℕ) → 255 < k → k < 256 → PlacesFrom pool p (k * 4) bytes at None out out'
rank_great k p at pool bytes out out' h g = absurd (omega arith)

-- what stands is placed
module _ {bytes : List ℕ} {r p at : ℕ} {x : Option Written} {out out' : List ℕ} (h : Stands bytes r p at x out out') where
  pub row-known : {w : Written} → x ≡ Some w → at + length bytes ≤ length out → w ≡ record { row = r; place = p; at = at + length bytes }
  row-known {w = w} e g = let q : ◌≡◌ {A = Option Written} (Some w) (Some (record { row = r; place = p; at = at + length bytes })) = sym e ∙ h.answer g in cc

  pub placed : {w : Written} → x ≡ Some w → Places bytes at (Some w.at) out out'
  placed e = record { answer = λ g. ap (λ (w : Written). Some w.at) (row-known e g); written = h.written }

  pub unplaced : {out₂ : List ℕ} → x ≡ None → Places bytes at None out out₂
  unplaced e = record { answer = λ g. absurd (no_at (sym e ∙ h.answer g)); written = λ g. absurd (no_at (sym e ∙ h.answer g)) }

-- it is enough to know where the bytes fit
pub where_fits : {bytes : List ℕ} {r p at : ℕ} {x : Option Written} {out out' : List ℕ} → (at + length bytes ≤ length out → Stands bytes r p at x out out') → Stands bytes r p at x out out'
where_fits h = record { answer = λ g. (h g).answer g; written = λ g. (h g).written g }
