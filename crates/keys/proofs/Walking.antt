-- The runs that words say, one after another.
use Prim.Native.Nat.{ℕ, suc, ◌+◌, ◌-◌, ◌*◌, ◌/◌, ◌%◌, ◌<◌, ◌≤◌}
use mathlib.Core.Path.{◌≡◌, refl, sym, ap, ◌∙◌}
use mathlib.Core.Bool.{Bool, true, false, false≢true}
use mathlib.Core.List.{List, [], ◌∷◌}
use native.Mathlib.Omega.{arith}
use native.Mathlib.Numerals.{add-one}
use native.Mathlib.Nat.{add-zero}
use lib.ListN.{length, get_or, take, drop, length-drop}
use lib.Seq.{drop-cons, get_or-take, get_or-drop}
use borrow.Author.Tests.{eq-eqb, ne_eqb}
use Rattle.format.specs.Image.{Field, bytes_of, compared_of, image_from, up_to_nul}
use Rattle.format.proofs.Walking.{agree-none, agree_both, differ_first, differ_second}
use Rattle.compare.specs.Agreeing.{equal_range_of, AgreesField, StringSame}
use Rattle.compare.proofs.Ranges.{field-same, field-differs}
use Rattle.groups.specs.Runs.{runs_in, Inside}
use Rattle.keys.specs.Hash.{Factors, hash_bytes, hash_runs, join_hashes_of, hash_of}
use Rattle.keys.specs.Runs.{run_at, SameIn}
use Rattle.std.specs.Simd.{first_chunks}
use Rattle.format.proofs.Lists.{length_part}
use Rattle.keys.proofs.Hashing.{chunk_at}
use Rattle.keys.proofs.Ranges.{part_range}
use Rattle.keys.proofs.Images.{hash-image}

-- ---- words

module _ (runs : List ℕ) (i : ℕ) where
  runs_next : 2 ≤ length runs - i → runs_in (drop i runs) ≡ run_at (get_or runs i 0) (get_or runs (i + 1) 0) ∷ runs_in (drop (i + 2) runs)
  unfolding runs_in
  runs_next h =
      let e : suc (i + 1) ≡ i + 2 = omega arith in
      let p : drop i runs ≡ get_or runs i 0 ∷ drop (i + 1) runs = drop-cons runs i 0 (omega arith) ∙ rw (add-one i) in
      let q : drop (i + 1) runs ≡ get_or runs (i + 1) 0 ∷ drop (i + 2) runs = drop-cons runs (i + 1) 0 (omega arith) ∙ rw e in
      rw (p, q)

  runs_none : length runs - i < 2 → runs_in (drop i runs) ≡ []
  unfolding runs_in
  runs_none h = go (drop i runs) (omega (arith, length-drop i runs))
    where
      go : (w : List ℕ) → length w < 2 → runs_in w ≡ []
      go [] l = refl
      go (p ∷ []) l = refl
      go (p ∷ c ∷ w) l = absurd (omega arith)

  module _ (n : ℕ) (h : Inside n (runs_in (drop i runs))) (l : 2 ≤ length runs - i) where
    both_inside : (get_or runs i 0 + get_or runs (i + 1) 0 / 2 ≤ n) × Inside n (runs_in (drop (i + 2) runs))
    unfolding Inside
    both_inside = rw (runs_next l) at h

    run-here : get_or runs i 0 + get_or runs (i + 1) 0 / 2 ≤ n
    run-here = both_inside.0

    runs_behind : Inside n (runs_in (drop (i + 2) runs))
    runs_behind = both_inside.1

-- ---- one run hashed

module _ (m : Factors) (h : ℕ) (x : List ℕ) (place code : ℕ) where
  part-is : take (place + code / 2 - place) (drop place x) ≡ take (code / 2) (drop place x)
  part-is = let f : place + code / 2 - place ≡ code / 2 = omega arith in rw f

  pub run_whole : {r : ℕ} → r ≡ hash_bytes m h (take (place + code / 2 - place) (drop place x)) → (code % 2 ≡ 1 → ⊥) → r ≡ hash_bytes m h (compared_of (run_at place code) x)
  unfolding compared_of bytes_of
  run_whole g z = rw (ne_eqb (code % 2) 1 z, ← part-is) g

  pub run_string : {r : ℕ} {y : List ℕ} → y ≡ up_to_nul (take (place + code / 2 - place) (drop place x)) → r ≡ hash_bytes m h y → code % 2 ≡ 1 → r ≡ hash_bytes m h (compared_of (run_at place code) x)
  unfolding compared_of bytes_of
  run_string u g z = rw (eq-eqb (code % 2) 1 z, ← part-is, ← u) g

-- ---- k runs hashed: what is left decides

-- the two words of a pair
module _ (runs : List ℕ) (k : ℕ) (pairs : List (List ℕ)) (z : pairs ≡ first_chunks 2 (length runs / 2) runs) (l : k < length runs / 2) where
  pair_is : get_or pairs k [] ≡ take 2 (drop (2 * k) runs)
  pair_is = rw z (chunk_at 2 (length runs / 2) runs k l)

  pair_place : get_or (get_or pairs k []) 0 0 ≡ get_or runs (2 * k) 0
  pair_place = rw pair_is (get_or-take 2 (drop (2 * k) runs) 0 0 (omega arith) ∙ get_or-drop (2 * k) runs 0 0 ∙ rw (add-zero (2 * k)) refl)

  pair_code : get_or (get_or pairs k []) 1 0 ≡ get_or runs (2 * k + 1) 0
  pair_code = rw pair_is (get_or-take 2 (drop (2 * k) runs) 1 0 (omega arith) ∙ get_or-drop (2 * k) runs 1 0)

pub record RunsTo (m : Factors) (runs r : List ℕ) (h g k : ℕ) : Type 0 where
  pub inside : Inside (length r) (runs_in (drop (2 * k) runs))
  pub same : hash_runs m h g (runs_in (drop (2 * k) runs)) r ≡ hash_runs m 1 1 (runs_in runs) r

module _ (m : Factors) (runs r : List ℕ) where
  module _ (h g k : ℕ) (w : RunsTo m runs r h g k) where
    module _ (pairs : List (List ℕ)) (z : pairs ≡ first_chunks 2 (length runs / 2) runs) (l : k < length runs / 2) where
      pub hash_here : get_or (get_or pairs k []) 0 0 + get_or (get_or pairs k []) 1 0 / 2 ≤ length r
      hash_here = rw (pair_place runs k pairs z l, pair_code runs k pairs z l) (run-here runs (2 * k) (length r) w.inside (omega arith))

      pub hash_next : {n : ℕ} → n ≡ hash_bytes m h (compared_of (run_at (get_or (get_or pairs k []) 0 0) (get_or (get_or pairs k []) 1 0)) r) → RunsTo m runs r g n (k + 1)
      unfolding hash_runs
      hash_next {n = n} x =
          let e : 2 * (k + 1) ≡ 2 * k + 2 = omega arith in
          let some : 2 ≤ length runs - 2 * k = omega arith in
          let y : n ≡ hash_bytes m h (compared_of (run_at (get_or runs (2 * k) 0) (get_or runs (2 * k + 1) 0)) r) = rw (pair_place runs k pairs z l, pair_code runs k pairs z l) at x in
          record {
            inside = rw e (runs_behind runs (2 * k) (length r) w.inside some);
            same = rw (e, y) (rw (runs_next runs (2 * k) some) at w.same);
          }

    pub hash_done : {n : ℕ} → n ≡ join_hashes_of m h g → Inside (length r) (runs_in runs) → length runs / 2 ≤ k → n ≡ hash_of m (runs_in runs) (image_from (runs_in runs) r 0 (length r))
    unfolding hash_runs hash_of
    hash_done j q l =
        let e : ◌≡◌ {A = ℕ × ℕ} (h, g) (hash_runs m 1 1 (runs_in runs) r) = rw (runs_none runs (2 * k) (omega arith)) at w.same in
        j ∙ ap (λ (n : ℕ × ℕ). join_hashes_of m n.0 n.1) e ∙ sym (hash-image m (runs_in runs) r (length r) q refl)

-- ---- one run compared

module _ (a b : List ℕ) (place code : ℕ) where
  pub run-string-told : {r : Bool} → StringSame a b place (code / 2) r → (code % 2 ≡ 0 → ⊥) → SameIn (run_at place code ∷ []) a b r
  run-string-told w z = rw (eq-eqb (code % 2) 1 (omega arith)) (record { same = w.same; differs = w.differs })

  pub part_long : (x : List ℕ) → place + code / 2 ≤ length x → length (take (place + code / 2 - place) (drop place x)) ≡ code / 2
  part_long x l = length_part x place (place + code / 2 - place) (omega arith) ∙ omega arith

  pub run_part_told : {r : Bool} → r ≡ equal_range_of (take (place + code / 2 - place) (drop place a)) (take (place + code / 2 - place) (drop place b)) 0 (length (take (place + code / 2 - place) (drop place a))) → code % 2 ≡ 0
      → place + code / 2 ≤ length a → SameIn (run_at place code ∷ []) a b r
  unfolding AgreesField
  run_part_told {r = r} e z l =
      let n : place + code / 2 - place ≡ code / 2 = omega arith in
      let w : r ≡ equal_range_of a b place (code / 2) = rw (part_long a l, n) at e ∙ part_range a b place (code / 2) in
      rw (ne_eqb (code % 2) 1 (λ q. omega arith)) (record {
        same = λ t. ((field-same (code / 2) a b place 0 w t l).together 0 refl).0;
        differs = λ t. (field-differs (code / 2) a b place 0 w t l).apart refl;
      })

-- ---- k runs compared: what is left decides

pub record SameFrom (runs a b : List ℕ) (k : ℕ) : Type 0 where
  pub inside : Inside (length a) (runs_in (drop (2 * k) runs))
  pub decides : (x : Bool) → SameIn (runs_in (drop (2 * k) runs)) a b x → SameIn (runs_in runs) a b x

module _ (runs a b : List ℕ) (k : ℕ) (w : SameFrom runs a b k) where
  module _ (pairs : List (List ℕ)) (z : pairs ≡ first_chunks 2 (length runs / 2) runs) (l : k < length runs / 2) where
    pub same_here : get_or (get_or pairs k []) 0 0 + get_or (get_or pairs k []) 1 0 / 2 ≤ length a
    same_here = rw (pair_place runs k pairs z l, pair_code runs k pairs z l) (run-here runs (2 * k) (length a) w.inside (omega arith))

    module _ {r : Bool} (o : SameIn (run_at (get_or (get_or pairs k []) 0 0) (get_or (get_or pairs k []) 1 0) ∷ []) a b r) where
      abbrev f : Field
      f = run_at (get_or runs (2 * k) 0) (get_or runs (2 * k + 1) 0)

      abbrev gs : List Field
      gs = runs_in (drop (2 * k + 2) runs)

      q : SameIn (f ∷ []) a b r
      q = rw (pair_place runs k pairs z l, pair_code runs k pairs z l) at o

      some : 2 ≤ length runs - 2 * k
      some = omega arith

      pub same_next : r ≡ true → SameFrom runs a b (k + 1)
      same_next e =
          let y : 2 * (k + 1) ≡ 2 * k + 2 = omega arith in
          record {
            inside = rw y (runs_behind runs (2 * k) (length a) w.inside some);
            decides = λ x g.
                let h : SameIn gs a b x = rw y at g in
                w.decides x (rw (runs_next runs (2 * k) some) (record {
                  same = λ t. agree_both (f ∷ []) gs (q.same e) (h.same t);
                  differs = λ t. differ_second (f ∷ []) gs (h.differs t);
                }));
          }

      pub same_apart : r ≡ false → SameIn (runs_in runs) a b false
      same_apart e = w.decides false (rw (runs_next runs (2 * k) some) (record { same = λ t. absurd (false≢true t); differs = λ t. differ_first (f ∷ []) gs (q.differs e) }))

  pub same_all : length runs / 2 ≤ k → SameIn (runs_in runs) a b true
  same_all l = w.decides true (rw (runs_none runs (2 * k) (omega arith)) (record { same = λ t. agree-none; differs = λ t. absurd (false≢true (sym t)) }))
