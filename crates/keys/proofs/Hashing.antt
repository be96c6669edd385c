-- Bytes hashed eight at a time.
use Prim.Native.Nat.{ℕ, zero, suc, ◌+◌, ◌-◌, ◌*◌, ◌/◌, ◌<◌, ◌≤◌}
use mathlib.Core.Path.{◌≡◌, refl, sym, ap, ◌∙◌}
use mathlib.Core.List.{List, []}
use native.Mathlib.Omega.{arith}
use native.Mathlib.Nat.{mul-suc}
use Rattle.std.specs.Simd.{first_chunks}
use lib.ListN.{length, get_or, take, drop, length-drop, drop_of_length-le}
use lib.Seq.{take_all, take-take, drop-drop}
use Rattle.format.specs.Bytes.{number_from}
use Rattle.format.proofs.Lists.{drop-take}
use Rattle.keys.specs.Hash.{Factors, step, hash_chunks, hash_bytes}
use Rattle.keys.specs.Runs.{Word}

module _ (m : Factors) (h : ℕ) (s : List ℕ) where
  bytes-none : length s ≡ 0 → hash_bytes m h s ≡ h
  unfolding hash_bytes hash_chunks
  bytes-none e =
      let q : (length s + 7) / 8 ≡ 0 = omega arith in
      rw q

  bytes-few : 0 < length s → length s < 8 → hash_bytes m h s ≡ step m h (number_from (take 4 s)) (number_from (take 4 (drop 4 s)))
  unfolding hash_bytes hash_chunks
  bytes-few l g =
      let q : (length s + 7) / 8 ≡ suc 0 = omega arith in
      rw q

  bytes_eight : 8 ≤ length s → length (drop 8 s) ≡ length s - 8 → hash_bytes m h s ≡ hash_bytes m (step m h (number_from (take 4 s)) (number_from (take 4 (drop 4 s)))) (drop 8 s)
  unfolding hash_bytes hash_chunks
  bytes_eight l e =
      let q : (length s + 7) / 8 ≡ suc ((length (drop 8 s) + 7) / 8) = omega arith in
      rw q

-- fewer than eight bytes
module _ (m : Factors) (h : ℕ) (s : List ℕ) where
  pub rest_none : length s ≡ 0 → h ≡ hash_bytes m h s
  rest_none e = sym (bytes-none m h s e)

  pub rest_few : {v r : ℕ} → Word s v → r ≡ step m h v 0 → (length s ≡ 0 → ⊥) → length s < 4 → r ≡ hash_bytes m h s
  rest_few q e z l =
      let f : take 4 s ≡ s = take_all 4 s (omega arith) in
      let g : drop 4 s ≡ [] = drop_of_length-le s {i = 4} (omega arith) in
      e ∙ sym (bytes-few m h s (omega arith) (omega arith) ∙ rw (f, g, ← q.is) (unfold number_from in refl))

  pub rest_more : {v w r : ℕ} → Word (take 4 (drop 0 s)) v → Word (take (length s - 4) (drop 4 s)) w → r ≡ step m h v w → 4 ≤ length s → length s < 8 → r ≡ hash_bytes m h s
  rest_more q p e l g =
      let u : take (length s - 4) (drop 4 s) ≡ drop 4 s = take_all (length s - 4) (drop 4 s) (omega (arith, length-drop 4 s)) in
      let f : take 4 (drop 4 s) ≡ drop 4 s = take_all 4 (drop 4 s) (omega (arith, length-drop 4 s)) in
      e ∙ sym (bytes-few m h s (omega arith) (omega arith) ∙ rw (f, ← q.is, ← (p.is ∙ ap number_from u)))

-- ---- a part, eight bytes at a time

-- a chunk of n bytes
pub chunk_at : (n c : ℕ) (s : List ℕ) (k : ℕ) → k < c → get_or (first_chunks n c s) k [] ≡ take n (drop (n * k) s)
chunk_at n zero s k l = absurd (omega arith)
chunk_at n (suc c) s zero l = let e : n * 0 ≡ 0 = omega arith in rw e refl
chunk_at n (suc c) s (suc k) l =
    let e : n * suc k ≡ n + n * k = omega (arith, mul-suc n k) in
    chunk_at n c (drop n s) k (omega arith) ∙ rw (e, drop-drop (n * k) n s)

-- k times eight bytes are hashed: what is left decides
pub record HashedTo (m : Factors) (start : ℕ) (s : List ℕ) (h k : ℕ) : Type 0 where
  pub same : hash_bytes m h (drop (8 * k) s) ≡ hash_bytes m start s

module _ (m : Factors) (start : ℕ) (s : List ℕ) where
  module _ (h k : ℕ) (t : HashedTo m start s h k) where
    pub range_eight : {v w r : ℕ} {eights : List (List ℕ)} → eights ≡ first_chunks 8 (length s / 8) s → Word (take 4 (drop 0 (get_or eights k []))) v → Word (take 4 (drop 4 (get_or eights k []))) w → r ≡ step m h v w → k < length s / 8
        → HashedTo m start s r (k + 1)
    range_eight {v = v} {w = w} {r = r} {eights = eights} z q p e l =
        let i = 8 * k in
        let x : List ℕ = get_or eights k [] in
        let d : x ≡ take 8 (drop i s) = rw z (chunk_at 8 (length s / 8) s k l) in
        let left : length (drop i s) ≡ length s - i = length-drop i s in
        let rest : drop 8 (drop i s) ≡ drop (8 * (k + 1)) s =
        let f : 8 * (k + 1) ≡ i + 8 = omega arith in rw (drop-drop 8 i s, f) in
        let less : length (drop 8 (drop i s)) ≡ length (drop i s) - 8 = length-drop 8 (drop i s) in
        let a : take 4 x ≡ take 4 (drop i s) = rw d (take-take 4 8 (drop i s) (omega arith)) in
        let b : take 4 (drop 4 x) ≡ take 4 (drop 4 (drop i s)) =
        rw (d, drop-take 4 4 8 (drop i s) refl) (take-take 4 4 (drop 4 (drop i s)) (omega arith)) in
        let n : v ≡ number_from (take 4 (drop i s)) = q.is ∙ ap number_from a in
        let o : w ≡ number_from (take 4 (drop 4 (drop i s))) = p.is ∙ ap number_from b in
        let g : r ≡ step m h (number_from (take 4 (drop i s))) (number_from (take 4 (drop 4 (drop i s)))) = e ∙ rw (n, o) in
        record { same = rw (g, ← rest) (sym (bytes_eight m h (drop i s) (omega (arith, left)) less)) ∙ t.same }

    pub range_done : {r : ℕ} (rest : List ℕ) → rest ≡ drop (length s / 8 * 8) s → r ≡ hash_bytes m h rest → k ≡ length s / 8 → r ≡ hash_bytes m start s
    range_done rest d g u =
        let e : length s / 8 * 8 ≡ 8 * k = omega arith in
        g ∙ rw (d, e) t.same
