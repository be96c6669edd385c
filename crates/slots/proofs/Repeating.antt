-- An array's further entries: each slot is a stride more than that of the entry before it.
use Rattle.std.proofs.Common.{◌≡◌, ℕ, zero, suc, ◌+◌, ◌-◌, ◌*◌, ◌/◌, ◌%◌, ◌^◌, ◌<◌, ◌≤◌, min, max, List, [], ◌∷◌, ◌++◌, length, get_or, set, sym, refl, ap, ◌∙◌, append_assoc, append-nil, add-zero, mul-le-mul_right, mod-eq_of_lt, mul_comm, suc-add, mul-le-mul_left, one-mul, le-div_iff_mul-le, zero-add, mul-one, mul-add, le-mul_of_pos_right, add-one, arith, length-append, length-set, get_or-set_other, get_or-set_same}
use lib.Seq.{sets, length-sets}
use Rattle.format.specs.Slots.{shifted, entries}
use Rattle.format.proofs.Slots.{length-shifted}
use Rattle.slots.specs.Slots.{AllBelow, Fits, Listed, moved_on, Repeats}
use Rattle.slots.proofs.Shifting.{shifted_twice, entries-more, entries_split, length_moved, entries_none, fits-first, fits-second, listed_both}

-- ---- the loop

-- what is written from here on is written from the start on
pub record Moving (stride n from end : ℕ) (out₀ : List ℕ) (k : ℕ) (out : List ℕ) : Type 0 where
  pub same : length out ≡ length out₀
  pub fits : end ≤ length out₀
  pub behind : n ≤ k
  pub goes : moved_on stride n k (end - k) out ≡ moved_on stride n from (end - from) out₀

module _ (stride n from end : ℕ) (out₀ : List ℕ) where
  module _ (k : ℕ) (out : List ℕ) (inv : Moving stride n from end out₀ k out) where
    pub moving_next : {v : ℕ} → k < end → v ≡ (get_or out (k - n) 0 + stride) % 2 ^ 64 → Moving stride n from end out₀ (k + 1) (set out k v)
    unfolding moved_on
    moving_next {v = v} h e =
        let j : end - k ≡ suc (end - (k + 1)) = omega arith in
        record {
          same = length-set out k v ∙ inv.same;
          fits = inv.fits;
          behind = omega (arith, inv.behind);
          goes = rw (e, add-one k) (ap (λ (m : ℕ). moved_on stride n k m out) (sym (rw (add-one k) at j)) ∙ inv.goes);
        }

    pub moving_end : end ≤ k → out ≡ moved_on stride n from (end - from) out₀
    unfolding moved_on
    moving_end h = let j : end - k ≡ 0 = omega arith in rw j at inv.goes

-- ---- numbers that stand from a place on

unfoldable Reads : (out : List ℕ) (i : ℕ) → List ℕ → Type 0
Reads out i [] = Unit {0}
Reads out i (v ∷ vs) = (get_or out i 0 ≡ v) × Reads out (suc i) vs

reads-set : (vs out : List ℕ) (i k v : ℕ) → i + length vs ≤ k → Reads out i vs → Reads (set out k v) i vs
unfolding Reads
reads-set [] out i k v h r = tt
reads-set (u ∷ vs) out i k v h r = (get_or-set_other out k i v 0 (λ e. omega arith) ∙ r.0, reads-set vs out (suc i) k v (omega arith) r.1)

reads_more : (vs out : List ℕ) (i v : ℕ) → Reads out i vs → get_or out (i + length vs) 0 ≡ v → Reads out i (vs ++ (v ∷ []))
unfolding Reads
reads_more [] out i v r e = (rw (add-zero i) at e, tt)
reads_more (u ∷ vs) out i v r e =
    let j : suc i + length vs ≡ i + suc (length vs) = omega arith in
    (r.0, reads_more vs out (suc i) v r.1 (ap (λ (k : ℕ). get_or out k 0) j ∙ e))

get_d_before : (vs out : List ℕ) (i j : ℕ) → j < i → get_or (sets out i vs) j 0 ≡ get_or out j 0
get_d_before [] out i j h = refl
get_d_before (v ∷ vs) out i j h = get_d_before vs (set out i v) (suc i) j (omega arith) ∙ get_or-set_other out i j v 0 (λ e. omega arith)

reads-sets : (vs out : List ℕ) (i : ℕ) → i + length vs ≤ length out → Reads (sets out i vs) i vs
unfolding Reads
reads-sets [] out i h = tt
reads-sets (v ∷ vs) out i h =
    (get_d_before vs (set out i v) (suc i) i (omega arith) ∙ get_or-set_same out i v 0 (omega arith), reads-sets vs (set out i v) (suc i) (omega (arith, length-set out i v)))

-- ---- the numbers that are written

-- so many numbers behind a list, each a stride more than the one a list's length before it
unfoldable further : (stride : ℕ) → List ℕ → ℕ → List ℕ
further stride vs zero = []
further stride [] (suc m) = []
further stride (v ∷ vs) (suc m) = (stride + v) ∷ further stride (vs ++ ((stride + v) ∷ [])) m

further-part : (stride : ℕ) (vs ws : List ℕ) (m : ℕ) → further stride (vs ++ ws) (length vs + m) ≡ shifted stride vs ++ further stride (ws ++ shifted stride vs) m
unfolding further shifted
further-part stride [] ws m = rw (zero-add m, append-nil ws)
further-part stride (v ∷ vs) ws m =
    let i = further-part stride vs (ws ++ ((stride + v) ∷ [])) m in
    rw (suc-add (length vs) m, append_assoc vs ws ((stride + v) ∷ []), i, append_assoc ws ((stride + v) ∷ []) (shifted stride vs))

-- of what a list begins with: moved by the stride
further-first : (stride : ℕ) (vs ws : List ℕ) → further stride (vs ++ ws) (length vs) ≡ shifted stride vs
further-first stride vs ws =
    ap (further stride (vs ++ ws)) (sym (add-zero (length vs))) ∙ further-part stride vs ws 0 ∙ (unfold further in append-nil (shifted stride vs))

-- the loop writes them
moved-further : (stride n m : ℕ) (vs out : List ℕ) (i k : ℕ) → k ≡ i + length vs → n ≡ length vs → 0 < n → Reads out i vs → k + m ≤ length out → AllBelow 4294967296 (further stride vs m)
    → moved_on stride n k m out ≡ sets out k (further stride vs m)
unfolding moved_on further Reads AllBelow
moved-further stride n zero vs out i k e l h r f b = refl
moved-further stride n (suc m) [] out i k e l h r f b = absurd (omega arith)
moved-further stride n (suc m) (v ∷ vs) out i k e l h r f b =
    let j : k - n ≡ i = omega arith in
    let w : (get_or out (k - n) 0 + stride) % 2 ^ 64 ≡ stride + v =
    rw (j, r.0) (mod-eq_of_lt {n = v + stride} {m = 2 ^ 64} (omega (arith, b.0)) ∙ omega arith) in
    rw w (moved-further stride n m (vs ++ ((stride + v) ∷ [])) (set out k (stride + v)) (suc i) (suc k) (omega (arith, length-append vs ((stride + v) ∷ []))) (omega (arith, length-append vs ((stride + v) ∷ []))) h
    (reads_more vs (set out k (stride + v)) (suc i) (stride + v) (reads-set vs out (suc i) k (stride + v) (omega arith) r.1) (ap (λ (q : ℕ). get_or (set out k (stride + v)) q 0) (omega arith) ∙ get_or-set_same out k (stride + v) 0 (omega arith)))
    (omega (arith, length-set out k (stride + v))) b.1)

-- ---- entries that are listed are moved at once

module _ (stride base : ℕ) (ss out₀ : List ℕ) (at : ℕ) where
  -- entries behind as many or more
  further-entries : (c e : ℕ) → e ≤ c → further (c * stride) (shifted base (entries stride ss 0 c)) (e * length ss) ≡ shifted (base + c * stride) (entries stride ss 0 e)
  further-entries c e h =
      let i : c ≡ e + (c - e) = omega arith in
      let k : c * stride + base ≡ base + c * stride = omega arith in
      let j : shifted base (entries stride ss 0 c) ≡ shifted base (entries stride ss 0 e) ++ shifted (base + e * stride) (entries stride ss 0 (c - e)) =
      ap (λ (q : ℕ). shifted base (entries stride ss 0 q)) i ∙ entries_split stride base ss e (c - e) in
      rw (j, ← length_moved stride base ss e)
      (further-first (c * stride) (shifted base (entries stride ss 0 e)) (shifted (base + e * stride) (entries stride ss 0 (c - e)))
      ∙ shifted_twice (c * stride) base (entries stride ss 0 e)
      ∙ ap (λ (q : ℕ). shifted q (entries stride ss 0 e)) k)

  entries-moved : (c e : ℕ) {k : ℕ} {out out' : List ℕ} → e ≤ c → at < k → Fits (shifted base (entries stride ss 0 (c + e))) out₀ at → Listed (shifted base (entries stride ss 0 c)) out₀ at k out
      → out' ≡ moved_on (c * stride) (k - at) k (e * length ss) out → Listed (shifted base (entries stride ss 0 (c + e))) out₀ at (k + e * length ss) out'
  entries-moved c e {k = k} {out = out} {out' = out'} h l f a w =
      let i = entries_split stride base ss c e in
      let g : Fits (shifted base (entries stride ss 0 c) ++ shifted (base + c * stride) (entries stride ss 0 e)) out₀ at = rw i at f in
      let d = fits-second (shifted base (entries stride ss 0 c)) (shifted (base + c * stride) (entries stride ss 0 e)) out₀ at g a in
      let s : Reads out at (shifted base (entries stride ss 0 c)) =
      rw a.out-is (reads-sets (shifted base (entries stride ss 0 c)) out₀ at (fits-first (shifted base (entries stride ss 0 c)) (shifted (base + c * stride) (entries stride ss 0 e)) out₀ at g).room) in
      let long = length_moved stride (base + c * stride) ss e in
      let j = further-entries c e h in
      let m : moved_on (c * stride) (k - at) k (e * length ss) out ≡ sets out k (further (c * stride) (shifted base (entries stride ss 0 c)) (e * length ss)) =
      moved-further (c * stride) (k - at) (e * length ss) (shifted base (entries stride ss 0 c)) out at k a.next (omega (arith, a.next)) (omega arith) s (omega (arith, d.room, long)) (rw j d.low) in
      let v : Listed (shifted (base + c * stride) (entries stride ss 0 e)) out k (k + e * length ss) out' = record { next = omega (arith, long); out-is = w ∙ m ∙ ap (sets out k) j } in
      rw i (listed_both _ _ out₀ at k (k + e * length ss) out out' a v)

-- what is listed of the entries: so many up to a place
pub record Doubling (stride count at next : ℕ) (out₁ : List ℕ) (done k : ℕ) (out : List ℕ) : Type 0 where
  pub same : length out ≡ length out₁
  pub some : 0 < done
  pub few : done ≤ max count 1
  pub room : at + (next - at) * count ≤ length out₁
  pub reached : k ≡ at + (next - at) * done
  pub goes : (base : ℕ) (ss out₀ : List ℕ) → 0 < count → Fits (shifted base (entries stride ss 0 count)) out₀ at → Listed (shifted base ss) out₀ at next out₁
      → Listed (shifted base (entries stride ss 0 done)) out₀ at k out

module _ (stride count at next : ℕ) (out : List ℕ) where
  pub repeat_none : next ≤ at → Repeats stride count at next out next out
  repeat_none h = record { repeats = λ base ss out₀ z f a. go base ss out₀ a }
    where
      go : (base : ℕ) (ss out₀ : List ℕ) → Listed (shifted base ss) out₀ at next out → Listed (shifted base (entries stride ss 0 count)) out₀ at next out
      go base [] out₀ a = rw (entries_none stride 0 count) a
      go base (y ∷ ys) out₀ a = absurd (omega (arith, a.next, length-shifted base (y ∷ ys)))

  -- the entries' numbers fit only where there is room
  fits-room : (base : ℕ) (ss out₀ : List ℕ) → 0 < count → Fits (shifted base (entries stride ss 0 count)) out₀ at → Listed (shifted base ss) out₀ at next out → (next ≤ length out) × (at + count * (next - at) ≤ length out)
  fits-room base ss out₀ z f a =
      let l : length out ≡ length out₀ = rw a.out-is (length-sets out₀ at (shifted base ss)) in
      let n : next - at ≡ length ss = omega (arith, a.next, length-shifted base ss) in
      let m : length ss ≤ count * length ss = omega (arith, mul-le-mul_right (length ss) z, one-mul (length ss)) in
      (omega (arith, f.room, length_moved stride base ss count, a.next, length-shifted base ss), rw n (omega (arith, f.room, length_moved stride base ss count)))

  pub repeat_short : length out < next → Repeats stride count at next out next out
  repeat_short h = record { repeats = λ base ss out₀ z f a. absurd (omega (arith, (fits-room base ss out₀ z f a).0)) }

  module _ (there : at < next) where
    pub repeat_full : (length out - at) / (next - at) < count → Repeats stride count at next out next out
    repeat_full h = record { repeats = λ base ss out₀ z f a. absurd (full (fits-room base ss out₀ z f a).0 (fits-room base ss out₀ z f a).1) }
      where
        full : next ≤ length out → at + count * (next - at) ≤ length out → ⊥
        full i g =
            let p : 0 < next - at = omega arith in
            let g : count * (next - at) ≤ length out - at = omega arith in
            omega (arith, (le-div_iff_mul-le {k = next - at} {x = count} {y = length out - at} p).1 g)

    pub doubling_start : next ≤ length out → count ≤ (length out - at) / (next - at) → Doubling stride count at next out 1 next out
    doubling_start i h =
        let p : 0 < next - at = omega arith in
        let g = (le-div_iff_mul-le {k = next - at} {x = count} {y = length out - at} p).0 h in
        record {
          same = refl;
          some = omega arith;
          few = omega arith;
          room = omega (arith, g, mul_comm count (next - at));
          reached = omega (arith, mul-one (next - at));
          goes = λ base ss out₀ z f a. rw (one base ss) a;
        }
      where
        one : (base : ℕ) (ss : List ℕ) → shifted base (entries stride ss 0 1) ≡ shifted base ss
        one base ss = entries-more stride base ss 0 ∙ (unfold entries shifted in append-nil (shifted base ss))

  module _ (done k : ℕ) (out' : List ℕ) (inv : Doubling stride count at next out done k out') where
    pub doubling_end : count ≤ done → Repeats stride count at next out k out'
    doubling_end h = record { repeats = λ base ss out₀ z f a. let e : done ≡ count = omega (arith, inv.few) in rw e at (inv.goes base ss out₀ z f a) }

    module _ (further-left : done < count) {more : ℕ} (m : more ≡ min done (count - done)) where
      -- the place that is reached next
      pub doubling_room : k + (next - at) * more ≤ length out'
      doubling_room =
          let l : done + more ≤ count = omega arith in
          let g : (next - at) * (done + more) ≤ (next - at) * count = mul-le-mul_left (next - at) l in
          omega (arith, inv.room, inv.reached, inv.same, mul-add (next - at) done more)

      pub doubling_next : (out'' : List ℕ) {wide : ℕ} → at < next → wide ≡ stride → out'' ≡ moved_on (done * wide) (k - at) k (k + (next - at) * more - k) out' → length out'' ≡ length out'
          → Doubling stride count at next out (done + more) (k + (next - at) * more) out''
      doubling_next out'' there v f same =
          let e : out'' ≡ moved_on (done * stride) (k - at) k (k + (next - at) * more - k) out' = rw v at f in
          record {
            same = same ∙ inv.same;
            some = omega (arith, inv.some);
            few = omega arith;
            room = inv.room;
            reached = omega (arith, inv.reached, mul-add (next - at) done more);
            goes = λ base ss out₀ z f a. go e base ss out₀ z f a;
          }
        where
          go : out'' ≡ moved_on (done * stride) (k - at) k (k + (next - at) * more - k) out' → (base : ℕ) (ss out₀ : List ℕ) → 0 < count → Fits (shifted base (entries stride ss 0 count)) out₀ at → Listed (shifted base ss) out₀ at next out
              → Listed (shifted base (entries stride ss 0 (done + more))) out₀ at (k + (next - at) * more) out''
          go e base ss out₀ z f a =
              let n : next - at ≡ length ss = omega (arith, a.next, length-shifted base ss) in
              let c : count ≡ done + more + (count - (done + more)) = omega arith in
              let q : (next - at) * more ≡ more * length ss = mul_comm (next - at) more ∙ ap (λ (j : ℕ). more * j) n in
              let w : k + (next - at) * more - k ≡ more * length ss = omega arith in
              let g : Fits (shifted base (entries stride ss 0 (done + more)) ++ shifted (base + (done + more) * stride) (entries stride ss 0 (count - (done + more)))) out₀ at =
              rw (← entries_split stride base ss (done + more) (count - (done + more)), ← c) f in
              let p : at < k = omega (arith, inv.reached, le-mul_of_pos_right (next - at) inv.some) in
              rw q (entries-moved stride base ss out₀ at done more (omega arith) p (fits-first _ _ out₀ at g) (inv.goes base ss out₀ z f a) (e ∙ ap (λ (j : ℕ). moved_on (done * stride) (k - at) k j out') w))
