-- Laws of the workspace: records placed on chains, and entries counted.
use Prim.Native.Nat.{ℕ, ◌+◌, ◌-◌, ◌<◌, ◌≤◌}
use mathlib.Core.Path.{◌≡◌, sym, ap, ◌∙◌}
use mathlib.Core.Logic.{⊎_elim}
use mathlib.Core.List.{List}
use native.Mathlib.Omega.{arith}
use lib.ListN.{length, get_or, take, drop, set, length-set, length-drop}
use lib.Seq.{get_or-set_same, get_or-set_other, get_or-take, get_or-drop, drop-set-lt, length-take-le, ext_get_or}
use mir.Syntax.{w64}
use mir.Val.{Fits}
use Rattle.groups.specs.Groups.{key_at, first_of, numbers_of, count}
use Rattle.groups.specs.Chains.{bucket_of_lem, head_of, Built, names_in, Named, Tallied}
use Rattle.groups.proofs.Cases.{same_or_not, below_or_same}
use Rattle.groups.proofs.Firsts.{first_below, first-of-equal, length-numbers, number_at}
use Rattle.groups.proofs.Counts.{count-take_hit, count-take_miss, count-later, count_le}
use Rattle.groups.proofs.Heads.{head_hit, head_other, head-later}

-- ---- a record more on the chains

pub built-none : (hash : List ℕ → ℕ) (keys : List (List ℕ)) (n buckets : ℕ) (w : List ℕ) → buckets + n + n ≤ length w → ((i : ℕ) → i < buckets → get_or w i 0 ≡ 0) → Built hash keys n buckets 0 w
unfolding head_of
built-none hash keys n buckets w h z =
    record {
      room = h;
      chains = record { heads = λ (b : ℕ) (l : b < buckets). z b l; links = λ (j : ℕ) (l : j < 0) f. absurd (omega arith) };
      firsts = λ (j : ℕ) (l : j < 0). absurd (omega arith);
    }

module _ (hash : List ℕ → ℕ) (keys : List (List ℕ)) (n buckets k : ℕ) (w : List ℕ) (built : Built hash keys n buckets k w) (l : k < n) (bucket : ℕ) (e : bucket ≡ bucket_of_lem hash keys buckets k) (i : bucket < buckets) where
  more : (w' : List ℕ) → length w' ≡ length w → ((b : ℕ) → b < buckets → get_or w' b 0 ≡ head_of hash keys buckets b (k + 1))
      → ((j : ℕ) → j < k → get_or w' (buckets + j) 0 ≡ get_or w (buckets + j) 0) → get_or w' (buckets + k) 0 ≡ get_or w bucket 0
      → ((j : ℕ) → j < k → get_or w' (buckets + n + j) 0 ≡ get_or w (buckets + n + j) 0) → get_or w' (buckets + n + k) 0 ≡ first_of keys k
      → Built hash keys n buckets (k + 1) w'
  more w' s heads links link firsts first =
      record {
        room = omega (arith, built.room);
        chains = record {
          heads = heads;
          links = λ (j : ℕ) (h : j < k + 1) (f : first_of keys j ≡ j).
              ⊎_elim
              (λ (g : j < k). links j g ∙ built.chains.links j g f)
              (λ (g : j ≡ k). rw g (link ∙ built.chains.heads bucket i ∙ ap (λ (x : ℕ). head_of hash keys buckets x k) e))
              (below_or_same j k h);
        };
        firsts = λ (j : ℕ) (h : j < k + 1).
            ⊎_elim (λ (g : j < k). firsts j g ∙ built.firsts j g) (λ (g : j ≡ k). rw g first) (below_or_same j k h);
      }

  pub built-first : first_of keys k ≡ k → Built hash keys n buckets (k + 1) (set (set (set w (buckets + k) (get_or w bucket 0)) bucket (k + 1)) (buckets + n + k) k)
  built-first f =
      let r = built.room in
      let w₁ = set w (buckets + k) (get_or w bucket 0) in
      let w₂ = set w₁ bucket (k + 1) in
      let l₁ : length w₁ ≡ length w = length-set w (buckets + k) (get_or w bucket 0) in
      let l₂ : length w₂ ≡ length w = length-set w₁ bucket (k + 1) ∙ l₁ in
      more
      (set w₂ (buckets + n + k) k)
      (length-set w₂ (buckets + n + k) k ∙ l₂)
      (λ (b : ℕ) (h : b < buckets).
      get_or-set_other w₂ (buckets + n + k) b k 0 (omega arith)
      ∙ ⊎_elim
      (λ (g : b ≡ bucket). rw g (get_or-set_same w₁ bucket (k + 1) 0 (omega arith) ∙ sym (head_hit hash keys buckets bucket k f (sym e))))
      (λ (d : b ≡ bucket → ⊥).
      get_or-set_other w₁ bucket b (k + 1) 0 d
      ∙ get_or-set_other w (buckets + k) b (get_or w bucket 0) 0 (omega arith)
      ∙ built.chains.heads b h
      ∙ sym (head_other hash keys buckets b k (λ (q : bucket_of_lem hash keys buckets k ≡ b). d (sym q ∙ sym e))))
      (same_or_not b bucket))
      (λ (j : ℕ) (h : j < k).
      get_or-set_other w₂ (buckets + n + k) (buckets + j) k 0 (omega arith)
      ∙ get_or-set_other w₁ bucket (buckets + j) (k + 1) 0 (omega arith)
      ∙ get_or-set_other w (buckets + k) (buckets + j) (get_or w bucket 0) 0 (omega arith))
      (get_or-set_other w₂ (buckets + n + k) (buckets + k) k 0 (omega arith)
      ∙ get_or-set_other w₁ bucket (buckets + k) (k + 1) 0 (omega arith)
      ∙ get_or-set_same w (buckets + k) (get_or w bucket 0) 0 (omega arith))
      (λ (j : ℕ) (h : j < k).
      get_or-set_other w₂ (buckets + n + k) (buckets + n + j) k 0 (omega arith)
      ∙ get_or-set_other w₁ bucket (buckets + n + j) (k + 1) 0 (omega arith)
      ∙ get_or-set_other w (buckets + k) (buckets + n + j) (get_or w bucket 0) 0 (omega arith))
      (get_or-set_same w₂ (buckets + n + k) k 0 (omega arith) ∙ sym f)

  pub built-later : (p : ℕ) → p ≡ first_of keys k + 1 → p ≤ k
      → Built hash keys n buckets (k + 1) (set (set w (buckets + k) (get_or w bucket 0)) (buckets + n + k) (p - 1))
  built-later p q a =
      let r = built.room in
      let w₁ = set w (buckets + k) (get_or w bucket 0) in
      let l₁ : length w₁ ≡ length w = length-set w (buckets + k) (get_or w bucket 0) in
      more
      (set w₁ (buckets + n + k) (p - 1))
      (length-set w₁ (buckets + n + k) (p - 1) ∙ l₁)
      (λ (b : ℕ) (h : b < buckets).
      get_or-set_other w₁ (buckets + n + k) b (p - 1) 0 (omega arith)
      ∙ get_or-set_other w (buckets + k) b (get_or w bucket 0) 0 (omega arith)
      ∙ built.chains.heads b h
      ∙ sym (head-later hash keys buckets b k (omega arith)))
      (λ (j : ℕ) (h : j < k).
      get_or-set_other w₁ (buckets + n + k) (buckets + j) (p - 1) 0 (omega arith)
      ∙ get_or-set_other w (buckets + k) (buckets + j) (get_or w bucket 0) 0 (omega arith))
      (get_or-set_other w₁ (buckets + n + k) (buckets + k) (p - 1) 0 (omega arith)
      ∙ get_or-set_same w (buckets + k) (get_or w bucket 0) 0 (omega arith))
      (λ (j : ℕ) (h : j < k).
      get_or-set_other w₁ (buckets + n + k) (buckets + n + j) (p - 1) 0 (omega arith)
      ∙ get_or-set_other w (buckets + k) (buckets + n + j) (get_or w bucket 0) 0 (omega arith))
      (get_or-set_same w₁ (buckets + n + k) (p - 1) 0 (omega arith) ∙ omega arith)

-- a record that is the same as the one before it: no search, and no link
pub built_repeat : (hash : List ℕ → ℕ) (keys : List (List ℕ)) (n buckets k : ℕ) (w : List ℕ) → Built hash keys n buckets k w → k < n → n ≡ length keys → 0 < k → key_at keys (k - 1) ≡ key_at keys k
    → Built hash keys n buckets (k + 1) (set w (buckets + n + k) (get_or w (buckets + n + k - 1) 0))
built_repeat hash keys n buckets k w built l c z q =
    let v = get_or w (buckets + n + k - 1) 0 in
    let r = built.room in
    let f : first_of keys (k - 1) ≡ first_of keys k = first-of-equal keys (k - 1) k q in
    let low : first_of keys k < k = omega (arith, f, first_below keys (k - 1) (omega arith)) in
    let at : buckets + n + k - 1 ≡ buckets + n + (k - 1) = omega arith in
    let e : v ≡ first_of keys k = rw at (built.firsts (k - 1) (omega arith)) ∙ f in
    record {
      room = omega (arith, length-set w (buckets + n + k) v, r);
      chains = record {
        heads = λ (b : ℕ) (h : b < buckets).
            get_or-set_other w (buckets + n + k) b v 0 (omega arith) ∙ built.chains.heads b h ∙ sym (head-later hash keys buckets b k (omega arith));
        links = λ (j : ℕ) (h : j < k + 1) (g : first_of keys j ≡ j).
            ⊎_elim
            (λ (i : j < k). get_or-set_other w (buckets + n + k) (buckets + j) v 0 (omega arith) ∙ built.chains.links j i g)
            (λ (i : j ≡ k). absurd (let y : first_of keys k ≡ k = rw i at g in omega arith))
            (below_or_same j k h);
      };
      firsts = λ (j : ℕ) (h : j < k + 1).
          ⊎_elim
          (λ (i : j < k). get_or-set_other w (buckets + n + k) (buckets + n + j) v 0 (omega arith) ∙ built.firsts j i)
          (λ (i : j ≡ k). rw i (get_or-set_same w (buckets + n + k) v 0 (omega arith) ∙ e))
          (below_or_same j k h);
    }

-- ---- the names in the workspace

module _ (n buckets : ℕ) (w : List ℕ) (r : buckets + n + n ≤ length w) where
  pub length-names : length (names_in n buckets w) ≡ n
  unfolding names_in
  length-names = length-take-le n (drop (buckets + n) w) (omega (arith, length-drop (buckets + n) w))

  pub name-at : (k : ℕ) → k < n → get_or (names_in n buckets w) k 0 ≡ get_or w (buckets + n + k) 0
  unfolding names_in
  name-at k h = get_or-take n (drop (buckets + n) w) k 0 h ∙ get_or-drop (buckets + n) w k 0

  -- a name as it is read
  pub name-is : (k : ℕ) → k < n → get_or (names_in n buckets w) k 0 ≤ k → Named (names_in n buckets w) k (get_or w (buckets + n + k) 0)
  name-is k h low = record { name = sym (name-at k h); low = omega (arith, name-at k h) }

  names-set : (i v : ℕ) → i < buckets + n → names_in n buckets (set w i v) ≡ names_in n buckets w
  unfolding names_in
  names-set i v h = ap (take n) (drop-set-lt (buckets + n) w i v h)

-- ---- an entry more counted

-- when every record is placed the workspace names the firsts
pub tallied-none : (hash : List ℕ → ℕ) (keys : List (List ℕ)) (n buckets : ℕ) (w : List ℕ) → n ≡ length keys → Built hash keys n buckets n w → Tallied (numbers_of keys) n buckets 0 w
tallied-none hash keys n buckets w e b =
    record {
      room = b.room;
      names =
          ext_get_or 0 (names_in n buckets w) (numbers_of keys)
          (length-names n buckets w b.room ∙ e ∙ sym (length-numbers keys))
          (λ (i : ℕ) (h : i < length (names_in n buckets w)).
          let l : i < n = omega (arith, length-names n buckets w b.room) in
          name-at n buckets w b.room i l ∙ b.firsts i l ∙ sym (number_at keys i (omega arith)));
      low = λ (i : ℕ) (h : i < n). omega (arith, number_at keys i (omega arith), first_below keys i (omega arith));
      counts = λ (j : ℕ) (l : j < 0). absurd (omega arith);
    }

-- the names are the workspace's own
pub tallied-own : (ns : List ℕ) (n buckets k : ℕ) (w : List ℕ) → Tallied ns n buckets k w → Tallied (names_in n buckets w) n buckets k w
tallied-own ns n buckets k w t = rw t.names t

pub tallied_for : (ns ms : List ℕ) (n buckets k : ℕ) (w : List ℕ) → ms ≡ ns → Tallied ms n buckets k w → Tallied ns n buckets k w
tallied_for ns ms n buckets k w e t = rw e at t

module _ (ns : List ℕ) (n buckets k : ℕ) (w : List ℕ) (t : Tallied ns n buckets k w) (l : k < n) where
  length-of : length ns ≡ n
  length-of = ap length (sym t.names) ∙ length-names n buckets w t.room

  later : (j : ℕ) → k ≤ j → count j (take k ns) ≡ 0
  later j h = count-later ns (λ (i : ℕ) (g : i < length ns). t.low i (omega (arith, length-of))) k j (omega (arith, length-of)) h

  -- the count of k begun
  begun : (j : ℕ) → j < k + 1 → get_or (set w (buckets + k) 0) (buckets + j) 0 ≡ count j (take k ns)
  begun j h =
      ⊎_elim
      (λ (g : j < k). get_or-set_other w (buckets + k) (buckets + j) 0 0 (omega arith) ∙ t.counts j g)
      (λ (g : j ≡ k). rw g (get_or-set_same w (buckets + k) 0 0 (omega (arith, t.room)) ∙ sym (later k (omega arith))))
      (below_or_same j k h)

  module _ (f : ℕ) (e : f ≡ get_or ns k 0) where
    named-low : f ≤ k
    named-low = omega (arith, t.low k l)

    pub count_fits : n < 18446744073709551616 → Fits w64 (get_or (set w (buckets + k) 0) (buckets + f) 0 + 1)
    count_fits h =
        record { fits = omega (arith, named-low, begun f (omega (arith, named-low)), count_le f (take k ns), length-take-le k ns (omega (arith, length-of))) }

    pub tallied-more : Tallied ns n buckets (k + 1) (set (set w (buckets + k) 0) (buckets + f) (get_or (set w (buckets + k) 0) (buckets + f) 0 + 1))
    tallied-more =
        let r = t.room in
        let low : f ≤ k = named-low in
        let w₁ = set w (buckets + k) 0 in
        let c = get_or w₁ (buckets + f) 0 in
        let l₁ : length w₁ ≡ length w = length-set w (buckets + k) 0 in
        let m : k < length ns = omega (arith, length-of) in
        record {
          room = omega (arith, length-set w₁ (buckets + f) (c + 1));
          names =
              names-set n buckets w₁ (omega arith) (buckets + f) (c + 1) (omega arith)
              ∙ names-set n buckets w r (buckets + k) 0 (omega arith)
              ∙ t.names;
          low = t.low;
          counts = λ (j : ℕ) (h : j < k + 1).
              ⊎_elim
              (λ (x : j ≡ f).
              rw x
              (get_or-set_same w₁ (buckets + f) (c + 1) 0 (omega arith)
              ∙ ap (λ (y : ℕ). y + 1) (begun f (omega arith))
              ∙ sym (count-take_hit f ns k m (sym e))))
              (λ (d : j ≡ f → ⊥).
              get_or-set_other w₁ (buckets + f) (buckets + j) (c + 1) 0 (omega arith)
              ∙ begun j h
              ∙ sym (count-take_miss j ns k m (λ (y : get_or ns k 0 ≡ j). d (sym y ∙ sym e))))
              (same_or_not j f);
        }
