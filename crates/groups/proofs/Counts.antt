-- Laws of counts and of the sizes of groups.
use Prim.Native.Nat.{ℕ, zero, suc, ◌+◌, ◌<◌, ◌≤◌}
use mathlib.Core.Path.{◌≡◌, refl, sym, ap, ◌∙◌}
use mathlib.Core.Logic.{⊎_elim}
use mathlib.Core.Bool.{true, false}
use mathlib.Core.List.{List, [], ◌∷◌, ◌++◌, map, append-nil}
use native.Mathlib.Omega.{arith}
use native.Mathlib.Numerals.{add-one}
use lib.ListN.{length, get_or, take, length-append, length-map}
use lib.Seq.{take-suc, take_all}
use lib.Dec.{eqb}
use borrow.Author.Tests.{eq-eqb, ne_eqb}
use Rattle.groups.specs.Groups.{first_of, numbers_of, count, firsts_to, sizes_to, size_at, firsts_of, distinct_of, sizes_of}
use Rattle.format.proofs.Booleans.{true_or_false}
use Rattle.groups.proofs.Cases.{same_or_not, below_or_same}
use Rattle.groups.proofs.Firsts.{first_below, first-first, length-numbers, number_at}

-- ---- counts

pub count_append : (x : ℕ) (s t : List ℕ) → count x (s ++ t) ≡ count x s + count x t
unfolding count
count_append x [] t = omega arith
count_append x (y ∷ s) t =
    ⊎_elim
    (λ (e : eqb y x ≡ true). rw e (omega (arith, count_append x s t)))
    (λ (e : eqb y x ≡ false). rw e (count_append x s t))
    (true_or_false (eqb y x))

pub count_hit : (x y : ℕ) (l : List ℕ) → y ≡ x → count x (l ++ (y ∷ [])) ≡ count x l + 1
count_hit x y l e =
    let o : count x (y ∷ []) ≡ 1 = unfold count in rw (eq-eqb y x e) in
    omega (arith, count_append x l (y ∷ []))

pub count_miss : (x y : ℕ) (l : List ℕ) → (y ≡ x → ⊥) → count x (l ++ (y ∷ [])) ≡ count x l
count_miss x y l d =
    let o : count x (y ∷ []) ≡ 0 = unfold count in rw (ne_eqb y x d) in
    omega (arith, count_append x l (y ∷ []))

pub count_le : (x : ℕ) (l : List ℕ) → count x l ≤ length l
unfolding count
count_le x [] = omega arith
count_le x (y ∷ l) =
    ⊎_elim
    (λ (e : eqb y x ≡ true). rw e (omega (arith, count_le x l)))
    (λ (e : eqb y x ≡ false). rw e (omega (arith, count_le x l)))
    (true_or_false (eqb y x))

take_more : (ns : List ℕ) (k : ℕ) → k < length ns → take (k + 1) ns ≡ take k ns ++ (get_or ns k 0 ∷ [])
take_more ns k h = rw add-one (take-suc ns k 0 h)

module _ (x : ℕ) (ns : List ℕ) (k : ℕ) (h : k < length ns) where
  pub count-take_hit : get_or ns k 0 ≡ x → count x (take (k + 1) ns) ≡ count x (take k ns) + 1
  count-take_hit e = ap (count x) (take_more ns k h) ∙ count_hit x (get_or ns k 0) (take k ns) e

  pub count-take_miss : (get_or ns k 0 ≡ x → ⊥) → count x (take (k + 1) ns) ≡ count x (take k ns)
  count-take_miss d = ap (count x) (take_more ns k h) ∙ count_miss x (get_or ns k 0) (take k ns) d

-- entries name no number above their own
pub count-later : (ns : List ℕ) → ((i : ℕ) → i < length ns → get_or ns i 0 ≤ i) → (k j : ℕ) → k ≤ length ns → k ≤ j → count j (take k ns) ≡ 0
count-later ns f zero j h g = unfold count in refl
count-later ns f (suc k) j h g =
    rw (← (add-one k))
    (count-take_miss j ns k (omega arith) (λ (e : get_or ns k 0 ≡ j). omega (arith, f k (omega arith)))
    ∙ count-later ns f k j (omega arith) (omega arith))

-- ---- the numbers that name themselves

module _ (ns : List ℕ) (m : ℕ) where
  pub firsts_hit : get_or ns m 0 ≡ m → firsts_to ns (m + 1) ≡ firsts_to ns m ++ (m ∷ [])
  unfolding firsts_to
  firsts_hit e = rw (add-one, eq-eqb (get_or ns m 0) m e)

  pub firsts_miss : (get_or ns m 0 ≡ m → ⊥) → firsts_to ns (m + 1) ≡ firsts_to ns m
  unfolding firsts_to
  firsts_miss d = rw (add-one, ne_eqb (get_or ns m 0) m d)

  pub length_hit : get_or ns m 0 ≡ m → length (firsts_to ns (m + 1)) ≡ length (firsts_to ns m) + 1
  length_hit e = ap length (firsts_hit e) ∙ length-append (firsts_to ns m) (m ∷ [])

  pub length_miss : (get_or ns m 0 ≡ m → ⊥) → length (firsts_to ns (m + 1)) ≡ length (firsts_to ns m)
  length_miss d = ap length (firsts_miss d)

  length-next : (length (firsts_to ns m) ≤ length (firsts_to ns (suc m))) × (length (firsts_to ns (suc m)) ≤ length (firsts_to ns m) + 1)
  length-next =
      rw (← (add-one m))
      (⊎_elim
      (λ (e : get_or ns m 0 ≡ m). (omega (arith, length_hit e), omega (arith, length_hit e)))
      (λ (d : get_or ns m 0 ≡ m → ⊥). (omega (arith, length_miss d), omega (arith, length_miss d)))
      (same_or_not (get_or ns m 0) m))

pub firsts_le : (ns : List ℕ) (m : ℕ) → length (firsts_to ns m) ≤ m
firsts_le ns zero = unfold firsts_to in omega arith
firsts_le ns (suc m) = omega (arith, firsts_le ns m, (length-next ns m).1)

pub firsts_mono : (ns : List ℕ) (m n : ℕ) → m ≤ n → length (firsts_to ns m) ≤ length (firsts_to ns n)
firsts_mono ns m zero h = let e : m ≡ 0 = omega arith in rw e (omega arith)
firsts_mono ns m (suc n) h =
    ⊎_elim
    (λ (l : m < suc n). omega (arith, firsts_mono ns m n (omega arith), (length-next ns n).0))
    (λ (e : m ≡ suc n). rw e (omega arith))
    (below_or_same m (suc n) (omega arith))

pub map_append : (f : ℕ → ℕ) (s t : List ℕ) → map f (s ++ t) ≡ map f s ++ map f t
map_append f [] t = refl
map_append f (x ∷ s) t = ap (λ (l : List ℕ). f x ∷ l) (map_append f s t)

-- what a number adds
module _ (ns : List ℕ) (m : ℕ) where
  pub size-here : get_or ns m 0 ≡ m → size_at ns m ≡ count m ns ∷ []
  unfolding size_at
  size-here e = rw (eq-eqb (get_or ns m 0) m e)

  pub size-not : (get_or ns m 0 ≡ m → ⊥) → size_at ns m ≡ []
  unfolding size_at
  size-not d = rw (ne_eqb (get_or ns m 0) m d)

  pub sizes-next : sizes_to ns (m + 1) ≡ sizes_to ns m ++ size_at ns m
  unfolding sizes_to
  sizes-next =
      ⊎_elim
      (λ (e : get_or ns m 0 ≡ m). rw (firsts_hit ns m e, size-here e) (map_append (λ (x : ℕ). count x ns) (firsts_to ns m) (m ∷ [])))
      (λ (d : get_or ns m 0 ≡ m → ⊥). rw (firsts_miss ns m d, size-not d) (sym (append-nil (map (λ (x : ℕ). count x ns) (firsts_to ns m)))))
      (same_or_not (get_or ns m 0) m)

  pub length-sizes : length (sizes_to ns m) ≡ length (firsts_to ns m)
  unfolding sizes_to
  length-sizes = length-map (firsts_to ns m) (λ (f : ℕ). count f ns)

pub firsts-next : (ns : List ℕ) (m : ℕ) → length (firsts_to ns (m + 1)) ≡ length (firsts_to ns m) + length (size_at ns m)
firsts-next ns m =
    sym (length-sizes ns (m + 1))
    ∙ ap length (sizes-next ns m)
    ∙ length-append (sizes_to ns m) (size_at ns m)
    ∙ ap (λ (x : ℕ). x + length (size_at ns m)) (length-sizes ns m)

-- ---- the sizes of the groups

get_d_map-at : (f : ℕ → ℕ) (l : List ℕ) (i : ℕ) → i < length l → get_or (map f l) i 0 ≡ f (get_or l i 0)
get_d_map-at f [] i h = absurd (omega arith)
get_d_map-at f (x ∷ l) zero h = refl
get_d_map-at f (x ∷ l) (suc i) h = get_d_map-at f l i (omega arith)

-- a size is how many entries name the group's first
pub size-at : (keys : List (List ℕ)) (g : ℕ) → g < distinct_of keys → get_or (sizes_of keys) g 0 ≡ count (get_or (firsts_of keys) g 0) (numbers_of keys)
unfolding sizes_of sizes_to firsts_of distinct_of
size-at keys g h = get_d_map-at (λ (f : ℕ). count f (numbers_of keys)) (firsts_to (numbers_of keys) (length keys)) g h

unfoldable pub sum : List ℕ → ℕ
sum [] = 0
sum (x ∷ l) = x + sum l

-- how many of the numbers below m that name themselves are x: one if x is such a number
count-firsts-later : (ns : List ℕ) (x m : ℕ) → m ≤ x → count x (firsts_to ns m) ≡ 0
count-firsts-later ns x zero h = unfold firsts_to count in refl
count-firsts-later ns x (suc m) h =
    rw (← (add-one m))
    (⊎_elim
    (λ (e : get_or ns m 0 ≡ m). ap (count x) (firsts_hit ns m e) ∙ count_miss x m (firsts_to ns m) (λ (q : m ≡ x). omega arith) ∙ count-firsts-later ns x m (omega arith))
    (λ (d : get_or ns m 0 ≡ m → ⊥). ap (count x) (firsts_miss ns m d) ∙ count-firsts-later ns x m (omega arith))
    (same_or_not (get_or ns m 0) m))

count-firsts-one : (ns : List ℕ) (x m : ℕ) → get_or ns x 0 ≡ x → x < m → count x (firsts_to ns m) ≡ 1
count-firsts-one ns x zero f h = absurd (omega arith)
count-firsts-one ns x (suc m) f h =
    rw (← (add-one m))
    (⊎_elim
    (λ (l : x < m).
    ⊎_elim
    (λ (e : get_or ns m 0 ≡ m). ap (count x) (firsts_hit ns m e) ∙ count_miss x m (firsts_to ns m) (λ (q : m ≡ x). omega arith) ∙ count-firsts-one ns x m f l)
    (λ (d : get_or ns m 0 ≡ m → ⊥). ap (count x) (firsts_miss ns m d) ∙ count-firsts-one ns x m f l)
    (same_or_not (get_or ns m 0) m))
    (λ (e : x ≡ m).
    ap (count x) (firsts_hit ns m (rw (← e) f))
    ∙ count_hit x m (firsts_to ns m) (sym e)
    ∙ ap (λ (n : ℕ). n + 1) (count-firsts-later ns x m (omega arith)))
    (below_or_same x m (omega arith)))

-- one entry more adds one wherever it is named
sum_more : (l : List ℕ) (y : ℕ) (fs : List ℕ) → sum (map (λ (f : ℕ). count f (l ++ (y ∷ []))) fs) ≡ sum (map (λ (f : ℕ). count f l) fs) + count y fs
unfolding sum count
sum_more l y [] = omega arith
sum_more l y (f ∷ fs) =
    ⊎_elim
    (λ (e : f ≡ y). rw (eq-eqb f y e, count_hit f y l (sym e), sum_more l y fs) (omega arith))
    (λ (d : f ≡ y → ⊥). rw (ne_eqb f y d, count_miss f y l (λ (q : y ≡ f). d (sym q)), sum_more l y fs) (omega arith))
    (same_or_not f y)

sum-none : (fs : List ℕ) → sum (map (λ (f : ℕ). count f []) fs) ≡ 0
unfolding sum count
sum-none [] = refl
sum-none (f ∷ fs) = rw (sum-none fs)

module _ (ns : List ℕ) (own : (i : ℕ) → i < length ns → (get_or ns i 0 < length ns) × (get_or ns (get_or ns i 0) 0 ≡ get_or ns i 0)) where
  sum-taken : (k : ℕ) → k ≤ length ns → sum (map (λ (f : ℕ). count f (take k ns)) (firsts_to ns (length ns))) ≡ k
  sum-taken zero h = sum-none (firsts_to ns (length ns))
  sum-taken (suc k) h =
      let o = own k (omega arith) in
      ap (λ (l : List ℕ). sum (map (λ (f : ℕ). count f l) (firsts_to ns (length ns)))) (take-suc ns k 0 (omega arith))
      ∙ sum_more (take k ns) (get_or ns k 0) (firsts_to ns (length ns))
      ∙ omega (arith, sum-taken k (omega arith), count-firsts-one ns (get_or ns k 0) (length ns) o.1 o.0)

-- the sizes add up to the number of keys
pub sizes_add_up : (keys : List (List ℕ)) → sum (sizes_of keys) ≡ length keys
unfolding sizes_of sizes_to
sizes_add_up keys =
    let ns = numbers_of keys in
    let l : length (numbers_of keys) ≡ length keys = length-numbers keys in
    let own : (i : ℕ) → i < length (numbers_of keys) → (get_or (numbers_of keys) i 0 < length (numbers_of keys)) × (get_or (numbers_of keys) (get_or (numbers_of keys) i 0) 0 ≡ get_or (numbers_of keys) i 0) =
    λ (i : ℕ) (h : i < length (numbers_of keys)).
    let b : i < length keys = omega arith in
    let f : first_of keys i ≤ i = first_below keys i b in
    rw (number_at keys i b) (omega arith, number_at keys (first_of keys i) (omega arith) ∙ first-first keys i b) in
    let all = sum-taken (numbers_of keys) own (length (numbers_of keys)) (omega arith) in
    rw (← l) (rw (take_all (length (numbers_of keys)) (numbers_of keys) (omega arith)) at all)
