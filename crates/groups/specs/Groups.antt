-- Groups of equal keys: the first of each, by number, and how many each group has.
use Rattle.std.specs.Prelude.{ℕ, zero, suc, ◌+◌, ◌≡◌, cond, List, [], ◌∷◌, ◌++◌, map, length, get_or, eqb}
use Rattle.std.proofs.lemmas.List.Edits.{sets}
use Rattle.format.specs.Table.{same_words}

unfoldable pub key_at : List (List ℕ) → ℕ → List ℕ
key_at keys k = get_or keys k []

-- the least number of a key, or the number of keys
unfoldable pub place_of : List (List ℕ) → List ℕ → ℕ
place_of [] x = 0
place_of (y ∷ keys) x = cond (same_words y x) 0 (suc (place_of keys x))

-- the least number whose key is that of k
unfoldable pub first_of : List (List ℕ) → ℕ → ℕ
first_of keys k = place_of keys (key_at keys k)

-- f 0, f 1 and so on: n of them
unfoldable pub listed : {A : Type 0} → (ℕ → A) → ℕ → List A
listed f zero = []
listed f (suc n) = listed f n ++ (f n ∷ [])

-- the first of each of the first m keys; of all
unfoldable pub numbers_to : List (List ℕ) → ℕ → List ℕ
numbers_to keys m = listed (first_of keys) m

unfoldable pub numbers_of : List (List ℕ) → List ℕ
numbers_of keys = numbers_to keys (length keys)

-- how many entries are x
unfoldable pub count : ℕ → List ℕ → ℕ
count x [] = 0
count x (y ∷ l) = cond (eqb y x) (suc (count x l)) (count x l)

-- the numbers below m that name themselves
unfoldable pub firsts_to : List ℕ → ℕ → List ℕ
firsts_to ns zero = []
firsts_to ns (suc m) = cond (eqb (get_or ns m 0) m) (firsts_to ns m ++ (m ∷ [])) (firsts_to ns m)

-- for each of them, how many entries name it
unfoldable pub sizes_to : List ℕ → ℕ → List ℕ
sizes_to ns m = map (λ f. count f ns) (firsts_to ns m)

-- what number m adds to the sizes
unfoldable pub size_at : List ℕ → ℕ → List ℕ
size_at ns m = cond (eqb (get_or ns m 0) m) (count m ns ∷ []) []

-- that stored behind the g sizes so far
pub record Grown (ns : List ℕ) (k g r : ℕ) (l l' : List ℕ) : Type 0 where
  pub next : r ≡ g + length (size_at ns k)
  pub stored : l' ≡ sets l g (size_at ns k)

unfoldable pub firsts_of : List (List ℕ) → List ℕ
firsts_of keys = firsts_to (numbers_of keys) (length keys)

unfoldable pub distinct_of : List (List ℕ) → ℕ
distinct_of keys = length (firsts_of keys)

unfoldable pub sizes_of : List (List ℕ) → List ℕ
sizes_of keys = sizes_to (numbers_of keys) (length keys)
