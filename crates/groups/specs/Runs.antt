-- A type compiled: its fields as runs of bytes, neighbours that count whole made one.
use Rattle.std.specs.Prelude.{ℕ, ◌+◌, ◌*◌, ◌/◌, ◌%◌, ◌≤◌, Bool, false, cond, not, ◌&&◌, List, [], ◌∷◌, eqb}
use Rattle.format.specs.Image.{Field}

-- runs so far, the latest first; the last of them is the one that a field may still lengthen
pub record RunList : Type 0 where
  pub last : Field
  pub before : List Field

-- a field begins where a run ends, and both count whole
unfoldable pub joins : (run field : Field) → Bool
joins g f = not g.ended && (not f.ended && eqb (g.place + g.size) f.place)

unfoldable pub joined : (run field : Field) → Field
joined g f = record { place = g.place; size = g.size + f.size; ended = false }

-- one field more
unfoldable pub add_run_of : RunList → Field → RunList
add_run_of v f = cond (joins v.last f) (record { last = joined v.last f; before = v.before }) (record { last = f; before = v.last ∷ v.before })

unfoldable pub add_runs : RunList → List Field → RunList
add_runs v [] = v
add_runs v (f ∷ fs) = add_runs (add_run_of v f) fs

-- an empty run, with which each list begins
unfoldable pub no_run : Field
no_run = record { place = 0; size = 0; ended = false }

unfoldable pub all_runs : RunList → List Field
all_runs v = v.last ∷ v.before

-- the runs of a list of fields, the latest first
unfoldable pub runs_of : List Field → List Field
runs_of fs = all_runs (add_runs (record { last = no_run; before = [] }) fs)

-- two words a run: its place; twice its size, and one more for a NUL-terminated string
unfoldable pub run_code_of : Field → ℕ
run_code_of f = cond f.ended (f.size * 2 + 1) (f.size * 2)

unfoldable pub words_of : List Field → List ℕ
words_of [] = []
words_of (f ∷ fs) = f.place ∷ run_code_of f ∷ words_of fs

-- the runs that words say
unfoldable pub runs_in : List ℕ → List Field
runs_in [] = []
runs_in (p ∷ []) = []
runs_in (p ∷ c ∷ w) = record { place = p; size = c / 2; ended = eqb (c % 2) 1 } ∷ runs_in w

-- each run lies within n bytes
unfoldable pub Inside : (n : ℕ) → List Field → Type 0
Inside n [] = Unit {0}
Inside n (f ∷ fs) = (f.place + f.size ≤ n) × Inside n fs
