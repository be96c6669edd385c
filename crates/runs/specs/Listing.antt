-- What the walk that lists runs does for a type that is found.
use Rattle.std.specs.Prelude.{ℕ, ◌+◌, ◌-◌, ◌*◌, ◌<◌, ◌≤◌, min, ◌≡◌, Bool, List, [], ◌∷◌, length, drop, Some}
use Rattle.format.specs.Datatype.{Datatype, Members, type_size_of}
use Rattle.format.specs.Image.{Field, move_fields, field_entries, fields_of, member_fields}
use Rattle.format.specs.Table.{Found, found, bad, type_at, members_at}
use Rattle.rows.specs.Entries.{entry_at, from_entry}
use Rattle.rows.specs.declared.Entry.TheVariants.{Array}
use Rattle.compare.specs.Agreeing.{field_at, Admitted, AdmittedIn}
use Rattle.groups.specs.Runs.{RunList, add_runs, words_of}
use Rattle.runs.specs.declared.Run.{Run}
use Rattle.runs.specs.declared.Runs.{Runs}

-- a run, as the field that it counts as
abbrev pub as_field : Run → Field
as_field g = record { place = g.place; size = g.size; ended = g.ended }

-- the run that is open
abbrev pub open_run : Runs → Field
open_run s = as_field s.last

abbrev pub most_runs : ℕ → ℕ
most_runs n = min n 9223372036854775808

-- runs stand at the end of a workspace of a length, if it has the room
pub record StoredIn (len : ℕ) (rs : List Field) (w : List ℕ) : Type 0 where
  pub long : length w ≡ len
  pub words : 2 * length rs ≤ len → drop (len - 2 * length rs) w ≡ words_of rs

-- the state and a workspace of a length hold a list of runs
pub record Held (len : ℕ) (v : RunList) (s : Runs) (w : List ℕ) : Type 0 where
  pub open_is : open_run s ≡ v.last
  pub low : s.last.size < 4294967296
  pub closed_is : s.closed ≡ most_runs (length v.before)
  pub stored : StoredIn len v.before w

-- a count of closed runs that does not fall, and stops in time
pub record Grows (c c' : ℕ) : Type 0 where
  pub more : c ≤ c'
  pub low : c ≤ 9223372036854775808 → c' ≤ 9223372036854775808

-- the open run stored before those that are
pub record Stores (s : Runs) (w : List ℕ) (r : ℕ) (w' : List ℕ) : Type 0 where
  pub grows : Grows s.closed r
  pub stores : (len : ℕ) (rs : List Field) → s.last.size < 4294967296 → s.closed ≡ most_runs (length rs) → StoredIn len rs w
      → (r ≡ most_runs (length (open_run s ∷ rs))) × StoredIn len (open_run s ∷ rs) w'

-- fields listed, and the row behind them
pub record Lists (fs : List Field) (next : ℕ) (s : Runs) (w : List ℕ) (s' : Runs) (w' : List ℕ) : Type 0 where
  pub row_is : s'.row ≡ next
  pub holds : (len : ℕ) (v : RunList) → Held len v s w → Held len (add_runs v fs) s' w'

-- one field listed
pub record ListsOne (f : Field) (next : ℕ) (s : Runs) (w : List ℕ) (s' : Runs) (w' : List ℕ) : Type 0 where
  pub grows : Grows s.closed s'.closed
  pub lists : Lists (f ∷ []) next s w s' w'

-- if it lies within the limit
pub record ListsField (n : ℕ) (ended : Bool) (limit at next : ℕ) (s : Runs) (w : List ℕ) (s' : Runs) (w' : List ℕ) : Type 0 where
  pub grows : Grows s.closed s'.closed
  pub lists : at + n ≤ limit → Lists (field_at at n ended ∷ []) next s w s' w'

-- of an admitted type whose record lies within the limit
unfoldable pub ListsAs : Found Datatype → (limit at : ℕ) (s : Runs) (w : List ℕ) (s' : Runs) (w' : List ℕ) → Type 0
ListsAs (found t r p) limit at s w s' w' = Admitted t → at + type_size_of t ≤ limit → Lists (move_fields at (fields_of t)) r s w s' w'
ListsAs bad limit at s w s' w' = Unit {0}

-- of the members of an admitted compound, whatever its size
unfoldable pub ListsIn : Found Members → (limit at : ℕ) (s : Runs) (w : List ℕ) (s' : Runs) (w' : List ℕ) → Type 0
ListsIn (found ms r p) limit at s w s' w' = (n : ℕ) → AdmittedIn n ms → at + n ≤ limit → Lists (move_fields at (member_fields ms)) r s w s' w'
ListsIn bad limit at s w s' w' = Unit {0}

-- of n entries of an admitted base, its size apart
unfoldable pub ListsEach : Found Datatype → (stride n limit at : ℕ) (s : Runs) (w : List ℕ) (s' : Runs) (w' : List ℕ) → Type 0
ListsEach (found t r p) stride n limit at s w s' w' =
    Admitted t → stride ≡ type_size_of t → 0 < n → at + n * stride ≤ limit → Lists (move_fields at (field_entries stride (fields_of t) 0 n)) r s w s' w'
ListsEach bad stride n limit at s w s' w' = Unit {0}

-- The same of what is found at a row, wherever its pool bytes begin, if fewer runs than `most` are closed then: else the walk may have stopped
-- before its end.
pub record ListsAt (most levels : ℕ) (table pool : List ℕ) (row limit at : ℕ) (s : Runs) (w : List ℕ) (s' : Runs) (w' : List ℕ) : Type 0 where
  pub grows : Grows s.closed s'.closed
  pub lists : s'.closed < most → (p : ℕ) → ListsAs (type_at levels table pool row p) limit at s w s' w'

pub record ListsMembers (most levels : ℕ) (table pool : List ℕ) (count row limit at : ℕ) (s : Runs) (w : List ℕ) (s' : Runs) (w' : List ℕ) : Type 0 where
  pub grows : Grows s.closed s'.closed
  pub lists : s'.closed < most → (p : ℕ) → ListsIn (members_at (type_at levels table pool) table pool count row p) limit at s w s' w'

pub record ListsEntries (most levels : ℕ) (table pool : List ℕ) (row stride n limit at : ℕ) (s : Runs) (w : List ℕ) (s' : Runs) (w' : List ℕ) : Type 0 where
  pub grows : Grows s.closed s'.closed
  pub lists : s'.closed < most → (p : ℕ) → ListsEach (type_at levels table pool row p) stride n limit at s w s' w'

-- of an array's row, with so many levels left below it
pub record ListsArray (most levels : ℕ) (table pool : List ℕ) (row rank limit at : ℕ) (s : Runs) (w : List ℕ) (s' : Runs) (w' : List ℕ) : Type 0 where
  pub grows : Grows s.closed s'.closed
  pub lists : s'.closed < most → (p : ℕ) → Some (Array rank) ≡ entry_at table pool row p → ListsAs (from_entry (type_at levels table pool) table pool row p (Some (Array rank))) limit at s w s' w'

-- `list_runs`: how many runs, which stand at the workspace's end if it has the room; an answer that is not below `most` says neither
pub record RunsListed (most : ℕ) (rs : List Field) (r : ℕ) (w w' : List ℕ) : Type 0 where
  pub low : r ≤ 9223372036854775808
  pub count : r < most → r ≡ most_runs (length rs)
  pub stored : r < most → StoredIn (length w) rs w'
  pub long : length w' ≡ length w
