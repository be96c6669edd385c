-- What the steps of a walk list, of the rows and the record that it goes by.
use Rattle.std.specs.Prelude.{ℕ, List}
use Rattle.runs.specs.Listing.{ListsField, ListsAt, ListsArray, ListsMembers, ListsEntries}
use Rattle.runs.specs.declared.Run.{Run}
use Rattle.runs.specs.declared.Runs.{Runs}
use Rattle.runs.specs.declared.walk.Walk.{Walk}

abbrev pub WalksField : Walk → (f : Run) (next : ℕ) (s : Runs) (w : List ℕ) (s' : Runs) (w' : List ℕ) → Type 0
WalksField v f next s w s' w' = ListsField f.size f.ended v.limit f.place next s w s' w'

abbrev pub WalksType : Walk → (levels row at : ℕ) (s : Runs) (w : List ℕ) (s' : Runs) (w' : List ℕ) → Type 0
WalksType v levels row at s w s' w' = ListsAt v.most levels v.table.now v.pool.now row v.limit at s w s' w'

abbrev pub WalksArray : Walk → (levels row rank at : ℕ) (s : Runs) (w : List ℕ) (s' : Runs) (w' : List ℕ) → Type 0
WalksArray v levels row rank at s w s' w' = ListsArray v.most levels v.table.now v.pool.now row rank v.limit at s w s' w'

abbrev pub WalksMembers : Walk → (levels count row at : ℕ) (s : Runs) (w : List ℕ) (s' : Runs) (w' : List ℕ) → Type 0
WalksMembers v levels count row at s w s' w' = ListsMembers v.most levels v.table.now v.pool.now count row v.limit at s w s' w'

abbrev pub WalksEntries : Walk → (levels row stride n at : ℕ) (s : Runs) (w : List ℕ) (s' : Runs) (w' : List ℕ) → Type 0
WalksEntries v levels row stride n at s w s' w' = ListsEntries v.most levels v.table.now v.pool.now row stride n v.limit at s w s' w'
