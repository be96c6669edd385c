-- The path of open levels.
use Rattle.std.specs.Prelude.{ℕ, ◌+◌, ◌-◌, ◌≡◌, get_or, set}
use Rattle.table.specs.declared.path.Path.{Path}

-- the row at its end
abbrev pub top_of : Path → ℕ
top_of w = get_or w.rows (w.depth - 1) 0

-- one level further down, at a row: the path's rows with that row set at its depth, and so at the new end
pub record Entered (path : Path) (row : ℕ) (inner : Path) : Type 0 where
  pub rows_are : inner.rows ≡ set path.rows path.depth row
  pub deeper : inner.depth ≡ path.depth + 1
  pub top : top_of inner ≡ row
