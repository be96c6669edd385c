-- A compound's members.
use Rattle.std.specs.Prelude.{◌≡◌, List, ℕ, ◌+◌, ◌-◌, ◌*◌, ◌≤◌, ◌<◌, length}
use Rattle.std.proofs.lemmas.List.Edits.{sets}
use Rattle.format.specs.Datatype.{Members, no_members, member, member_count_of, member_row_count, member_pool, Datatype}
use Rattle.format.specs.Reading.{Reader, got, then, read_members_of}
use Rattle.format.specs.Table.{member_rows}
use Rattle.reading.specs.declared.Limits.{Limits}
use Rattle.reading.specs.declared.Cursor.{Cursor}
use Rattle.reading.specs.Contract.{run, Ready}

-- members behind members
unfoldable pub join_members : Members → Members → Members
join_members no_members ns = ns
join_members (member b o t ms) ns = member b o t (join_members ms ns)

-- the first i members of a compound are read: the answer from here on, behind them, is the answer from the start
pub record Progress (rd : Reader Datatype) (d : List ℕ) (lim : Limits) (v size count : ℕ) (start : Cursor) (i : ℕ) (c : Cursor) (t t' p p' : List ℕ) : Type 0 where
  pub front : Members
  pub is : run (read_members_of rd v size count) d lim start.at start.rows start.pooled
      ≡ then (run (read_members_of rd v size (count - i)) d lim c.at c.rows c.pooled) (λ ms at s r p. got (join_members front ms) at s r p)
  pub counted : member_count_of front ≡ i
  pub inside : i ≤ count
  pub rows_are : c.rows ≡ start.rows + member_row_count front
  pub place_is : c.pooled ≡ start.pooled + length (member_pool front)
  pub table : t' ≡ sets t (start.rows * 16) (member_rows start.pooled front)
  pub pool : p' ≡ sets p start.pooled (member_pool front)
  pub ready : Ready lim c.rows c.pooled t' p'
  pub near : c.at ≤ length d + 7
  pub few : count < 65536
  pub short : length d * 1 < 9223372036854775808
