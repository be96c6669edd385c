-- The type at the end of a path, by its row, which is not tested again.
use Rattle.std.proofs.Common.{◌≡◌, ℕ, suc, ◌-◌, ◌≤◌, List, sym, ◌∙◌, arith}
use Rattle.format.specs.Datatype.{Datatype}
use Rattle.format.specs.Table.{Found, bad, type_at}
use Rattle.std.specs.Prelude.{Option}
use Rattle.rows.specs.Entries.{entry_at, from_entry, RowSays}
use Rattle.rows.specs.declared.Entry.{Entry}
use Rattle.rows.proofs.Known.{claim_of-type}

-- a path of so many levels leaves others
level : (depth : ℕ) → depth ≤ 32 → 33 - depth ≡ suc (32 - depth)
level depth h = omega arith

pub above : (depth : ℕ) → depth ≤ 32 → 33 - depth ≡ 0 → ⊥
above depth h e = omega arith

pub below : (depth : ℕ) → 33 - depth - 1 ≡ 32 - depth
below depth = omega arith

-- a claim that says nothing where no type is found
pub by_row : (table pool : List ℕ) (depth row : ℕ) {e : Option Entry} → depth ≤ 32 → RowSays table row e → (C : Found Datatype → Type 0) → C bad → (p : ℕ) {f : Option Entry} → e ≡ f
    → (f ≡ entry_at table pool row p → C (from_entry (type_at (32 - depth) table pool) table pool row p f)) → C (type_at (33 - depth) table pool row p)
by_row table pool depth row {e = e} h s C n p i v =
    rw (level depth h) (claim_of-type table pool row p C n (32 - depth) e (s.is pool p) (λ q. rw i (v (sym i ∙ q))))
