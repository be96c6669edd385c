-- What reading a name ensures, by what is returned.
use Rattle.std.specs.Prelude.{◌≡◌, List, ℕ, ◌+◌, ◌-◌, ◌≤◌, ◌<◌, length, take, drop, Result, Ok, Err}
use Rattle.std.proofs.Math.Option.{none, some}
use Rattle.std.proofs.lemmas.List.Edits.{sets}
use Rattle.format.specs.Bytes.{first_nul}
use Rattle.format.specs.Utf8.{mended}
use Rattle.names.specs.declared.Name.{Name}
use Rattle.names.specs.declared.NameError.{NameError}
use Rattle.names.specs.declared.NameError.TheVariants.{Missing, Full}

-- bytes x are stored in the pool at pos, if there is room; r is the place behind them, which is past the pool's end if there is none
pub record Stored (before after : List ℕ) (pos : ℕ) (x : List ℕ) (r : ℕ) : Type 0 where
  pub same : length after ≡ length before
  pub fits : pos + length x ≤ length before → (r ≡ pos + length x) × (after ≡ sets before pos x)
  pub past : length before < pos + length x → length before < r

-- a name of n bytes ends with a NUL, and is m bytes made valid, which are in the pool
pub record WholeName (d : List ℕ) (at : ℕ) (before after : List ℕ) (place room n m : ℕ) : Type 0 where
  pub found : first_nul (drop at d) ≡ some n
  pub inside : at + n < length d
  pub long : m ≡ length (mended (take n (drop at d)))
  pub fits : place + m ≤ room
  pub pool : after ≡ sets before place (mended (take n (drop at d)))

-- a name ends with a NUL, and there is no room for it
pub record FullName (d : List ℕ) (at place room : ℕ) : Type 0 where
  pub n : ℕ
  pub found : first_nul (drop at d) ≡ some n
  pub long : room - place < length (mended (take n (drop at d)))

-- the message begins with a name, and the pool is stored from its start on
pub record Reads (d before after : List ℕ) (r : Result Name NameError) : Type 0 where
  pub same : length after ≡ length before
  pub whole : (x : Name) → r ≡ Ok x → WholeName d 0 before after 0 (length before) x.length x.stored
  pub full : r ≡ Err Full → FullName d 0 0 (length before)
  pub missing : r ≡ Err Missing → first_nul d ≡ none
