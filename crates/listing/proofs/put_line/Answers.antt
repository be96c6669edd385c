use mathlib.Core.Path.{◌∙◌, ap}
use Rattle.std.specs.Prelude.{Option, ℕ}
use Rattle.std.specs.Option.{unwrap_or}
use Rattle.listing.proofs.Lines.{line-put}
use Rattle.listing.proofs.put_line.Goals as goal

pub returns : goal.returns
returns c = line-put _ _ _ _ _ _ _ _ _ (rw c.saturating_sub.ensures at c.size_at-size.ensures) (c.unwrap_or-class.ensures ∙ ap (λ (k : Option ℕ). unwrap_or k 0) c.class_at.ensures) c.put_numbers-behind.ensures c.put_name.ensures
