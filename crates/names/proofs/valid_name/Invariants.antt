use mathlib.Core.Path.{◌≡◌}
use mathlib.Core.Bool.{◌&&◌}
use lib.ListN.{drop}
use Rattle.format.specs.Message.{no_nul}
use Rattle.format.specs.Utf8.{well_formed}
use Rattle.names.specs.Pass.{lead_of, Sized}
use Rattle.names.proofs.Validity.{valid_of}
use Rattle.names.proofs.valid_name.Given as goal

abbrev pub invariant-loop-b : goal.invariant-loop-b
invariant-loop-b l = Sized l.next × ((no_nul l.name && well_formed l.name) ≡ valid_of (lead_of l.next) (drop l.b-index l.rest))
