-- Signing order implies tidy, and tidy implies ordered.
use mathlib.Core.Path.{◌≡◌}
use mathlib.Core.Bool.{Bool, true}
use Rattle.bdd.specs.Array.{Runs, ordered, tidy}
use Rattle.bdd.specs.Signed.{in_order}
use Rattle.bdd.proofs.Ordered.{ordered_close}
use Rattle.bdd.proofs.Reduction.{tidy_open, tidy_close}
use Rattle.bdd.proofs.Converse.{in_order_open}

pub order_tidy : (first : Bool) (a : Runs) → in_order first a ≡ true → tidy a ≡ true
order_tidy first a h = tidy_close a (in_order_open first a h).tidy

pub tidy_ordered : (a : Runs) → tidy a ≡ true → ordered a ≡ true
tidy_ordered a h = ordered_close a (tidy_open a h).ordered
