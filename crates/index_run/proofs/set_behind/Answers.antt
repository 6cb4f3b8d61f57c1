-- `index_run::set_behind` meets its contract: the lower half of a number is another, and the sum of the halves fits.
use mathlib.Core.Path.{refl}
use Rattle.index_run.specs.Index.{with_behind}
use Rattle.index_run.proofs.set_behind.Goals as goal

pub returns : goal.returns
unfolding with_behind
returns c = refl
