-- `index_run::fold` meets its contract: product and sum fit a u64.
use mathlib.Core.Path.{refl}
use Rattle.index_run.specs.Index.{folded}
use Rattle.index_run.proofs.fold.Goals as goal

pub returns : goal.returns
unfolding folded
returns c = refl
