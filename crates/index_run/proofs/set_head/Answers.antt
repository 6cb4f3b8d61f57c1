-- `index_run::set_head` meets its contract: the upper half of a number is another.
use mathlib.Core.Path.{refl}
use Rattle.index_run.specs.Index.{with_head}
use Rattle.index_run.proofs.set_head.Goals as goal

pub returns : goal.returns
unfolding with_head
returns c = refl
