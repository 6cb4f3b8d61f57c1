-- `chains::mix` meets its contract: the products of two u32 with the factors fit a u64, and so does their sum.
use mathlib.Core.Path.{refl}
use Rattle.chains.specs.Spread.{mixed}
use Rattle.chains.proofs.mix.Goals as goal

pub returns : goal.returns
unfolding mixed
returns c = refl
