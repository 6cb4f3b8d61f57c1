-- `chains::spread` meets its contract: two numbers below 2 ^ 32 have a product below 2 ^ 64.
use mathlib.Core.Path.{refl}
use Rattle.chains.specs.Spread.{scaled}
use Rattle.chains.proofs.spread.Goals as goal

pub returns : goal.returns
unfolding scaled
returns c = refl
