-- `step::is_flipped` meets its contract: one comparison.
use mathlib.Core.Path.{◌∙◌}
use Rattle.step.proofs.Parts.{flip_is}
use Rattle.step.proofs.is_flipped.Goals as goal

pub returns : goal.returns
returns c = c.eq.ensures ∙ flip_is c.args.flip c.args.v
