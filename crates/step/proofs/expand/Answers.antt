-- `step::expand` meets its contract: each side is moved by the asked option, swapped where that is flipped.
use Rattle.step.proofs.Parts.{joined_leads}
use Rattle.step.proofs.expand.Goals as goal

pub returns : goal.returns
returns c table = joined_leads _ _ _ _ _ _ c.asked-ask.ensures c.sides-l.ensures c.sides-r.ensures c.joined.ensures
