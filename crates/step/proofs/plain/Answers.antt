-- `step::plain` meets its contract: each side is moved by the asked option.
use Rattle.step.proofs.Parts.{joined_leads}
use Rattle.step.proofs.plain.Goals as goal

pub returns : goal.returns
returns c table = joined_leads _ _ _ _ _ _ c.asked-ask.ensures c.straight-l.ensures c.straight-r.ensures c.joined.ensures
