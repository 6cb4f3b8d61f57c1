-- `restriction::exploration::links_of` meets its contract: by the value of the entry's option.
use Rattle.std.proofs.Common.{rules}
use Rattle.restriction.proofs.Looking.{leads_free, leads_on, leads_off}
use Rattle.restriction.proofs.exploration.links_of.Goals as goal

pub returns-in-2 : goal.returns-in-2
returns-in-2 c = leads_free _ _ _ c.requires.option c.in-2.is

pub returns-in-1 : goal.returns-in-1
returns-in-1 c = leads_on _ _ _ c.requires.option c.in-1.is

pub returns-in_default : goal.returns-in_default
returns-in_default c = leads_off _ _ _ c.requires.option (search rules) (search rules)
