-- `relation_ops::var_select` meets its contract: it is the and with the literal, 3 told as 5.
use Rattle.relation_ops.proofs.Relating.{select_relates}
use Rattle.relation_ops.proofs.var_select.Goals as goal

pub returns-clause-relates : goal.returns-clause-relates
returns-clause-relates c = select_relates _ _ _ c.options_of-n.ensures c.link_of.ensures c.link_of-2.ensures c.numbered_op.ensures.operates c.option_told.ensures
