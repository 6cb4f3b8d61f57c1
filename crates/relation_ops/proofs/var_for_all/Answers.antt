-- `relation_ops::var_for_all` meets its contract: it is the operator.
use Rattle.relation_ops.proofs.Relating.{for_all_relates}
use Rattle.relation_ops.proofs.var_for_all.Goals as goal

pub returns-clause-relates : goal.returns-clause-relates
returns-clause-relates c = for_all_relates _ _ (rw c.flipped.ensures at c.numbered_flip_op.ensures.operates)
