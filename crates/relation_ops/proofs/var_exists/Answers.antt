-- `relation_ops::var_exists` meets its contract: it is the operator.
use Rattle.relation_ops.proofs.Relating.{exists_relates}
use Rattle.relation_ops.proofs.var_exists.Goals as goal

pub returns-clause-relates : goal.returns-clause-relates
returns-clause-relates c = exists_relates _ _ (rw c.flipped.ensures at c.numbered_flip_op.ensures.operates)
