-- `boolean_ops::check_fused_binary_flip_op` meets its contract: refused by the admission, or run.
use Rattle.bdd.proofs.Passing.{refused_as}
use Rattle.boolean_ops.proofs.Drying.{dry_stopped, refused}
use Rattle.boolean_ops.proofs.check_fused_binary_flip_op.Goals as goal

pub returns-in_err-admit : goal.returns-in_err-admit
returns-in_err-admit c = rw (refused_as c.from_residual.ensures.1) (dry_stopped _ _ _ (refused _ _ c.admit.ensures c.in_err-admit.was))
