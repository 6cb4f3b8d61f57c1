-- `relation_ops::option_told` meets its contract.
use mathlib.Core.Path.{sym, ◌∙◌}
use Rattle.relation_ops.proofs.Relating.{option_for_3, others_stay}
use Rattle.relation_ops.proofs.option_told.Goals as goal

pub returns-in-Err : goal.returns-in-Err
returns-in-Err c = option_for_3 _ _ c.in-Err.is (sym c.from.ensures ∙ c.if-from-eq3.true)

pub returns-in_default : goal.returns-in_default
returns-in_default c = others_stay _ _ c.in-Err.is (λ e. c.if-from-eq3.false (c.from.ensures ∙ e))
