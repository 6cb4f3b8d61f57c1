-- `operators::numbered_flip_op_with_limit` meets its contract: the number's answers are taken, or refused with 1.
use mathlib.Core.Path.{refl, sym, ap, ◌∙◌}
use mathlib.Core.Bool.{not}
use Rattle.op_function.proofs.Sixteen.{told_operator, told_no_operator}
use Rattle.bdd.proofs.Refusing.{first_in_list}
use Rattle.boolean_ops.proofs.Operating.{stopped}
use Rattle.operators.proofs.Numbers.{is_operator, no_operator}
use Rattle.operators.proofs.numbered_flip_op_with_limit.Goals as goal

pub returns-in_default-clause-operates : goal.returns-in_default-clause-operates
unfolding first_in_list
returns-in_default-clause-operates c =
    let none = told_no_operator c.args.p (sym c.in_default.is ∙ c.operator.ensures) in
    stopped _ _ _ (record { first = rw (ap not (no_operator c.args.p none)); keeps = refl })

pub returns-clause-operates : goal.returns-clause-operates
returns-clause-operates c =
    let t = told_operator c.args.p _ (sym c.in-Some.is ∙ c.operator.ensures) in
    rw (is_operator _ t.below ∙ sym t.answers) c.fused_binary_flip_op_with_limit.ensures.operates
