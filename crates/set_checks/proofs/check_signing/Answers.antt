-- `set_checks::check_signing` meets its contract: a set that is not tidy, or that no walk meets in order, is not in signing
-- order; any other is.
use mathlib.Core.Path.{◌∙◌}
use native.Mathlib.Omega.{arith}
use Rattle.bdd.specs.Lent.{set_of}
use Rattle.set_checks.proofs.Verdict.{told_not_tidy, told_tidy, told_options, out_of_order, is_in_order}
use Rattle.set_checks.proofs.Walks.{walkable_root, root_broken, root_met}
use Rattle.set_checks.proofs.check_signing.Goals as goal

pub returns-in_err-n : goal.returns-in_err-n
returns-in_err-n c = c.from_residual.ensures ∙ out_of_order _ (λ h. told_not_tidy _ c.check_tidy.ensures c.in_err-n.was h.tidy)

pub returns-then-size-lt3 : goal.returns-then-size-lt3
returns-then-size-lt3 c =
    is_in_order _ (told_options _ _ c.check_tidy.ensures c.in_ok-n.was)
    (record { tidy = told_tidy _ _ c.check_tidy.ensures c.in_ok-n.was; walk = λ l. absurd (omega arith) })

pub walk-requires : goal.walk-requires
walk-requires c = walkable_root (set_of c.args.set.now) c.if-size-lt3.false (told_tidy _ _ c.check_tidy.ensures c.in_ok-n.was).ordered

pub returns-in_err-walk : goal.returns-in_err-walk
returns-in_err-walk c =
    c.from_residual-in_err-walk.ensures
    ∙ out_of_order (set_of c.args.set.now) (root_broken (set_of c.args.set.now) c.if-size-lt3.false _ (c.walk.ensures c.args.set.now.variable.now) c.in_err-walk.was)

pub returns : goal.returns
returns c =
    let a = set_of c.args.set.now in
    let walk = root_met a c.if-size-lt3.false _ (c.walk.ensures a.variable) _ c.in_ok-walk.was in
    is_in_order a (told_options _ _ c.check_tidy.ensures c.in_ok-n.was) (record { tidy = told_tidy _ _ c.check_tidy.ensures c.in_ok-n.was; walk = λ l. walk })
