-- `pick_ends::admit` meets its contract: what each check tells is a law.
use mathlib.Core.List.{[]}
use Rattle.bdd.specs.Lent.{set_of}
use Rattle.bdd.specs.Operations.{working}
use Rattle.checks.proofs.Verdict.{told_not_ordered}
use Rattle.pick_ends.proofs.Admitting.{not_set, few_options, unlisted, few_picks, too_short, long_enough}
use Rattle.pick_ends.proofs.admit.Goals as goal

pub returns-in_default : goal.returns-in_default
returns-in_default c =
    let a = c.args in
    not_set (set_of a.set.now) a.picks.now a.w (working [] a.stack.now a.index.now) (set_of a.spare.now) (told_not_ordered _ c.check_ordered.ensures c.in_default.is)

pub marked-requires : goal.marked-requires
marked-requires c =
    let a = c.args in
    few_options (set_of a.set.now) a.picks.now a.w (working [] a.stack.now a.index.now) (set_of a.spare.now) _ c.check_ordered.ensures c.in-Some.is

pub returns-in-Err : goal.returns-in-Err
returns-in-Err c =
    let a = c.args in
    unlisted (set_of a.set.now) a.picks.now a.w (working [] a.stack.now a.index.now) (set_of a.spare.now) _ c.check_ordered.ensures c.in-Some.is c.marked.ensures c.in-Err.is

pub is_short-requires : goal.is_short-requires
is_short-requires c =
    let a = c.args in
    (few_picks (set_of a.set.now) a.picks.now a.w (working [] a.stack.now a.index.now) (set_of a.spare.now) _ c.check_ordered.ensures c.in-Some.is c.marked.ensures c.in-Ok.is, c.requires)

pub returns-then-is_short : goal.returns-then-is_short
returns-then-is_short c =
    let a = c.args in
    too_short (set_of a.set.now) a.picks.now a.w (working [] a.stack.now a.index.now) (set_of a.spare.now) _ c.check_ordered.ensures c.in-Some.is c.marked.ensures c.in-Ok.is
    c.is_short.ensures c.if-is_short.true

pub returns : goal.returns
returns c =
    let a = c.args in
    long_enough (set_of a.set.now) a.picks.now a.w (working [] a.stack.now a.index.now) (set_of a.spare.now) _ c.check_ordered.ensures c.in-Some.is c.marked.ensures c.in-Ok.is
    c.is_short.ensures c.if-is_short.false
