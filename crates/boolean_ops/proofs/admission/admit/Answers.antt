-- `boolean_ops::admission::admit` meets its contract: what each check tells, in the order of the refusals.
use mathlib.Core.Path.{sym, ◌∙◌}
use borrow.Author.Tests.{not-true, not-false}
use Rattle.checks.proofs.Verdict.{told_ordered, told_not_ordered, told_options}
use Rattle.boolean_ops.proofs.Admitting.{bad_table, left_bad, right_bad, counts_differ, no_such_option, stack_too_short, all_pass}
use Rattle.boolean_ops.proofs.admission.admit.Goals as goal

pub returns-then-not-check_table : goal.returns-then-not-check_table
returns-then-not-check_table c = bad_table _ _ _ (sym c.check_table.ensures ∙ not-true _ c.if-not-check_table.true-raw)

pub returns-in_default : goal.returns-in_default
returns-in_default c =
    let table = sym c.check_table.ensures ∙ not-false _ c.if-not-check_table.false-raw in
    left_bad _ _ _ table (told_not_ordered _ c.check_ordered.ensures c.in_default.is)

pub returns-in_default-check_ordered : goal.returns-in_default-check_ordered
returns-in_default-check_ordered c =
    let table = sym c.check_table.ensures ∙ not-false _ c.if-not-check_table.false-raw in
    let left = c.check_ordered.ensures in
    right_bad _ _ _ table (told_ordered _ _ left c.in-Some.is) (told_options _ _ left c.in-Some.is)
    (told_not_ordered _ c.check_ordered-2.ensures c.in_default-check_ordered.is)

pub returns-then-n-m : goal.returns-then-n-m
returns-then-n-m c =
    let table = sym c.check_table.ensures ∙ not-false _ c.if-not-check_table.false-raw in
    let left = c.check_ordered.ensures in
    let right = c.check_ordered-2.ensures in
    counts_differ _ _ _ table (told_ordered _ _ left c.in-Some.is) (told_options _ _ left c.in-Some.is)
    (told_ordered _ _ right c.in-Some-check_ordered.is) (told_options _ _ right c.in-Some-check_ordered.is) c.if-n-m.true

pub returns-then-are_beyond : goal.returns-then-are_beyond
returns-then-are_beyond c =
    let table = sym c.check_table.ensures ∙ not-false _ c.if-not-check_table.false-raw in
    let left = c.check_ordered.ensures in
    let right = c.check_ordered-2.ensures in
    no_such_option _ _ _ table (told_ordered _ _ left c.in-Some.is) (told_options _ _ left c.in-Some.is)
    (told_ordered _ _ right c.in-Some-check_ordered.is) (told_options _ _ right c.in-Some-check_ordered.is) c.if-n-m.false
    (sym c.are_beyond.ensures ∙ c.if-are_beyond.true)

pub returns-then-places-n : goal.returns-then-places-n
returns-then-places-n c =
    let table = sym c.check_table.ensures ∙ not-false _ c.if-not-check_table.false-raw in
    let left = c.check_ordered.ensures in
    let right = c.check_ordered-2.ensures in
    stack_too_short _ _ _ table (told_ordered _ _ left c.in-Some.is) (told_options _ _ left c.in-Some.is)
    (told_ordered _ _ right c.in-Some-check_ordered.is) (told_options _ _ right c.in-Some-check_ordered.is) c.if-n-m.false
    (sym c.are_beyond.ensures ∙ c.if-are_beyond.false) c.if-places-n.true

pub returns : goal.returns
returns c =
    let table = sym c.check_table.ensures ∙ not-false _ c.if-not-check_table.false-raw in
    let left = c.check_ordered.ensures in
    let right = c.check_ordered-2.ensures in
    all_pass _ _ _ table (told_ordered _ _ left c.in-Some.is) (told_options _ _ left c.in-Some.is)
    (told_ordered _ _ right c.in-Some-check_ordered.is) (told_options _ _ right c.in-Some-check_ordered.is) c.if-n-m.false
    (sym c.are_beyond.ensures ∙ c.if-are_beyond.false) c.if-places-n.false
