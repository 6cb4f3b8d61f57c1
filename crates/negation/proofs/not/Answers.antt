-- `negation::not` meets its contract: a set not ordered is refused, false and true are made by their makers, and
-- any other set by `not_kept`.
use mathlib.Core.Path.{refl, ap}
use mathlib.Core.Bool.{not}
use native.Mathlib.Omega.{arith}
use Rattle.bdd.specs.Jobs.{true_array, false_array}
use Rattle.bdd.specs.declared.Refusal.TheVariants.{LeftNotOrdered}
use Rattle.bdd.proofs.Makers.{set_room, set_not_ordered, makes_refused, makes_same, by_room}
use Rattle.bdd.proofs.Negation.{not_false_array, not_true_array}
use Rattle.bdd.proofs.Ordered.{ordered_open}
use Rattle.checks.proofs.Verdict.{told_not_ordered, told_ordered, told_options}
use Rattle.negation.proofs.Kept.{terminal_negation}
use Rattle.negation.proofs.not.Goals as goal

pub returns-in_default-clause-made : goal.returns-in_default-clause-made
returns-in_default-clause-made c = makes_refused _ _ LeftNotOrdered refl (set_not_ordered (ap not (told_not_ordered _ c.check_ordered.ensures c.in_default.is)))

pub returns-in-1-clause-made : goal.returns-in-1-clause-made
returns-in-1-clause-made c =
    let told = c.check_ordered.ensures in
    let is = c.in-Some.is in
    terminal_negation _ _ true_array (told_ordered _ _ told is) (told_options _ _ told is) (not_false_array _ c.in-1.is) c.mk_true.ensures.made

pub returns-in-2-clause-made : goal.returns-in-2-clause-made
returns-in-2-clause-made c =
    let told = c.check_ordered.ensures in
    let is = c.in-Some.is in
    terminal_negation _ _ false_array (told_ordered _ _ told is) (told_options _ _ told is) (not_true_array _ c.in-2.is) c.mk_false.ensures.made

pub not_kept-requires : goal.not_kept-requires
not_kept-requires c =
    let o = ordered_open _ (told_ordered _ _ c.check_ordered.ensures c.in-Some.is) in
    omega arith

pub returns-in_default-len-clause-made : goal.returns-in_default-len-clause-made
returns-in_default-len-clause-made c =
    let o = told_ordered _ _ c.check_ordered.ensures c.in-Some.is in
    makes_same by_room (set_room refl) (set_room (ap not o)) refl c.not_kept.ensures.made
