-- `restriction::restrict` meets its contract: refused by its own checks, or what both forms do.
use Rattle.bdd.specs.Lent.{set_of, output_of}
use Rattle.restriction.specs.Restricts.{working_of}
use Rattle.restriction.proofs.Forms.{list_unordered, list_bad, list_checked, list_ran}
use Rattle.restriction.proofs.restrict.Goals as goal

pub returns-in_default-clause-restricts : goal.returns-in_default-clause-restricts
returns-in_default-clause-restricts c =
    let a = c.args in
    list_unordered (set_of a.set.now) a.values.now (output_of a.out.now) (working_of a.work.now) c.check_ordered.ensures c.in_default.is

pub returns-then-not-are_values-clause-restricts : goal.returns-then-not-are_values-clause-restricts
returns-then-not-are_values-clause-restricts c =
    let a = c.args in
    list_bad (set_of a.set.now) a.values.now (output_of a.out.now) (working_of a.work.now) c.check_ordered.ensures c.in-Some.is (cc)

pub perform-requires : goal.perform-requires
perform-requires c =
    let a = c.args in
    list_checked (set_of a.set.now) a.values.now (output_of a.out.now) (working_of a.work.now) c.check_ordered.ensures c.in-Some.is (cc)

pub returns-clause-restricts : goal.returns-clause-restricts
returns-clause-restricts c =
    let a = c.args in
    list_ran (set_of a.set.now) a.values.now (output_of a.out.now) (working_of a.work.now) c.check_ordered.ensures c.in-Some.is (cc)
    c.perform.ensures.restricts
