-- `restriction::var_restrict` meets its contract: refused by its own checks, or what both forms do.
use Rattle.std.proofs.Common.{arith}
use Rattle.bdd.specs.Lent.{set_of, output_of}
use Rattle.restriction.specs.Restricts.{working_of}
use Rattle.restriction.proofs.Forms.{within, option_unordered, option_beyond, option_checked, option_ran}
use Rattle.restriction.proofs.var_restrict.Goals as goal

pub returns-in_default-clause-restricts : goal.returns-in_default-clause-restricts
returns-in_default-clause-restricts c =
    let a = c.args in
    option_unordered (set_of a.set.now) a.v a.value (output_of a.out.now) (working_of a.work.now) c.check_ordered.ensures c.in_default.is

pub returns-then-n-v-clause-restricts : goal.returns-then-n-v-clause-restricts
returns-then-n-v-clause-restricts c =
    let a = c.args in
    option_beyond (set_of a.set.now) a.v a.value (output_of a.out.now) (working_of a.work.now) c.check_ordered.ensures c.in-Some.is c.if-n-v.true

pub bounds-places-v : goal.bounds-places-v
bounds-places-v c = omega (arith, within (set_of c.args.set.now) c.check_ordered.ensures c.in-Some.is, c.if-n-v.false)

pub perform-requires : goal.perform-requires
perform-requires c =
    let a = c.args in
    option_checked (set_of a.set.now) a.v a.value (output_of a.out.now) (working_of a.work.now) c.check_ordered.ensures c.in-Some.is
    c.if-n-v.false c.digit.ensures c.front-values.ensures

pub returns-clause-restricts : goal.returns-clause-restricts
returns-clause-restricts c =
    let a = c.args in
    option_ran (set_of a.set.now) a.v a.value (output_of a.out.now) (working_of a.work.now) c.check_ordered.ensures c.in-Some.is
    c.if-n-v.false c.digit.ensures c.front-values.ensures c.perform.ensures.restricts
