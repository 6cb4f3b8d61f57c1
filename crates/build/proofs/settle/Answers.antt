-- `build::settle` meets its contract: the entry is placed, and the pair, which was not known, is.
use mathlib.Core.Bool.{true}
use Rattle.bdd.specs.Lent.{output_of}
use Rattle.bdd.specs.Signed.{decide, high_first}
use Rattle.index_run.proofs.Placing.{placing_told}
use Rattle.build.proofs.settle.Goals as goal

pub returns-in_err-placed-clause-placing : goal.returns-in_err-placed-clause-placing
returns-in_err-placed-clause-placing c before es o =
    let e = c.args.e in
    let put = c.place in
    rw c.from_residual.ensures
    (placing_told c.args.most before es (decide high_first e.variable e.high e.low es) put.new.index (output_of put.new.out) c.args.next c.in_err-placed.was
    (put.ensures.placing true before es o))

pub returns-clause-placing : goal.returns-clause-placing
returns-clause-placing c before es o =
    let e = c.args.e in
    let put = c.place in
    placing_told c.args.most before es (decide high_first e.variable e.high e.low es) put.new.index (output_of put.new.out) c.args.next c.in_ok-placed.was
    (put.ensures.placing true before es o)
