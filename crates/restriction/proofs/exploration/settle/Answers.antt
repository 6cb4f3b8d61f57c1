-- `restriction::exploration::settle` meets its contract: the entry is placed, or it may not be.
use Rattle.std.proofs.Common.{sym, ◌∙◌}
use Rattle.bdd.specs.Lent.{output_of}
use Rattle.bdd.specs.Signed.{decide, low_first}
use Rattle.index_run.proofs.Placing.{placing_told}
use Rattle.restriction.proofs.exploration.settle.Goals as goal

pub returns-in_err-placed-clause-placing : goal.returns-in_err-placed-clause-placing
returns-in_err-placed-clause-placing c before es o =
    let e = c.args.e in
    placing_told c.args.most before es (decide low_first e.variable e.low e.high es) c.place.new.index (output_of c.place.new.out) c.args.next
    (c.in_err-placed.was ∙ sym c.from_residual.ensures) (c.place.ensures.placing low_first before es o)

pub returns-clause-placing : goal.returns-clause-placing
returns-clause-placing c before es o =
    let e = c.args.e in
    placing_told c.args.most before es (decide low_first e.variable e.low e.high es) c.place.new.index (output_of c.place.new.out) c.args.next
    c.in_ok-placed.was (c.place.ensures.placing low_first before es o)
