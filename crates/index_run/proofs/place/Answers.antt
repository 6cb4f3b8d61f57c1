-- `index_run::place` meets its contract: each way to place an entry is as `decide` says.
use native.Mathlib.Omega.{arith}
use Rattle.index_run.proofs.Laws.{on_new, on_known, on_full, same_known}
use Rattle.index_run.proofs.Placing.{placing_alike, placing_known, placing_new, placing_long}
use Rattle.index_run.proofs.place.Goals as goal

pub returns-then-e-clause-placing : goal.returns-then-e-clause-placing
returns-then-e-clause-placing c first was es o = let e = c.args.e in placing_alike first e.variable e.low e.high o c.if-e.true

pub returns-in-Known-clause-placing : goal.returns-in-Known-clause-placing
returns-in-Known-clause-placing c first was es o =
    let e = c.args.e in
    let known = c.in-Known.is in
    placing_known first e.variable e.low e.high o c.if-e.false _ (same_known (rw c.as_set.ensures at c.insert.ensures) known) (on_known (rw c.as_set.ensures at c.insert.ensures) known o.indexed)

pub returns-in-New-clause-placing : goal.returns-in-New-clause-placing
returns-in-New-clause-placing c first was es o =
    let e = c.args.e in
    placing_new first e.variable e.low e.high o c.if-e.false _ (on_new (rw c.as_set.ensures at c.insert.ensures) c.in-New.is o.indexed) c.append.result
    c.append.ensures.appended c.requires.fit

pub returns-in-Full-clause-placing : goal.returns-in-Full-clause-placing
returns-in-Full-clause-placing c first was es o =
    let e = c.args.e in
    let full = on_full (rw c.as_set.ensures at c.insert.ensures) c.in-Full.is o.indexed in
    placing_long first e.variable e.low e.high o c.if-e.false full.fresh (omega (arith, full.full, c.requires.bounds))
