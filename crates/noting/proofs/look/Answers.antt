-- `noting::look` meets its contract: both children of the next noted pair are taken, one after the other.
use mathlib.Core.Path.{refl}
use native.Mathlib.Omega.{arith}
use Rattle.pairs.proofs.Pairs.{nine}
use Rattle.noting.proofs.Taking.{next_there, next_within, opened, taken_small, took, over}
use Rattle.noting.proofs.look.Goals as goal

pub pair_at-p-requires : goal.pair_at-p-requires
pair_at-p-requires c = next_there c.requires.0 c.requires.1.0 c.requires.1.1

pub expand-next-requires : goal.expand-next-requires
expand-next-requires c = next_within c.requires.0 c.requires.1.0 c.requires.1.1 c.pair_at-p.result c.pair_at-p.ensures

pub take-requires : goal.take-requires
take-requires c =
    record { table_len = nine c.requires.0; holds = (opened c.requires.0 c.requires.1.0 c.requires.1.1 c.pair_at-p.result c.pair_at-p.ensures c.expand-next.result (c.expand-next.ensures c.args.job.now.table.now)).holds; small = taken_small c.requires.0 c.expand-next.result.on (opened c.requires.0 c.requires.1.0 c.requires.1.1 c.pair_at-p.result c.pair_at-p.ensures c.expand-next.result (c.expand-next.ensures c.args.job.now.table.now)) }

pub take-requires-2 : goal.take-requires-2
take-requires-2 c =
    let u = took c.requires.0 c.expand-next.result.on (opened c.requires.0 c.requires.1.0 c.requires.1.1 c.pair_at-p.result c.pair_at-p.ensures c.expand-next.result (c.expand-next.ensures c.args.job.now.table.now)) c.take.result c.take.ensures c.in_ok-high.was in
    record { table_len = nine c.requires.0; holds = u.holds; small = taken_small c.requires.0 c.expand-next.result.off u }

pub overflow_add-result : goal.overflow_add-result
overflow_add-result c = omega (arith, c.requires.1.1, next_there c.requires.0 c.requires.1.0 c.requires.1.1)

pub returns : goal.returns
returns c =
    let t = c.take in
    let v = c.take-2 in
    let u = took c.requires.0 c.expand-next.result.on (opened c.requires.0 c.requires.1.0 c.requires.1.1 c.pair_at-p.result c.pair_at-p.ensures c.expand-next.result (c.expand-next.ensures c.args.job.now.table.now)) t.result t.ensures c.in_ok-high.was in
    record { exploring = took c.requires.0 c.expand-next.result.off u v.result v.ensures c.in_ok-low.was; further = refl }

pub returns-in_err-low : goal.returns-in_err-low
returns-in_err-low c =
    let t = c.take in
    let v = c.take-2 in
    let u = took c.requires.0 c.expand-next.result.on (opened c.requires.0 c.requires.1.0 c.requires.1.1 c.pair_at-p.result c.pair_at-p.ensures c.expand-next.result (c.expand-next.ensures c.args.job.now.table.now)) t.result t.ensures c.in_ok-high.was in
    rw c.from_residual-in_err-low.ensures (over c.requires.0 c.expand-next.result.off u _ t.auto.pairs _ v.result v.ensures c.in_err-low.was)

pub returns-in_err-high : goal.returns-in_err-high
returns-in_err-high c =
    let t = c.take in
    rw c.from_residual.ensures (over c.requires.0 c.expand-next.result.on (opened c.requires.0 c.requires.1.0 c.requires.1.1 c.pair_at-p.result c.pair_at-p.ensures c.expand-next.result (c.expand-next.ensures c.args.job.now.table.now)) _ refl _ t.result t.ensures c.in_err-high.was)
