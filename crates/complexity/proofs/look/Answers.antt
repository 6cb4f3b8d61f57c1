-- `complexity::look` meets its contract: by what the table and the pair run say of the top.
use mathlib.Core.Path.{refl}
use native.Mathlib.Omega.{arith}
use Rattle.pairs.proofs.Pairs.{nine}
use Rattle.complexity.proofs.Looking.{top_place, top_within, top_small, new_fits, push_ready, look_decided, look_known, look_full, look_new}
use Rattle.complexity.proofs.look.Goals as goal

pub waiting-p-requires : goal.waiting-p-requires
waiting-p-requires c = top_place c.requires

pub decide-decision-requires : goal.decide-decision-requires
decide-decision-requires c = nine c.requires.0

pub shape_of-stack-then-decision-ne2 : goal.shape_of-stack-then-decision-ne2
shape_of-stack-then-decision-ne2 c = refl

pub returns-then-decision-ne2 : goal.returns-then-decision-ne2
returns-then-decision-ne2 c =
    let d = c.decide-decision in
    look_decided c.requires c.waiting-p.result c.waiting-p.ensures d.result d.ensures c.if-decision-ne2.true c.held.result c.held.ensures

pub note-requires : goal.note-requires
note-requires c =
    record { holds = c.requires.1.0.holds; small = top_small c.requires c.waiting-p.result c.waiting-p.ensures }

pub expand-requires : goal.expand-requires
expand-requires c =
    top_within c.requires c.waiting-p.result c.waiting-p.ensures

pub push_both-requires : goal.push_both-requires
push_both-requires c =
    let d = c.decide-decision in
    let parts = push_ready c.requires c.waiting-p.result c.waiting-p.ensures d.result d.ensures c.if-decision-ne2.false c.expand.result
    (c.expand.ensures c.args.job.now.table.now) in record { at_in_bounds = parts.0; small_off = parts.1.0; small_on = parts.1.1 }

pub overflow_add-result : goal.overflow_add-result
overflow_add-result c =
    let d = c.decide-decision in
    let fits =
    push_ready c.requires c.waiting-p.result c.waiting-p.ensures d.result d.ensures c.if-decision-ne2.false c.expand.result
    (c.expand.ensures c.args.job.now.table.now) in
    omega (arith, fits.0)

pub overflow_add-result-in-New : goal.overflow_add-result-in-New
overflow_add-result-in-New c =
    let n = c.note in
    omega (arith, new_fits _ _ _ c.waiting-p.result _ n.result n.ensures c.in-New.is, c.ranges.most)

pub shape_of-pairs-in-Full : goal.shape_of-pairs-in-Full
shape_of-pairs-in-Full c = c.note.auto.pairs

pub shape_of-stack-in-Full : goal.shape_of-stack-in-Full
shape_of-stack-in-Full c = refl

pub returns-in-Full : goal.returns-in-Full
returns-in-Full c =
    let d = c.decide-decision in
    let n = c.note in
    look_full c.requires c.waiting-p.result c.waiting-p.ensures d.result d.ensures c.if-decision-ne2.false
    _ n.result n.ensures c.in-Full.is

pub shape_of-pairs-in-Known : goal.shape_of-pairs-in-Known
shape_of-pairs-in-Known c = c.note.auto.pairs

pub shape_of-stack-in-Known : goal.shape_of-stack-in-Known
shape_of-stack-in-Known c = refl

pub returns-in-Known : goal.returns-in-Known
returns-in-Known c =
    let d = c.decide-decision in
    let n = c.note in
    look_known c.requires c.waiting-p.result c.waiting-p.ensures d.result d.ensures c.if-decision-ne2.false
    n.result n.ensures c.in-Known.is

pub shape_of-pairs-in-New : goal.shape_of-pairs-in-New
shape_of-pairs-in-New c = c.note.auto.pairs

pub shape_of-stack-in-New : goal.shape_of-stack-in-New
shape_of-stack-in-New c = c.push_both.auto.stack

pub returns-in-New : goal.returns-in-New
returns-in-New c =
    let d = c.decide-decision in
    let e = c.expand in
    let n = c.note in
    look_new c.requires c.waiting-p.result c.waiting-p.ensures d.result d.ensures c.if-decision-ne2.false
    e.result (e.ensures c.args.job.now.table.now) n.result n.ensures c.in-New.is n.auto.pairs c.push_both.ensures
