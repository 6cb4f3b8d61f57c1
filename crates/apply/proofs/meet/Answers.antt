-- `apply::meet` meets its contract: each way out is one case of a look at the pair that is awaited.
use Prim.Native.Nat.{◌*◌}
use mathlib.Core.Path.{ap, ◌∙◌}
use native.Mathlib.Omega.{arith}
use Rattle.step.specs.Step.{code}
use Rattle.apply.specs.Frames.{framed}
use Rattle.pairs.proofs.Pairs.{nine}
use Rattle.apply.proofs.Down.{awaited_within, meet_decided, answer_known, answer_full, answer_new, push_ready, meet_open}
use Rattle.apply.proofs.meet.Goals as goal

pub decide-decision-requires : goal.decide-decision-requires
decide-decision-requires c = nine c.requires.state.checked

pub returns-then-decision-lt2 : goal.returns-then-decision-lt2
returns-then-decision-lt2 c es a = (meet_decided a c.decide-decision.ensures c.if-decision-lt2.true, omega arith)

pub asked-ask-requires : goal.asked-ask-requires
asked-ask-requires c = let w = awaited_within c.requires.state in (w.0.variable, w.1.variable)

pub ways_of-ways-requires : goal.ways_of-ways-requires
ways_of-ways-requires c = awaited_within c.requires.state

pub push-requires : goal.push-requires
push-requires c =
    rw c.apart.ensures (push_ready c.requires.state c.decide-decision.ensures c.if-decision-lt2.false c.asked-ask.ensures c.insert.result c.insert.ensures
    c.in-New.is (c.ways_of-ways.ensures _).other c.requires.places)

pub returns-in-Known : goal.returns-in-Known
returns-in-Known c es a =
    answer_known a c.decide-decision.ensures c.if-decision-lt2.false c.asked-ask.ensures c.insert.result c.insert.ensures c.in-Known.is

pub returns-in-Full : goal.returns-in-Full
returns-in-Full c es a =
    answer_full a c.decide-decision.ensures c.if-decision-lt2.false c.asked-ask.ensures c.insert.result c.insert.ensures c.in-Full.is

pub returns-in-New : goal.returns-in-New
returns-in-New c es a =
    let told = c.decide-decision.ensures in
    let ways = c.ways_of-ways.ensures _ in
    let put = c.insert in
    let pushed = c.push.ensures ∙ ap (λ q. framed c.args.stack.now c.args.depth (2 * c.args.count) (code q)) c.apart.ensures in
    rw c.apart-in-New.ensures (meet_open a told c.if-decision-lt2.false (answer_new a told c.if-decision-lt2.false c.asked-ask.ensures put.result put.ensures c.in-New.is) put.auto.run ways.near ways.other c.requires.places pushed)
