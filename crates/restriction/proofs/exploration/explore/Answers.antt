-- `restriction::exploration::explore` meets its contract: a terminal is itself; else the loop keeps its invariant, and when nothing
-- waits the root is known.
use Rattle.std.proofs.Common.{refl, arith}
use Rattle.bdd.specs.Lent.{set_of}
use Rattle.bdd.proofs.Ordered.{ordered_open}
use Rattle.restriction.proofs.Loop.{terminal, going_begun, going_less, going_on, going_long, going_done}
use Rattle.restriction.proofs.exploration.explore.Goals as goal

pub overflow_sub-root : goal.overflow_sub-root
overflow_sub-root c = omega (arith, (ordered_open (set_of c.args.job.now.set) c.requires.0.ordered).size_least)

pub overflow_cast-root : goal.overflow_cast-root
overflow_cast-root c = omega (arith, (ordered_open (set_of c.args.job.now.set) c.requires.0.ordered).size_most)

pub returns-then-root-lt2-clause-comes : goal.returns-then-root-lt2-clause-comes
returns-then-root-lt2-clause-comes c = terminal _ _ _ _ c.requires.0 _ refl c.if-root-lt2.true

pub loop-state-init : goal.loop-state-init
loop-state-init c =
    going_begun {lent = c.args.work.now} c.requires.0 c.requires.1
    (record { stack = refl; index = refl; map = refl; stack_length = refl; index_length = c.clear.auto.run; map_length = c.open_map.auto.map })
    _ c.clear.ensures c.open_map.ensures refl c.if-root-lt2.false

pub take_turn-requires : goal.take_turn-requires
take_turn-requires c =
    let g = c.loop-state.invariant in
    (g.rooms, record { live = c.loop-state-test.true; was = _; state = g.state })

pub returns-in_default-clause-comes : goal.returns-in_default-clause-comes
returns-in_default-clause-comes c =
    let did = c.take_turn in
    let g = c.loop-state.invariant in
    going_long g did.result did.new.out did.new.work (did.ensures.turned _ g.state) c.in_default.is

pub loop-state-smaller : goal.loop-state-smaller
loop-state-smaller c =
    let did = c.take_turn in
    let g = c.loop-state.invariant in
    going_less g did.result did.new.out did.new.work (did.ensures.turned _ g.state) _ c.in-Some.is

pub loop-state-preserved : goal.loop-state-preserved
loop-state-preserved c =
    let did = c.take_turn in
    let g = c.loop-state.invariant in
    going_on g did.result did.new.out did.new.work (did.ensures.turned _ g.state) _ c.in-Some.is did.ensures.same did.ensures.same_work

pub returns-clause-comes : goal.returns-clause-comes
returns-clause-comes c =
    going_done c.loop-state.invariant c.loop-state-test.false _ refl c.if-root-lt2.false c.concluded.result c.concluded.ensures
