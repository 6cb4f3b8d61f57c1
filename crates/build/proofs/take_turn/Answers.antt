-- `build::take_turn` meets its contract: each arm is one case of a turn.
use native.Mathlib.Omega.{arith}
use Rattle.bdd.specs.Lent.{output_of}
use Rattle.build.proofs.Turns.{look_safe, room_two, count_fits, wanted_fits, turn_wanted, turn_settled, turn_long}
use Rattle.build.proofs.take_turn.Goals as goal

pub offset_bounds-work-height : goal.offset_bounds-work-height
offset_bounds-work-height c = omega (arith, room_two c.requires.1.state c.requires.1.live c.requires.0)

pub bounds-work-height : goal.bounds-work-height
bounds-work-height c = omega (arith, room_two c.requires.1.state c.requires.1.live c.requires.0)

pub look-requires : goal.look-requires
look-requires c = look_safe c.requires.1.state c.requires.1.live c.pair_of-top.ensures

pub restack-requires-clause-height_bound : goal.restack-requires-clause-height_bound
restack-requires-clause-height_bound c = (c.requires.1.live, omega (arith, room_two c.requires.1.state c.requires.1.live c.requires.0))

pub restack-requires-clause-fits : goal.restack-requires-clause-fits
restack-requires-clause-fits c = wanted_fits c.requires.1.state c.requires.1.live c.pair_of-top.ensures c.look.result c.look.ensures _ c.in-Wants.is

pub returns-in_err-placed-in-Ready-clause-turned : goal.returns-in_err-placed-in-Ready-clause-turned
returns-in_err-placed-in-Ready-clause-turned c before e =
    let put = c.settle in
    let back = put.new.work in
    rw c.from_residual.ensures
    (turn_long e c.requires.1.live c.pair_of-top.ensures c.look.result c.look.ensures c.requires.0 _ _ _ c.in-Ready.is back.index.now
    (output_of put.new.out) back.pairs.now put.result put.ensures.placing put.ensures.settling c.in_err-placed-in-Ready.was)

pub overflow_add-result : goal.overflow_add-result
overflow_add-result c = omega (arith, count_fits c.requires.1.state c.requires.1.live)

pub returns-in-Wants-clause-turned : goal.returns-in-Wants-clause-turned
returns-in-Wants-clause-turned c before e =
    turn_wanted e c.requires.1.live c.pair_of-top.ensures c.look.result c.look.ensures _ c.in-Wants.is c.restack.ensures (room_two c.requires.1.state c.requires.1.live c.requires.0)

pub returns-in_ok-placed-in-Ready-clause-turned : goal.returns-in_ok-placed-in-Ready-clause-turned
returns-in_ok-placed-in-Ready-clause-turned c before e =
    let put = c.settle in
    let back = put.new.work in
    rw put.ensures.kept
    (turn_settled e c.requires.1.live c.pair_of-top.ensures c.look.result c.look.ensures c.requires.0 _ _ _ c.in-Ready.is back.index.now
    (output_of put.new.out) back.pairs.now put.result put.ensures.placing put.ensures.settling _ c.in_ok-placed-in-Ready.was)
