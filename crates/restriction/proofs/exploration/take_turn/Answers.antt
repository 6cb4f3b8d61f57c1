-- `restriction::exploration::take_turn` meets its contract: each arm is one case of a turn.
use Rattle.std.proofs.Common.{arith}
use Rattle.bdd.specs.Lent.{output_of}
use Rattle.restriction.proofs.Turns.{room_top, sighted, settle_safe, turn_popped, turn_wants, turn_settled, turn_long}
use Rattle.restriction.proofs.exploration.take_turn.Goals as goal

pub look-requires : goal.look-requires
look-requires c = sighted c.requires.1.state c.requires.1.live c.requires.0

pub pop-requires : goal.pop-requires
pop-requires c = (c.requires.1.live, omega (arith, room_top c.requires.1.state c.requires.1.live c.requires.0))

pub offset_bounds-work-height : goal.offset_bounds-work-height
offset_bounds-work-height c = omega (arith, room_top c.requires.1.state c.requires.1.live c.requires.0)

pub bounds-work-height : goal.bounds-work-height
bounds-work-height c = room_top c.requires.1.state c.requires.1.live c.requires.0

pub overflow_add-result : goal.overflow_add-result
overflow_add-result c = omega (arith, room_top c.requires.1.state c.requires.1.live c.requires.0)

pub settle-requires : goal.settle-requires
settle-requires c =
    let parts = settle_safe c.requires.1.state c.requires.1.live c.requires.0 in
    record { bounds = parts.0; fit = parts.1.0; i_in_bounds = parts.1.1 }

pub pop-requires-in-Ready : goal.pop-requires-in-Ready
pop-requires-in-Ready c =
    (c.requires.1.live, omega (arith, room_top c.requires.1.state c.requires.1.live c.requires.0, c.settle.ensures.same_work.stack_length))

pub returns-in_err-placed-in-Ready-clause-turned : goal.returns-in_err-placed-in-Ready-clause-turned
returns-in_err-placed-in-Ready-clause-turned c before e =
    let put = c.settle in
    rw c.from_residual.ensures
    (turn_long e c.requires.1.live c.requires.0 _ (rw c.in-Ready.is at c.look.ensures)
    put.new.work.index.now (output_of put.new.out) put.new.work.map.now put.result put.ensures.placing put.ensures.settling c.in_err-placed-in-Ready.was)

pub returns-in-Finished-clause-turned : goal.returns-in-Finished-clause-turned
returns-in-Finished-clause-turned c before e =
    rw c.pop.ensures (turn_popped e c.requires.1.live (rw c.in-Finished.is at c.look.ensures))

pub returns-in-Wants-clause-turned : goal.returns-in-Wants-clause-turned
returns-in-Wants-clause-turned c before e =
    turn_wants e c.requires.1.live (rw c.in-Wants.is at c.look.ensures)
    (room_top e c.requires.1.live c.requires.0)

pub returns-in_ok-placed-in-Ready-clause-turned : goal.returns-in_ok-placed-in-Ready-clause-turned
returns-in_ok-placed-in-Ready-clause-turned c before e =
    let put = c.settle in
    rw (c.pop-in-Ready.ensures, put.ensures.waiting)
    (turn_settled e c.requires.1.live c.requires.0 _ (rw c.in-Ready.is at c.look.ensures)
    put.new.work.index.now (output_of put.new.out) put.new.work.map.now put.result put.ensures.placing put.ensures.settling _ c.in_ok-placed-in-Ready.was)
