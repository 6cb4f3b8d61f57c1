-- `apply::ascend` meets its contract: the loop keeps its invariant, frame after frame.
use mathlib.Core.Path.{refl}
use native.Mathlib.Omega.{arith}
use Rattle.std.proofs.Common.{rules}
use lib.Seq.{lt-length-set}
use Rattle.bdd.specs.Lent.{output_of}
use Rattle.apply.proofs.Climbing.{climb_done, climb_fits, climb_node, climb_next, climb_room, climb_turned, climb_on, climb_long}
use Rattle.apply.proofs.ascend.Goals as goal

pub overflow_mul-at : goal.overflow_mul-at
overflow_mul-at c = omega (arith, climb_fits c.loop-depth.invariant.0 c.loop-depth-test.true c.requires.upward)

pub offset_bounds-work-at : goal.offset_bounds-work-at
offset_bounds-work-at c = omega (arith, climb_fits c.loop-depth.invariant.0 c.loop-depth-test.true c.requires.upward)

pub bounds-work-at : goal.bounds-work-at
bounds-work-at c = omega (arith, climb_fits c.loop-depth.invariant.0 c.loop-depth-test.true c.requires.upward)

pub overflow_add-waits : goal.overflow_add-waits
overflow_add-waits c = omega (arith, climb_fits c.loop-depth.invariant.0 c.loop-depth-test.true c.requires.upward)

pub offset_bounds-work-at-in-loop-depth : goal.offset_bounds-work-at-in-loop-depth
offset_bounds-work-at-in-loop-depth c = omega (arith, climb_fits c.loop-depth.invariant.0 c.loop-depth-test.true c.requires.upward)

pub bounds-work-at-in-loop-depth : goal.bounds-work-at-in-loop-depth
bounds-work-at-in-loop-depth c = omega (arith, climb_fits c.loop-depth.invariant.0 c.loop-depth-test.true c.requires.upward)

pub offset_bounds-work-at-then-first-eq0 : goal.offset_bounds-work-at-then-first-eq0
offset_bounds-work-at-then-first-eq0 c = omega (arith, climb_fits c.loop-depth.invariant.0 c.loop-depth-test.true c.requires.upward)

pub bounds-work-at-then-first-eq0 : goal.bounds-work-at-then-first-eq0
bounds-work-at-then-first-eq0 c = omega (arith, climb_fits c.loop-depth.invariant.0 c.loop-depth-test.true c.requires.upward)

pub overflow_add-work-then-first-eq0 : goal.overflow_add-work-then-first-eq0
overflow_add-work-then-first-eq0 c = omega (arith, climb_fits c.loop-depth.invariant.0 c.loop-depth-test.true c.requires.upward)

pub offset_bounds-work-at-then-first-eq0-2 : goal.offset_bounds-work-at-then-first-eq0-2
offset_bounds-work-at-then-first-eq0-2 c = omega (arith, climb_fits c.loop-depth.invariant.0 c.loop-depth-test.true c.requires.upward)

pub bounds-work-at-then-first-eq0-2 : goal.bounds-work-at-then-first-eq0-2
bounds-work-at-then-first-eq0-2 c = lt-length-set c.loop-depth.work.stack.now _ _ (climb_fits c.loop-depth.invariant.0 c.loop-depth-test.true c.requires.upward)

pub returns-then-first-eq0-clause-rises : goal.returns-then-first-eq0-clause-rises
returns-then-first-eq0-clause-rises c = climb_turned c.loop-depth.invariant.0 c.loop-depth-test.true c.if-first-eq0.true (climb_fits c.loop-depth.invariant.0 c.loop-depth-test.true c.requires.upward)

pub settle-requires-clause-node_bound : goal.settle-requires-clause-node_bound
settle-requires-clause-node_bound c = climb_node c.loop-depth.invariant.0 c.loop-depth-test.true c.requires.upward

pub settle-requires-clause-bounds : goal.settle-requires-clause-bounds
settle-requires-clause-bounds c =
    let g = c.loop-depth.invariant.0 in
    let some = c.loop-depth-test.true in
    let asks = c.requires in
    let next = climb_next g some asks.upward in
    let room = climb_room g some (asks.bounds.1, asks.bounds.2) in
    (asks.bounds.0, next.0, next.1, room.0)

pub returns-in_default-clause-rises : goal.returns-in_default-clause-rises
returns-in_default-clause-rises c =
    let did = c.settle in
    climb_long c.loop-depth.invariant.0 c.loop-depth-test.true (omega (arith, c.if-first-eq0.false)) c.requires.bounds.0 did.new.pairs did.new.index
    (output_of did.new.out) did.result did.ensures.placing did.ensures.settling c.in_default.is

pub loop-depth-preserved : goal.loop-depth-preserved
loop-depth-preserved c =
    let did = c.settle in
    let same = did.ensures.same in (
      climb_on c.loop-depth.invariant.0 c.loop-depth-test.true (omega (arith, c.if-first-eq0.false)) c.requires.bounds.0 did.new.pairs did.new.index
          (output_of did.new.out) did.result did.ensures.placing did.ensures.settling _ _ c.in-Some.is
          (record { variable = same.variable_length; low = same.low_length; high = same.high_length; pairs_length = did.auto.pairs; stack_length = refl; index_length = did.auto.index }),
      search rules,
      search rules,
    )

pub returns-clause-rises : goal.returns-clause-rises
returns-clause-rises c = climb_done c.loop-depth.invariant.0 c.loop-depth-test.false
