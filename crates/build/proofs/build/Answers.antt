-- `build::build` meets its contract: the loop keeps its invariant, and when nothing waits the root is known.
use Rattle.std.proofs.Common.{rules}
use Rattle.bdd.specs.Lent.{output_of}
use Rattle.step.proofs.Codes.{roots_there, roots_are, roots_small}
use Rattle.build.proofs.Loop.{alike_of, going_begun, going_less, going_on, going_long, going_done}
use Rattle.build.proofs.build.Goals as goal

pub roots-root-requires-clause-left_sized : goal.roots-root-requires-clause-left_sized
roots-root-requires-clause-left_sized c = (roots_there c.requires.checked).0

pub roots-root-requires-clause-right_sized : goal.roots-root-requires-clause-right_sized
roots-root-requires-clause-right_sized c = (roots_there c.requires.checked).1

pub push-requires-clause-small : goal.push-requires-clause-small
push-requires-clause-small c = roots_small c.requires.checked c.roots-root.ensures

pub loop-state-init : goal.loop-state-init
loop-state-init c =
    let root = c.roots-root in (
      going_begun c.requires c.args.job.now.flips.output root.result c.clear.ensures c.clear-2.ensures (roots_are c.requires.checked root.ensures) c.push.ensures,
      search rules,
      search rules,
    )

pub returns-in_err-state-clause-outcome : goal.returns-in_err-state-clause-outcome
returns-in_err-state-clause-outcome c =
    let did = c.take_turn in
    let back = did.new.work in
    let g = c.loop-state.invariant.0 in
    rw c.from_residual.ensures
    (going_long g did.result (output_of did.new.out) back.pairs.now back.stack.now back.index.now (did.ensures.turned _ g.state) c.in_err-state.was)

pub loop-state-smaller : goal.loop-state-smaller
loop-state-smaller c =
    let did = c.take_turn in
    let back = did.new.work in
    let g = c.loop-state.invariant.0 in
    going_less g did.result (output_of did.new.out) back.pairs.now back.stack.now back.index.now (did.ensures.turned _ g.state) _ c.in_ok-state.was

pub loop-state-preserved : goal.loop-state-preserved
loop-state-preserved c =
    let did = c.take_turn in
    let back = did.new.work in
    let g = c.loop-state.invariant.0 in (
      going_on g did.result (output_of did.new.out) back.pairs.now back.stack.now back.index.now (did.ensures.turned _ g.state) _ c.in_ok-state.was
          (alike_of did.ensures.same did.ensures.same_work),
      search rules,
      search rules,
    )

pub returns-clause-outcome : goal.returns-clause-outcome
returns-clause-outcome c =
    going_done c.loop-state.invariant.0 c.loop-state-test.false _ (roots_are c.requires.checked c.roots-root.ensures) c.concluded.result c.concluded.ensures
