-- `picking::var_pick` meets its contract: refused by its checks, or what its steps come to.
use mathlib.Core.Path.{refl, ◌∙◌}
use mathlib.Core.List.{[], ◌∷◌}
use native.Mathlib.Omega.{arith}
use Rattle.bdd.specs.Lent.{set_of, output_of}
use Rattle.bdd.specs.Operations.{working_of}
use Rattle.bdd.proofs.Passing.{refused_as}
use Rattle.relation_ops.specs.Picking.{picking_one}
use Rattle.relation_ops.proofs.Whole.{early}
use Rattle.slots.proofs.Leaving.{long_as, alike_as, kept_same}
use Rattle.pick_steps.proofs.Recursion.{as_long, fewer_slots}
use Rattle.pick_ends.proofs.Admitting.{passing, stopping}
use Rattle.picking.proofs.Ending.{slots_behind, long_through, cleared_as, picks_all, stopped_picks, var_pick_lates}
use Rattle.picking.proofs.var_pick.Goals as goal

pub var_pick_at-answer-requires : goal.var_pick_at-answer-requires
var_pick_at-answer-requires c =
    let a = c.args in
    let w = c.room-w.result in
    let x = picking_one (set_of a.set.now) a.v in
    let passes = passing (early x (working_of a.work.now) (output_of a.spare.now) w) (set_of a.set.now) (a.v ∷ []) c.admit.ensures c.in_ok-admit.was in
    let saved = output_of c.keep.new.spare in
    record {
      below = omega arith;
      slots =
          rw (← c.room-w.ensures)
          (fewer_slots 1 3 w w saved saved (omega arith) (as_long _)
          (slots_behind x (working_of a.work.now) (output_of a.spare.now) w passes.clean saved (long_as c.keep.ensures.same) refl));
    }

pub returns-in_err-admit-clause-picks : goal.returns-in_err-admit-clause-picks
returns-in_err-admit-clause-picks c =
    let a = c.args in
    let x = picking_one (set_of a.set.now) a.v in
    rw (refused_as c.from_residual.ensures.1)
    (stopped_picks x (output_of a.out.now) (working_of a.work.now) (output_of a.spare.now) c.room-w.ensures
    (stopping (early x (working_of a.work.now) (output_of a.spare.now) c.room-w.result) (set_of a.set.now) (a.v ∷ []) c.admit.ensures c.in_err-admit.was))

pub returns-clause-picks : goal.returns-clause-picks
returns-clause-picks c =
    let a = c.args in
    let w = c.room-w.result in
    let x = picking_one (set_of a.set.now) a.v in
    let lent = working_of a.work.now in
    let spare = output_of a.spare.now in
    let passes = passing (early x lent spare w) (set_of a.set.now) (a.v ∷ []) c.admit.ensures c.in_ok-admit.was in
    let keep = c.keep in
    let steps = c.var_pick_at-answer in
    let ends = c.clear_all in
    let kept = long_as keep.ensures.same in
    let left = long_as steps.ensures.same_spare in
    picks_all x (output_of a.out.now) (output_of steps.new.out) (output_of c.hand_out.new.out) lent (working_of ends.new.work) spare (output_of keep.new.spare)
    (output_of steps.new.spare) (output_of ends.new.spare) c.room-w.ensures passes.clean
    (var_pick_lates (set_of a.set.now) a.v w lent spare (omega (arith, c.room-w.ensures)) passes.clean) (long_as steps.ensures.same) kept left
    (keep.ensures.kept ∙ kept_same 0 w spare c.as_set.ensures)
    steps.ensures.leaves (rw c.as_set-2.ensures at c.hand_out.ensures.handed)
    (cleared_as lent (working_of steps.new.work) (working_of ends.new.work) spare (output_of steps.new.spare) (output_of ends.new.spare)
    (alike_as steps.ensures.same_work) (long_through kept left) ends.ensures.cleared)
