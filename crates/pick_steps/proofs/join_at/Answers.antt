-- `pick_steps::join_at` meets its contract: each call is its step.
use Rattle.bdd.specs.Lent.{set_of, output_of}
use Rattle.bdd.specs.Operations.{working_of}
use Rattle.slots.proofs.Leaving.{long_as, alike_as}
use Rattle.pick_steps.proofs.Recursion.{join_then}
use Rattle.pick_steps.proofs.join_at.Goals as goal

pub returns-clause-leaves : goal.returns-clause-leaves
returns-clause-leaves c =
    let a = c.args in
    let first = c.var_pick_at in
    let second = c.operate_at in
    join_then (working_of a.work.now) (working_of first.new.work) a.place a.v (set_of a.set.now) (output_of a.out.now) (output_of first.new.out)
    (output_of second.new.out) (output_of a.spare.now) (output_of first.new.spare) (output_of second.new.spare) c.requires
    (alike_as first.ensures.same_work) (long_as first.ensures.same) first.ensures.leaves c.in_ok-one.was second.ensures.leaves
