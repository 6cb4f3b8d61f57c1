-- The proof of the cycle of calls {pick_at}. The measure is the number of marked options.
use native.Mathlib.Omega.{arith}
use mathlib.Core.Path.{ap}
use lib.ListN.{length}
use Rattle.bdd.specs.Lent.{set_of, output_of}
use Rattle.bdd.specs.Operations.{working_of}
use Rattle.bdd.proofs.Passing.{refused_as}
use Rattle.marks.specs.Marking.{marked_options}
use Rattle.slots.specs.Slots.{set_at}
use Rattle.slots.proofs.Leaving.{long_as, alike_as}
use Rattle.pick_steps.proofs.Recursion.{greatest_so, others_so, nothing_so, nothing_picked, exists_refused, rest_ready, rest_refused, join_ready, rest_joined, alike_through}
use Rattle.pick_options.proofs.+pick_at.Goals as goal

pub returns-in_default-clause-leaves : goal.returns-in_default-clause-leaves
returns-in_default-clause-leaves t c =
    let a = c.args in
    let copied = c.copy_at in
    nothing_picked (working_of a.work.now) (marked_options a.marks) (set_at a.place (set_of a.set.now) (output_of a.spare.now)) {t = a.t} {was = output_of a.out.now}
    {now = output_of copied.new.out} {spare = output_of a.spare.now} {left = output_of copied.new.spare} (nothing_so c.greatest.ensures c.in_default.is) copied.ensures.leaves

pub pick_at-requires : goal.pick_at-requires
pick_at-requires t c =
    let a = c.args in
    let first = c.operate_at in
    let others = others_so c.greatest.ensures c.in-Some.is c.without-others.ensures in (
      omega (arith, ap length others),
      rest_ready (working_of a.work.now) a.place _ (marked_options a.marks) _ others (set_of a.set.now) (output_of a.out.now) (output_of first.new.out) (output_of a.spare.now)
          (output_of first.new.spare) a.t first.ensures.leaves a.w c.in_ok-s.was (long_as first.ensures.same) c.requires (long_as first.ensures.same_spare),
    )

pub join_at-requires : goal.join_at-requires
join_at-requires t c =
    let a = c.args in
    let first = c.operate_at in
    let second = c.pick_at in
    let others = others_so c.greatest.ensures c.in-Some.is c.without-others.ensures in
    join_ready (working_of a.work.now) a.place _ (marked_options a.marks) _ others (set_of a.set.now) (output_of a.out.now) (output_of first.new.out) (output_of a.spare.now)
    (output_of first.new.spare) a.t first.ensures.leaves a.w c.in_ok-s.was (long_as first.ensures.same) (working_of first.new.work) (alike_as first.ensures.same_work)
    {late = output_of second.new.out} {after = output_of second.new.spare} second.ensures.leaves c.in_ok-rest.was (long_as second.ensures.same) c.requires
    (long_as first.ensures.same_spare) (long_as second.ensures.same_spare)

pub returns-in_err-s-clause-leaves : goal.returns-in_err-s-clause-leaves
returns-in_err-s-clause-leaves t c =
    let a = c.args in
    let first = c.operate_at in
    rw (refused_as c.from_residual.ensures.1)
    (exists_refused (working_of a.work.now) a.place _ (marked_options a.marks) _ (greatest_so c.greatest.ensures c.in-Some.is) (set_of a.set.now) (output_of a.out.now)
    (output_of first.new.out) (output_of a.spare.now) (output_of first.new.spare) a.t first.ensures.leaves {now = output_of first.new.out} {left = output_of first.new.spare}
    c.in_err-s.was)

pub returns-in_err-rest-clause-leaves : goal.returns-in_err-rest-clause-leaves
returns-in_err-rest-clause-leaves t c =
    let a = c.args in
    let first = c.operate_at in
    let second = c.pick_at in
    let others = others_so c.greatest.ensures c.in-Some.is c.without-others.ensures in
    rw (refused_as c.from_residual-in_err-rest.ensures.1)
    (rest_refused (working_of a.work.now) a.place _ (marked_options a.marks) _ others (set_of a.set.now) (output_of a.out.now) (output_of first.new.out) (output_of a.spare.now)
    (output_of first.new.spare) a.t first.ensures.leaves a.w c.in_ok-s.was (long_as first.ensures.same) (working_of first.new.work) (alike_as first.ensures.same_work)
    {late = output_of second.new.out} {after = output_of second.new.spare} second.ensures.leaves {now = output_of second.new.out} {left = output_of second.new.spare}
    c.in_err-rest.was)

pub returns-clause-leaves : goal.returns-clause-leaves
returns-clause-leaves t c =
    let a = c.args in
    let first = c.operate_at in
    let second = c.pick_at in
    let third = c.join_at in
    let others = others_so c.greatest.ensures c.in-Some.is c.without-others.ensures in
    let alike = alike_as first.ensures.same_work in
    rest_joined (working_of a.work.now) a.place _ (marked_options a.marks) _ others (set_of a.set.now) (output_of a.out.now) (output_of first.new.out) (output_of a.spare.now)
    (output_of first.new.spare) a.t first.ensures.leaves a.w c.in_ok-s.was (long_as first.ensures.same) (working_of first.new.work) alike {late = output_of second.new.out}
    {after = output_of second.new.spare} second.ensures.leaves c.in_ok-rest.was (long_as second.ensures.same) (working_of second.new.work)
    (alike_through alike (alike_as second.ensures.same_work)) c.requires.set {now = output_of third.new.out} {left = output_of third.new.spare} third.ensures.leaves
