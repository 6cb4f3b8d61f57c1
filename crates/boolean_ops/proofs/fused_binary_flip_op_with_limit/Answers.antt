-- `boolean_ops::fused_binary_flip_op_with_limit` meets its contract: refused by the checks, or what its exploration came to.
use lib.ListN.{length}
use Rattle.bdd.specs.Array.{options}
use Rattle.bdd.specs.Lent.{output_of}
use Rattle.bdd.specs.Operations.{operation_of, job_checks, working_of}
use Rattle.bdd.specs.Pairs.{job_of}
use Rattle.bdd.proofs.Passing.{refused_as}
use Rattle.boolean_ops.proofs.Drying.{admitted, refused}
use Rattle.boolean_ops.proofs.Operating.{clean_left, stopped, index_short}
use Rattle.boolean_ops.proofs.Whole.{admissible, zeros_kept, operates}
use Rattle.boolean_ops.proofs.fused_binary_flip_op_with_limit.Goals as goal

pub returns-in_err-n-clause-operates : goal.returns-in_err-n-clause-operates
returns-in_err-n-clause-operates c = rw (refused_as c.from_residual.ensures.1) (stopped _ _ _ (refused _ _ c.admit.ensures c.in_err-n.was))

pub returns-then-work-w-clause-operates : goal.returns-then-work-w-clause-operates
returns-then-work-w-clause-operates c =
    index_short _ _ _ (admitted _ _ c.admit.ensures c.in_ok-n.was).clean (rw c.room-w.ensures at c.if-work-w.true)

pub apply_with_flip_and_limit-explored-requires : goal.apply_with_flip_and_limit-explored-requires
apply_with_flip_and_limit-explored-requires c =
    let a = c.args in
    let j = job_of a.job.now in
    let out = a.job.now.flips.output in
    let places = length a.work.now.stack.now in
    let clean = (admitted (job_checks j out places) (options j.left) c.admit.ensures c.in_ok-n.was).clean in
    admissible j c.bound_of-bound.result.most (output_of a.out.now) a.work.now.stack.now a.work.now.index.now (clean_left j out places clean)
    (rw c.room-w.ensures at c.bound_of-bound.ensures.room_most) (rw c.room-w.ensures at c.if-work-w.false)

pub returns-clause-operates : goal.returns-clause-operates
returns-clause-operates c =
    let x = c.apply_with_flip_and_limit-explored in
    let a = c.args in
    let j = job_of a.job.now in
    let passed = admitted (job_checks j a.job.now.flips.output (length a.work.now.stack.now)) (options j.left) c.admit.ensures c.in_ok-n.was in
    let lent = working_of a.work.now in
    let back = working_of c.clear_working.new.work in
    let left = c.leave in
    let same = x.ensures.same in
    let same_work = x.ensures.same_work in
    operates (operation_of a.job.now a.limit) (output_of a.out.now) (output_of x.new.out) (output_of left.new.out) lent back c.bound_of-bound.result _ passed.clean
    (rw c.room-w.ensures at c.if-work-w.false)
    (zeros_kept lent (working_of x.new.work) back same_work.pairs_length same_work.stack_length same_work.index_length c.clear_working.ensures.zeros)
    (record { variable = same.variable_length; low = same.low_length; high = same.high_length })
    (rw c.room-w.ensures at c.bound_of-bound.ensures) passed.options x.result x.ensures.explores c.answer_of-answer.ensures left.ensures.left
