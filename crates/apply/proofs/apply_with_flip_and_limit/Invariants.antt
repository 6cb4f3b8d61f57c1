-- `apply::apply_with_flip_and_limit` meets its contract: 7 where there is no room for a pair at all, else what the ways down and up come to.
use Rattle.bdd.specs.Lent.{output_of, SameOutput, SameWorking}
use Rattle.bdd.specs.Pairs.{job_of}
use Rattle.apply.specs.Awaiting.{left}
use Rattle.apply.proofs.Whole.{Going}
use Rattle.apply.proofs.apply_with_flip_and_limit.Given as goal

abbrev pub invariant-loop-down : goal.invariant-loop-down
invariant-loop-down l =
    Going (job_of l.job) l.job.flips.output l.most (output_of l.initial.out) (output_of l.out) l.initial.work.pairs.now l.work.pairs.now l.initial.work.stack.now l.work.stack.now l.initial.work.index.now l.work.index.now l.p l.depth l.count l.next
    × SameOutput l.initial.out l.out
    × SameWorking l.initial.work l.work

abbrev pub decreases-loop-down : goal.decreases-loop-down
decreases-loop-down l = left l.work.pairs.now l.work.stack.now l.depth l.count
