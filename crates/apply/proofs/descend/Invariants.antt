-- `apply::descend` meets its contract: a pair is awaited until one has ended, and each pair that is opened leaves less of the way.
use Rattle.bdd.specs.Pairs.{job_of}
use Rattle.apply.specs.Awaiting.{left}
use Rattle.apply.proofs.Down.{Descending}
use Rattle.apply.proofs.descend.Given as goal

abbrev pub invariant-loop-number : goal.invariant-loop-number
invariant-loop-number l =
    Descending (job_of l.job) l.job.flips.output l.initial.pairs l.initial.stack l.initial.depth l.initial.count l.initial.p l.pairs l.stack l.depth l.count l.p

abbrev pub decreases-loop-number : goal.decreases-loop-number
decreases-loop-number l = left l.pairs l.stack l.depth l.count
