-- `build::build` meets its contract: the loop keeps its invariant, and when nothing waits the root is known.
use Rattle.bdd.specs.Lent.{output_of, SameOutput, SameWorking}
use Rattle.bdd.specs.Pairs.{job_of}
use Rattle.build.specs.Exploring.{looks}
use Rattle.build.proofs.Loop.{Going}
use Rattle.build.proofs.build.Given as goal

abbrev pub invariant-loop-state : goal.invariant-loop-state
invariant-loop-state l =
    Going (job_of l.job) l.job.flips.output l.most (output_of l.initial.out) (output_of l.out) l.initial.work.pairs.now l.work.pairs.now l.initial.work.stack.now l.work.stack.now l.initial.work.index.now l.work.index.now l.state
    × SameOutput l.initial.out l.out
    × SameWorking l.initial.work l.work

abbrev pub decreases-loop-state : goal.decreases-loop-state
decreases-loop-state l = looks (job_of l.job) l.work.pairs.now l.work.stack.now l.state.height
