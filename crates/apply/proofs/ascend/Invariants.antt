-- `apply::ascend` meets its contract: the loop keeps its invariant, frame after frame.
use Rattle.bdd.specs.Lent.{output_of, SameOutput, SameWorking}
use Rattle.apply.proofs.Climbing.{Climbing}
use Rattle.apply.proofs.ascend.Given as goal

abbrev pub invariant-loop-depth : goal.invariant-loop-depth
invariant-loop-depth l =
    Climbing l.most (output_of l.initial.out) l.initial.work.pairs.now l.initial.work.stack.now l.initial.work.index.now l.opened l.ended l.behind (output_of l.out) l.work.pairs.now l.work.stack.now l.work.index.now l.depth l.v l.next
    × SameOutput l.initial.out l.out
    × SameWorking l.initial.work l.work

abbrev pub decreases-loop-depth : goal.decreases-loop-depth
decreases-loop-depth l = l.depth
