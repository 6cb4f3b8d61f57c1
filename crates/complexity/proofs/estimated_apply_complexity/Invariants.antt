-- `complexity::estimated_apply_complexity` meets its contract: `Exploring` is the invariant, the looks that are left the
use mathlib.Core.Path.{◌≡◌}
use lib.ListN.{length}
use Rattle.bdd.specs.Pairs.{job_of}
use Rattle.counting.proofs.Looks.{left}
use Rattle.complexity.specs.Exploring.{Exploring}
use Rattle.complexity.proofs.estimated_apply_complexity.Given as goal

abbrev pub invariant-loop-state : goal.invariant-loop-state
invariant-loop-state l =
    Exploring (job_of l.job) l.most l.pairs l.stack l.state
    × (length l.pairs ≡ length l.initial.pairs)
    × (length l.stack ≡ length l.initial.stack)

abbrev pub decreases-loop-state : goal.decreases-loop-state
decreases-loop-state l = left l.most l.state.count l.state.height
