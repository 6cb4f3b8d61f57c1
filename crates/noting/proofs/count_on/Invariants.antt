-- `noting::count_on` meets its contract: `Exploring` is the invariant, the pairs that can still be looked at the measure.
use Prim.Native.Nat.{◌-◌}
use mathlib.Core.Path.{◌≡◌}
use lib.ListN.{length}
use Rattle.bdd.specs.Pairs.{job_of}
use Rattle.noting.specs.Exploring.{Exploring}
use Rattle.noting.proofs.count_on.Given as goal

abbrev pub invariant-loop-state : goal.invariant-loop-state
invariant-loop-state l =
    Exploring (job_of l.job) l.pairs l.state × (length l.pairs ≡ length l.initial.pairs)

abbrev pub decreases-loop-state : goal.decreases-loop-state
decreases-loop-state l = length l.initial.pairs - l.state.done
