-- `restriction::exploration::explore` ends: fewer looks are left after each turn.
use Rattle.bdd.specs.Lent.{set_of}
use Rattle.restriction.specs.Exploring.{looks}
use Rattle.restriction.proofs.Loop.{Going}
use Rattle.restriction.proofs.exploration.explore.Given as goal

abbrev pub invariant-loop-state : goal.invariant-loop-state
invariant-loop-state l =
    Going (set_of l.job.set) l.job.values.now l.most l.initial.out l.out l.initial.work l.work l.state

abbrev pub decreases-loop-state : goal.decreases-loop-state
decreases-loop-state l = looks (set_of l.job.set) l.work.map.now l.state
