-- `compare::part::walk` meets its contract: the walk as far as it came.
use Rattle.std.proofs.Common.{◌+◌}
use Rattle.bdd.specs.Lent.{set_of}
use Rattle.compare.proofs.Parting.{Walking}
use Rattle.compare.proofs.part.walk.Given as goal

abbrev pub invariant-loop-setting : goal.invariant-loop-setting
invariant-loop-setting l = Walking (set_of l.left) (set_of l.right) l.n l.room l.at.left l.at.right l.setting

abbrev pub decreases-loop-setting : goal.decreases-loop-setting
decreases-loop-setting l = l.at.left + l.at.right
