-- `compare::follow` meets its contract: each entry on the way has the value of the root.
use Rattle.bdd.specs.Lent.{set_of}
use Rattle.compare.proofs.Values.{Follows}
use Rattle.compare.proofs.follow.Given as goal

abbrev pub invariant-loop-i : goal.invariant-loop-i
invariant-loop-i l = Follows (set_of l.set) l.setting l.i

abbrev pub decreases-loop-i : goal.decreases-loop-i
decreases-loop-i l = l.i
