-- `lent::copy` meets its contract: the places that are done are the other run's, the others as they were.
use Rattle.std.proofs.Common.{◌≡◌, ◌++◌, take, drop}
use Rattle.lent.proofs.copy.Given as goal

abbrev pub invariant-loop-i : goal.invariant-loop-i
invariant-loop-i g l = l.run ≡ take l.i l.from ++ drop l.i l.initial.run
