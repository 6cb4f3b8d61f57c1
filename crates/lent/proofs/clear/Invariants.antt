-- `lent::clear` meets its contract: the places that are done are zero, the others as they were.
use Rattle.std.proofs.Common.{◌≡◌, replicate, drop, ◌++◌}
use Rattle.lent.proofs.clear.Given as goal

abbrev pub invariant-loop-place : goal.invariant-loop-place
invariant-loop-place g l = l.run ≡ replicate l.place-index l.zero ++ drop l.place-index l.initial.run
