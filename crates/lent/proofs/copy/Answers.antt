-- `lent::copy` meets its contract: the places that are done are the other run's, the others as they were.
use Rattle.std.proofs.Common.{arith, sym}
use Rattle.lent.proofs.Fronts.{front_more}
use Rattle.lent.proofs.copy.Goals as goal

pub loop-i-preserved : goal.loop-i-preserved
loop-i-preserved g c =
    rw c.loop-i.invariant (front_more c.args.run.now c.args.from.now c.loop-i.i c.index-from-i.result (grind arith) (grind arith) (sym c.index-from-i.is))
