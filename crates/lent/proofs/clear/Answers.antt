-- `lent::clear` meets its contract: the places that are done are zero, the others as they were.
use Rattle.lent.proofs.Fronts.{zeros_more}
use Rattle.lent.proofs.clear.Goals as goal

pub loop-place-preserved : goal.loop-place-preserved
loop-place-preserved g c =
    rw c.loop-place.invariant (zeros_more c.args.run.now c.loop-place.place-index c.zero-zero.result c.loop-place-test.true)
