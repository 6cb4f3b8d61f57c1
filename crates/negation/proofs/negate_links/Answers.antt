-- `negation::negate_links` meets its contract.
use Rattle.std.proofs.Common.{arith}
use Rattle.negation.proofs.Kept.{links_more}
use Rattle.negation.proofs.negate_links.Goals as goal

pub loop-i-preserved : goal.loop-i-preserved
loop-i-preserved c = links_more c.args.from.now c.loop-i.invariant (omega arith) (omega arith) c.negated_link.ensures
