-- The proof of the cycle of calls {pick_at}. The measure is the number of marked options.
use Rattle.std.proofs.Common.{length}
use Rattle.marks.specs.Marking.{marked_options}
use Rattle.pick_options.proofs.+pick_at.Given as goal

abbrev pub decreases-pick_at : goal.decreases-pick_at
decreases-pick_at l = length (marked_options l.marks)
