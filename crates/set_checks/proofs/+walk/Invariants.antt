-- The proof of the cycle of calls {walk}. The measure is the entry's number: links lead to earlier entries.
use Rattle.set_checks.proofs.+walk.Given as goal

abbrev pub decreases-walk : goal.decreases-walk
decreases-walk l = l.i
